use Rattle.std.proofs.Common.{◌≡◌, ◌++◌, map, length}
use Rattle.move_msg.specs.Manifests.{AreEntries, entry_of, lines_text}
use Rattle.move_msg.proofs.manifest.manifest_read.Given as goal

abbrev pub invariant-loop-rest : goal.invariant-loop-rest
invariant-loop-rest l = record {
  entries : AreEntries (map entry_of l.lines.items);
  text : l.bytes ≡ lines_text (map entry_of l.lines.items) ++ l.rest;
}

abbrev pub decreases-loop-rest : goal.decreases-loop-rest
decreases-loop-rest l = length l.rest
