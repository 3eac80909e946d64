use Rattle.std.proofs.Common.{◌≡◌, map, take}
use Rattle.move_msg.specs.Manifests.{entry_of, lines_text}
use Rattle.move_msg.proofs.manifest.manifest_write.Given as goal

abbrev pub invariant-loop-line : goal.invariant-loop-line
invariant-loop-line l = l.bytes.items ≡ lines_text (map entry_of (take l.line-index l.lines))
