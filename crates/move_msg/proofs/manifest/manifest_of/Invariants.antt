use Rattle.std.proofs.Common.{◌≡◌, map, take}
use Rattle.move_msg.specs.Manifests.{AreOfFiles, entry_of}
use Rattle.move_msg.specs.Files.{entries_of, table_file_of}
use Rattle.move_msg.proofs.manifest.manifest_of.Given as goal

abbrev pub invariant-loop-file : goal.invariant-loop-file
invariant-loop-file l = record {
  same : map entry_of l.lines.items ≡ entries_of (map table_file_of (take l.file-index l.files));
  each : AreOfFiles (map entry_of l.lines.items);
}
