use Rattle.std.proofs.Common.{◌≡◌, map, drop, Some, Ok}
use Rattle.move_msg.specs.Manifests.{entry_of}
use Rattle.table_folder.specs.Folders.{digest_in}
use Rattle.table_folder.proofs.folder.digest_of.Given as goal

abbrev pub invariant-loop-line : goal.invariant-loop-line
invariant-loop-line l = digest_in (Some (Ok (map entry_of (drop l.line-index l.lines)))) l.name ≡ digest_in (Some (Ok (map entry_of l.lines))) l.name
