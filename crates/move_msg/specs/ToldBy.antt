-- The contents of a manifest that was read.
use Rattle.std.specs.Prelude.{map, Option, Some, None, Ok, Err}
use Rattle.move_msg.specs.Manifests.{entry_of}
use Rattle.move_msg.specs.ToldManifests.{ToldManifest}
use Rattle.move_msg.specs.declared.told.Manifest.{Manifest}
use Rattle.move_msg.specs.declared.told.Manifest.TheVariants.{Unnamed, Lines, BadLine}

abbrev pub told_by : Manifest → Option ToldManifest
told_by Unnamed = None
told_by (Lines lines) = Some (Ok (map entry_of lines.items))
told_by (BadLine number) = Some (Err number)
