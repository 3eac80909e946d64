use Rattle.move_msg.proofs.ManifestLaws.{one_manifest}
use Rattle.move_msg.proofs.laws.one_manifest.Goals as goal

pub returns : goal.returns
returns c = one_manifest
