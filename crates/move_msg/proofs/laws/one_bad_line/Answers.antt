use Rattle.move_msg.proofs.ManifestLaws.{one_bad_line, manifest_or_not}
use Rattle.move_msg.proofs.laws.one_bad_line.Goals as goal

pub returns : goal.returns
returns c = (one_bad_line, manifest_or_not)
