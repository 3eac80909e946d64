use Rattle.move_msg.proofs.ManifestLaws.{name_utf8}
use Rattle.move_msg.proofs.manifest.file_name.Goals as goal

pub returns-in_default-clause-none : goal.returns-in_default-clause-none
returns-in_default-clause-none c = λ h. absurd (c.in_default.ensures.cases.0 (name_utf8 c.args.name.now h))
