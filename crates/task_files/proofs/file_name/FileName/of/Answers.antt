use Rattle.task_files.proofs.NameLaws.{name_short}
use Rattle.task_files.proofs.file_name.FileName.of.Goals as goal

pub returns-in-Err-clause-none : goal.returns-in-Err-clause-none
returns-in-Err-clause-none c = λ h. let same = c.in-Err.ensures.variant.1 (name_short c.args.text.now h) in cc
