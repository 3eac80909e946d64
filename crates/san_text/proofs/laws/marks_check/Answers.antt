use Rattle.san_text.proofs.MarkLaws.{marks_check}
use Rattle.san_text.proofs.laws.marks_check.Goals as goal

pub returns : goal.returns
returns c = marks_check
