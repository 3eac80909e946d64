use Rattle.san_text.proofs.MarkLaws.{marks_mate}
use Rattle.san_text.proofs.laws.marks_mate.Goals as goal

pub returns : goal.returns
returns c = marks_mate
