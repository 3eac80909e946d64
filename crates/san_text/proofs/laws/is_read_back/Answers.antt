use Rattle.san_text.proofs.WrittenLaws.{read_back}
use Rattle.san_text.proofs.laws.is_read_back.Goals as goal

pub returns : goal.returns
returns c = λ p m _ l. read_back p m l
