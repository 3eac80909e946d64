use Rattle.san_text.proofs.LegalMoves.{castling_rule, castling_told}
use Rattle.san_text.proofs.laws.castling_is_told.Goals as goal

pub returns : goal.returns
returns c = λ p m wing l. (castling_rule p m wing l, castling_told p m wing)
