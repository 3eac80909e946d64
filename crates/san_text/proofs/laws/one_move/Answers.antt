use Rattle.std.proofs.Common.{ℕ, List, sym, subst}
use Rattle.san_text.specs.San.{ReadsSan}
use Rattle.san_text.proofs.WrittenLaws.{read_back, one_reading}
use Rattle.san_text.specs.Written.{san_of}
use Rattle.san_text.proofs.laws.one_move.Goals as goal

pub returns : goal.returns
returns c = λ p m n _ l k e. one_reading p (san_of p m) m n (read_back p m l) (subst (λ (t : List ℕ). ReadsSan p t n) (sym e) (read_back p n k))
