use Rattle.std.proofs.Common.{ℕ, List, sym, subst}
use Rattle.fen_text.specs.Fen.{SpellsPosition}
use Rattle.fen_text.proofs.SpellingLaws.{position_one}
use Rattle.fen_text.proofs.WrittenLaws.{position_spelled}
use Rattle.fen_text.proofs.laws.one_text.Goals as goal

pub returns : goal.returns
returns c = λ t p h. (position_one t p, λ e. subst (λ (s : List ℕ). SpellsPosition s p) (sym e) (position_spelled p h))
