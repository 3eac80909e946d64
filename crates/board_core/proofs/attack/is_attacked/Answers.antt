use Rattle.std.proofs.Common.{refl, inl, inr}
use Rattle.std.proofs.lemmas.Bool.{false≢true}
use Rattle.board_core.proofs.Outward.{attacked_along, attacked_by_knight, seen}
use Rattle.board_core.proofs.attack.is_attacked.Goals as goal

pub returns-then-is_attacked_by_line : goal.returns-then-is_attacked_by_line
returns-then-is_attacked_by_line c = (λ _. let h = c.if-is_attacked_by_line.ensures.0 refl in attacked_along _ _ h.0 _ h.1, λ _. c.if-is_attacked_by_line.true)

pub returns-else-is_attacked_by_line : goal.returns-else-is_attacked_by_line
returns-else-is_attacked_by_line c = (
  λ t. let h = c.is_attacked_by_hop.ensures.0 t in attacked_by_knight _ _ h.0 _ h.1,
  λ a. elim (seen _ _ _ a) [
    | inl h ↦ absurd (false≢true (c.if-is_attacked_by_line.ensures.1 h))
    | inr h ↦ c.is_attacked_by_hop.ensures.1 h
  ],
)
