use Rattle.std.proofs.Common.{arith, inl, inr, ◌∙◌, w64}
use Rattle.std.proofs.lemmas.Bool.{cases_eq}
use Rattle.std.proofs.lemmas.Nat.Bits.{bit_at_set_same, bit_at_set_other}
use Rattle.board_core.proofs.bitboard.Bitboard.with.Goals as goal

pub returns-clause-here : goal.returns-clause-here
returns-clause-here c = rw (c.number.ensures.value, c.self.view_is) (bit_at_set_same w64 c.args.self c.args.square (omega arith))

pub returns-clause-kept : goal.returns-clause-kept
returns-clause-kept c = λ s h. elim (cases_eq s c.number.result) [
  | inl e ↦ rw (e, c.self.view_is) (bit_at_set_same w64 c.args.self c.number.result (omega arith))
  | inr ne ↦ rw c.self.view_is (bit_at_set_other w64 c.args.self c.number.result (omega arith) s ne ∙ h)
]

pub returns-clause-others : goal.returns-clause-others
returns-clause-others c = λ s ne. rw (c.number.ensures.value, c.self.view_is) (bit_at_set_other w64 c.args.self c.args.square (omega arith) s ne)
