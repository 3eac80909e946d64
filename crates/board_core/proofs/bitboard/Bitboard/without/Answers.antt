use Rattle.std.proofs.Common.{arith, w64, sym, ◌∙◌}
use Rattle.std.proofs.lemmas.Nat.Bits.{bit_at_clear_same, bit_at_clear_other, bit_at_and, bit_at-lt}
use Rattle.board_core.proofs.bitboard.Bitboard.without.Goals as goal

pub returns-clause-gone : goal.returns-clause-gone
returns-clause-gone c = rw (c.number.ensures.value, c.self.view_is) (bit_at_clear_same w64 c.args.self c.args.square (omega arith))

pub returns-clause-kept : goal.returns-clause-kept
returns-clause-kept c = λ s lt ne. rw (c.number.ensures.value, c.self.view_is) (bit_at_clear_other w64 c.args.self c.args.square (omega arith) s (omega arith) ne)

pub returns-clause-only : goal.returns-clause-only
returns-clause-only c = λ s bit.
    let both = sym (bit_at_and _ _ s) ∙ rw c.self.view_is at bit in
    omega (arith, bit_at-lt c.args.self s, both)
