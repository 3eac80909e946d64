use Rattle.std.proofs.Common.{◌≡◌, ◌<◌, ◌-◌, ◌^◌, ℕ, arith, inl, inr, ◌∙◌, w64, bit_and}
use Rattle.std.specs.Int.{bit_at, bit_not}
use Rattle.std.proofs.lemmas.Bool.{cases_lt}
use Rattle.std.proofs.lemmas.Nat.Bits.{bit_at_and, bit_at_not, bit_at_above, bit_at-lt}
use Rattle.board_core.proofs.bitboard.Bitboard.except.Goals as goal

except : (a b s : ℕ) → a < 2 ^ 64 → b < 2 ^ 64 → bit_at (bit_and a (bit_not w64 b)) s ≡ bit_at a s - bit_at b s
except a b s la lb = elim (cases_lt s 64) [
  | inl lt ↦ bit_at_and a (bit_not w64 b) s ∙ omega (arith, bit_at_not w64 b s lb lt, bit_at-lt a s, bit_at-lt b s)
  | inr ge ↦ bit_at_and a (bit_not w64 b) s ∙ omega (arith, bit_at_above a 64 s la ge)
]

pub returns : goal.returns
returns c = λ s. rw (← c.self.view_is, ← c.other.view_is) (except c.self.inside.bits c.other.inside.bits s (omega arith) (omega arith))
