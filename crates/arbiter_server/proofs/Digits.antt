-- A digit as a text.
use Rattle.std.proofs.Common.{◌≡◌, ◌≤◌, ◌+◌, ◌∙◌, ℕ, List, [], ◌∷◌, length, slice_index_or, refl, sym, ap, arith}
use Rattle.std.specs.Fmt.{decimal}
use Rattle.std.proofs.lemmas.Fmt.{decimal_digit}
use Rattle.board_core.specs.Delays.{most_delay}

pub single : (bytes : List ℕ) → length bytes ≡ 1 → bytes ≡ slice_index_or bytes 0 0 ∷ []
single [] e = absurd (omega (arith, e))
single (b ∷ []) e = refl
single (b ∷ c ∷ bytes) e = absurd (omega (arith, e))

pub delay_digit : (delay : ℕ) → delay ≤ most_delay → decimal delay ≡ (48 + delay) ∷ []
delay_digit delay le = decimal_digit delay (omega (arith, le))

pub digit_long : (delay : ℕ) (text : List ℕ) → delay ≤ most_delay → text ≡ decimal delay → length text ≡ 1
digit_long delay text le e = ap length (e ∙ delay_digit delay le)

head_same : (a b : ℕ) (xs ys : List ℕ) → a ∷ xs ≡ b ∷ ys → a ≡ b
head_same a b xs ys e = cc

-- the byte of a text that is a digit
pub digit_is : (delay byte : ℕ) (text : List ℕ) → delay ≤ most_delay → text ≡ decimal delay → text ≡ byte ∷ [] → byte ≡ 48 + delay
digit_is delay byte text le e f = head_same _ _ _ _ (sym f ∙ e ∙ delay_digit delay le)
