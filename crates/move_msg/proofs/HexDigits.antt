-- Digests as hexadecimal digits.
use Rattle.std.proofs.Common.{◌≡◌, ◌≢◌, ◌<◌, ◌/◌, ◌%◌, ℕ, false, List, [], ◌∷◌, length, refl, sym, slice_index, Ok, suc, ap, ◌∙◌, arith}
use Rattle.std.specs.Prelude.{◌==◌}
use Rattle.std.proofs.lemmas.Bool.{agree_below_at, eq-eqb}
use Rattle.hex.specs.Hex.{decode_sized, encode_lower, encode_with, lower_digits}
use Rattle.hex.proofs.HexLemmas.{decode_of-encode_lower, decode_sized-twice, length-encode_with}
use Rattle.move_msg.specs.Inside.Cut.{LacksByte}

-- sixty-four lower-case digits are read as the bytes that they are written for
pub decoded : (text d : List ℕ) → length d ≡ 32 → ((i : ℕ) → slice_index d i < 256) → text ≡ encode_lower d → decode_sized text 32 ≡ Ok d
decoded text d len fits e =
    ap (λ (t : List ℕ). decode_sized t 32) e ∙ decode_sized-twice (encode_lower d) 32 (omega (arith, length-encode_with lower_digits d, len)) ∙ decode_of-encode_lower d fits

pub digits_long : (d : List ℕ) → length d ≡ 32 → length (encode_lower d) ≡ 64
digits_long d len = omega (arith, length-encode_with lower_digits d, len)

no_feed_at : (n : ℕ) → (slice_index lower_digits n == 10) ≡ false → slice_index lower_digits n ≢ 10
no_feed_at n e same = let f = sym (eq-eqb _ _ same) ∙ e in cc

-- no digit is a line feed
no_feed : (n : ℕ) → n < 16 → slice_index lower_digits n ≢ 10
no_feed n lt = no_feed_at n (agree_below_at (λ k. slice_index lower_digits k == 10) (λ k. false) 16 n refl lt)

pub digits_lack : (d : List ℕ) → ((i : ℕ) → slice_index d i < 256) → LacksByte 10 (encode_lower d)
unfolding encode_with
digits_lack [] fits = tt
digits_lack (b ∷ rest) fits =
    let small = fits 0 in
    (no_feed (b / 16) (omega arith), (no_feed (b % 16) (omega arith), digits_lack rest (λ i. fits (suc i))))
