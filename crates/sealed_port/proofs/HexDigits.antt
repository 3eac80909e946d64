-- Keys as hexadecimal digits.
use Rattle.std.proofs.Common.{◌≡◌, ◌<◌, ℕ, List, length, slice_index, Ok, ap, ◌∙◌, arith}
use Rattle.hex.specs.Hex.{decode_sized, encode_lower, lower_digits}
use Rattle.hex.proofs.HexLemmas.{decode_of-encode_lower, decode_sized-twice, length-encode_with}

-- sixty-four lower-case digits are read as the bytes that they are written for
pub decoded : (text d : List ℕ) → length d ≡ 32 → ((i : ℕ) → slice_index d i < 256) → text ≡ encode_lower d → decode_sized text 32 ≡ Ok d
decoded text d len fits e =
    ap (λ (t : List ℕ). decode_sized t 32) e ∙ decode_sized-twice (encode_lower d) 32 (omega (arith, length-encode_with lower_digits d, len)) ∙ decode_of-encode_lower d fits

pub digits_long : (d : List ℕ) → length d ≡ 32 → length (encode_lower d) ≡ 64
digits_long d len = omega (arith, length-encode_with lower_digits d, len)
