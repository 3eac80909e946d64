-- Codes of symbols, bit by bit from the high end of each byte (Syzygy table format, the codes of a size record).
use Rattle.std.specs.Prelude.{◌≡◌, ℕ, ◌+◌, ◌-◌, ◌*◌, ◌/◌, ◌%◌, ◌^◌, ◌<◌, ◌≤◌, List, [], ◌∷◌, length, slice_index, Option, Some, None, nat_le, nat_lt, if◌then◌else◌}
use Rattle.pair_dict.specs.Symbols.{symbol_count}

-- What a dictionary says: the least length of a code, for each length from it on the lowest symbol
-- of that length, and the symbols, three bytes each.
pub record Pairing : Type 0 where
  pub least : ℕ
  pub lowest : List ℕ
  pub symbols : List ℕ

-- the base of each length, from the least on: 0 at the greatest length, and each other one by the one above it
abbrev pub bases : List ℕ → List ℕ
bases [] = []
bases (x ∷ []) = 0 ∷ []
bases (x ∷ y ∷ rest) = ((slice_index (bases (y ∷ rest)) 0 + x) - y) / 2 ∷ bases (y ∷ rest)

-- bytes as one number, the first byte highest
abbrev pub number_of : List ℕ → ℕ
number_of [] = 0
number_of (b ∷ bytes) = b * 2 ^ (8 * length bytes) + number_of bytes

-- the n bits from bit p on, counted from the highest bit of the first byte, as a number
unfoldable pub bits : List ℕ → ℕ → ℕ → ℕ
bits block p n = number_of block / 2 ^ (8 * length block - (p + n)) % 2 ^ n

-- The n bits v are the code of the symbol s. v is at least the base of the length n. The front of v of each shorter length
-- is below that length's base. s is as far above the lowest symbol as v is above the base.
pub record IsCode (d : Pairing) (n v s : ℕ) : Type 0 where
  pub longest : n < d.least + length d.lowest
  pub shortest : d.least ≤ n
  pub low : slice_index (bases d.lowest) (n - d.least) ≤ v
  pub high : v < 2 ^ n
  pub first : (m : ℕ) → d.least ≤ m → m < n → v / 2 ^ (n - m) < slice_index (bases d.lowest) (m - d.least)
  pub symbol : s + slice_index (bases d.lowest) (n - d.least) ≡ slice_index d.lowest (n - d.least) + v
  pub known : s < symbol_count d.symbols

-- ---- the same, computed

-- the symbol and the length, if there is such a symbol
abbrev pub below : ℕ → ℕ → ℕ → Option (ℕ × ℕ)
below limit s n = if nat_lt s limit then Some (s, n) else None

-- The symbol and the length of the code at bit p, tried from the length n on, at the lengths' bases
-- and lowest symbols, where there are `limit` symbols.
unfoldable pub code_from : ℕ → List ℕ → ℕ → ℕ → List ℕ → List ℕ → Option (ℕ × ℕ)
code_from limit block p n [] lowest = None
code_from limit block p n (base ∷ bases) [] = None
code_from limit block p n (base ∷ bases) (low ∷ lowest) =
    if nat_le (p + n) (8 * length block)
    then (if nat_le base (bits block p n)
    then below limit ((low + bits block p n) - base) n
    else code_from limit block p (n + 1) bases lowest)
    else None

-- the symbol and the length of the code at bit p
unfoldable pub code_at : Pairing → List ℕ → ℕ → Option (ℕ × ℕ)
code_at d block p = code_from (symbol_count d.symbols) block p d.least (bases d.lowest) d.lowest
