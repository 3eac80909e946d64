-- Symbols that stand for values (Syzygy table format, the symbols of a size record).
use Rattle.std.specs.Prelude.{◌≡◌, ◌≢◌, ℕ, zero, suc, ◌+◌, ◌*◌, ◌/◌, ◌%◌, ◌<◌, ◌≤◌, ◌↔◌, Bool, true, false, IsTrue, List, [], ◌∷◌, ◌++◌, length, slice_index, Option, Some, None, nat_lt, nat_le, ◌==◌, ◌&&◌, if◌then◌else◌}

-- how many symbols there are, three bytes each
abbrev pub symbol_count : List ℕ → ℕ
symbol_count symbols = length symbols / 3

-- the low twelve bits of a symbol's three bytes, and the high twelve
abbrev pub left : List ℕ → ℕ → ℕ
left symbols s = slice_index symbols (3 * s) + 256 * (slice_index symbols (3 * s + 1) % 16)

abbrev pub right : List ℕ → ℕ → ℕ
right symbols s = slice_index symbols (3 * s + 1) / 16 + 16 * slice_index symbols (3 * s + 2)

-- The values of a symbol. A leaf has one value. A pair has the values of its left symbol, followed
-- by those of its right one. No other rule gives values, so a symbol that leads back to itself has none.
pub data HasSymbolValues (symbols : List ℕ) : ℕ → List ℕ → Type 0 where
  leaf :
      {s : ℕ} → s < symbol_count symbols → right symbols s ≡ 4095
      → HasSymbolValues symbols s (left symbols s ∷ [])
  pair :
      {s : ℕ} {xs ys zs : List ℕ} → s < symbol_count symbols → right symbols s ≢ 4095
      → HasSymbolValues symbols (left symbols s) xs → HasSymbolValues symbols (right symbols s) ys → zs ≡ xs ++ ys
      → HasSymbolValues symbols s zs

-- each symbol has values, at most 256
abbrev pub AllHaveValues : List ℕ → Type 0
AllHaveValues symbols =
    (s : ℕ) → s < symbol_count symbols → (vs : List ℕ) × HasSymbolValues symbols s vs × (length vs ≤ 256)

-- ---- the same, computed

-- the values of a symbol, down to a depth
unfoldable pub values_to : List ℕ → ℕ → ℕ → List ℕ
values_to symbols zero s = []
values_to symbols (suc depth) s =
    if right symbols s == 4095
    then left symbols s ∷ []
    else values_to symbols depth (left symbols s) ++ values_to symbols depth (right symbols s)

-- No symbol of at most 256 values is deeper.
unfoldable pub values_of : List ℕ → ℕ → List ℕ
values_of symbols s = values_to symbols 256 s

-- the sum of two numbers of values, where there are both
abbrev pub added : Option ℕ → Option ℕ → Option ℕ
added None b = None
added (Some a) None = None
added (Some a) (Some b) = Some (a + b)

-- how many values a symbol has, if it has any down to a depth
unfoldable pub count_to : List ℕ → ℕ → ℕ → Option ℕ
count_to symbols zero s = None
count_to symbols (suc depth) s =
    if nat_lt s (symbol_count symbols)
    then (if right symbols s == 4095
    then Some 1
    else added (count_to symbols depth (left symbols s)) (count_to symbols depth (right symbols s)))
    else None

abbrev pub is_at_most_256 : Option ℕ → Bool
is_at_most_256 None = false
is_at_most_256 (Some n) = nat_le n 256

-- each of the first n symbols has values down to a depth, at most 256
abbrev pub have_values_to : List ℕ → ℕ → ℕ → Bool
have_values_to symbols depth zero = true
have_values_to symbols depth (suc n) = is_at_most_256 (count_to symbols depth n) && have_values_to symbols depth n

-- whether each symbol has values, at most 256
unfoldable pub have_values : List ℕ → Bool
have_values symbols = have_values_to symbols 256 (symbol_count symbols)

-- ---- laws

-- The computed test says whether all symbols have values.
abbrev pub ValuesAreTested : Type 0
ValuesAreTested = (symbols : List ℕ) → (IsTrue (have_values symbols) ↔ AllHaveValues symbols)

-- A symbol has one list of values at most.
abbrev pub ValuesAreUnique : Type 0
ValuesAreUnique =
    (symbols : List ℕ) (s : ℕ) (xs ys : List ℕ) → HasSymbolValues symbols s xs → HasSymbolValues symbols s ys → xs ≡ ys

-- Values of a symbol, at most 256, are the computed ones.
abbrev pub ValuesAreComputed : Type 0
ValuesAreComputed =
    (symbols : List ℕ) (s : ℕ) (vs : List ℕ) → HasSymbolValues symbols s vs → length vs ≤ 256 → vs ≡ values_of symbols s
