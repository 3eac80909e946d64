-- Reading a dictionary from left to right (Syzygy table format, a size record from its greatest code length on).
use Rattle.std.specs.Prelude.{◌≡◌, ℕ, ◌+◌, ◌-◌, ◌*◌, ◌%◌, Bool, true, List, [], ◌∷◌, length, take, drop, Result, Ok, Err, nat_lt, nat_le, ◌&&◌, if◌then◌else◌}
use Rattle.pair_dict.specs.declared.fault.DictFault.{DictFault}
use Rattle.pair_dict.specs.declared.fault.DictFault.TheVariants.{Truncated, BadCode, BadSymbol, OutOfMemory}
use Rattle.pair_dict.specs.Symbols.{have_values}
use Rattle.pair_dict.specs.Codes.{Pairing}

infixl 10 ◌>>=◌
abbrev pub ◌>>=◌ : {A B : Type 0} → Result A DictFault → (A → Result B DictFault) → Result B DictFault
(Ok x) >>= f = f x
(Err e) >>= f = Err e

-- numbers of two bytes, the low one first
abbrev pub words : List ℕ → List ℕ
words [] = []
words (a ∷ []) = []
words (a ∷ b ∷ rest) = (a + 256 * b) ∷ words rest

-- no number is greater than the one before
abbrev pub falls : List ℕ → Bool
falls [] = true
falls (x ∷ []) = true
falls (x ∷ y ∷ rest) = nat_le y x && falls (y ∷ rest)

-- the greatest length of a code and the least, each from 1 to 32
unfoldable pub lengths_at : List ℕ → Result ((ℕ × ℕ) × List ℕ) DictFault
lengths_at [] = Err Truncated
lengths_at (greatest ∷ []) = Err Truncated
lengths_at (greatest ∷ least ∷ rest) =
    if nat_le 1 least && (nat_le least greatest && nat_le greatest 32)
    then Ok ((greatest, least), rest)
    else Err BadCode

-- the lowest symbols of n lengths
unfoldable pub lowest_at : ℕ → List ℕ → Result (List ℕ × List ℕ) DictFault
lowest_at n bytes =
    if nat_lt (length bytes) (2 * n) then Err Truncated
    else if falls (words (take (2 * n) bytes))
    then Ok (words (take (2 * n) bytes), drop (2 * n) bytes)
    else Err BadCode

-- how many symbols there are, 1 to 4095
unfoldable pub count_at : List ℕ → Result (ℕ × List ℕ) DictFault
count_at [] = Err Truncated
count_at (a ∷ []) = Err Truncated
count_at (a ∷ b ∷ rest) =
    if nat_le 1 (a + 256 * b) && nat_le (a + 256 * b) 4095 then Ok (a + 256 * b, rest) else Err BadSymbol

-- n symbols of three bytes, and a byte more where n is odd
unfoldable pub symbols_at : ℕ → List ℕ → Result (List ℕ) DictFault
symbols_at n bytes =
    if nat_lt (length bytes) (3 * n + n % 2) then Err Truncated else Ok (take (3 * n) bytes)

-- the contents of the bytes before the symbols' values are checked, and how many bytes that takes
unfoldable pub layout_at : List ℕ → Result (Pairing × ℕ) DictFault
layout_at bytes = do
  lengths ← lengths_at bytes
  lowest ← lowest_at ((lengths.0.0 + 1) - lengths.0.1) lengths.1
  count ← count_at lowest.1
  symbols ← symbols_at count.0 count.1
  Ok (
    record { least = lengths.0.1; lowest = lowest.0; symbols = symbols },
    4 + 2 * ((lengths.0.0 + 1) - lengths.0.1) + 3 * count.0 + count.0 % 2,
  )

-- the same, where each symbol has values, at most 256
abbrev pub with_values : Pairing × ℕ → Result (Pairing × ℕ) DictFault
with_values x = if have_values x.0.symbols then Ok x else Err BadSymbol

-- the dictionary at the front of the bytes, and how many bytes it takes
unfoldable pub dictionary_at : List ℕ → Result (Pairing × ℕ) DictFault
dictionary_at bytes = do
  layout ← layout_at bytes
  with_values layout

-- What a function that takes no memory returned, seen by view, is what reading gives.
abbrev pub Reads : {X Y : Type 0} → (X → Y) → Result X DictFault → Result Y DictFault → Type 0
Reads view (Ok x) read = read ≡ Ok (view x)
Reads view (Err e) read = read ≡ Err e

-- The same, unless memory ran out.
abbrev pub FailsInDict : {Y : Type 0} → DictFault → Result Y DictFault → Type 0
FailsInDict Truncated read = read ≡ Err Truncated
FailsInDict BadCode read = read ≡ Err BadCode
FailsInDict BadSymbol read = read ≡ Err BadSymbol
FailsInDict OutOfMemory read = Unit {0}

abbrev pub GivesFromDict : {X Y : Type 0} → (X → Y) → Result X DictFault → Result Y DictFault → Type 0
GivesFromDict view (Ok x) read = read ≡ Ok (view x)
GivesFromDict view (Err e) read = FailsInDict e read
