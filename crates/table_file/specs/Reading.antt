-- Reading a table file from left to right, with the first fault that is met. What is read is the file without its last 16
-- bytes. Its length is a multiple of 64. So a place is even, or a multiple of 64, exactly where the length of what is left
-- is.
use Rattle.std.specs.Prelude.{◌≡◌, ℕ, ◌/◌, ◌%◌, Bool, List, [], ◌∷◌, length, take, drop, Result, Ok, Err, nat_lt, nat_le, ◌==◌, ◌&&◌, if◌then◌else◌}
use Rattle.byteorder.specs.Endian.{little_number}
use Rattle.table_file.specs.declared.fault.TableFault.{TableFault}
use Rattle.table_file.specs.declared.fault.TableFault.TheVariants.{BadName, BadSize, BadMagic, BadFlags, BadPieces, BadOrder, Truncated, BadExponent, BadCode, BadSymbol, BadSparse, OutOfMemory}

infixl 10 ◌>>=◌
abbrev pub ◌>>=◌ : {A B : Type 0} → Result A TableFault → (A → Result B TableFault) → Result B TableFault
(Ok x) >>= f = f x
(Err e) >>= f = Err e

-- What a function returned, seen by view, is what reading gives, unless memory ran out.
abbrev pub Fails : {Y : Type 0} → TableFault → Result Y TableFault → Type 0
Fails BadName read = read ≡ Err BadName
Fails BadSize read = read ≡ Err BadSize
Fails BadMagic read = read ≡ Err BadMagic
Fails BadFlags read = read ≡ Err BadFlags
Fails BadPieces read = read ≡ Err BadPieces
Fails BadOrder read = read ≡ Err BadOrder
Fails Truncated read = read ≡ Err Truncated
Fails BadExponent read = read ≡ Err BadExponent
Fails BadCode read = read ≡ Err BadCode
Fails BadSymbol read = read ≡ Err BadSymbol
Fails BadSparse read = read ≡ Err BadSparse
Fails OutOfMemory read = Unit {0}

abbrev pub Gives : {X Y : Type 0} → (X → Y) → Result X TableFault → Result Y TableFault → Type 0
Gives view (Ok x) read = read ≡ Ok (view x)
Gives view (Err e) read = Fails e read

-- one part after the other, each by its step
unfoldable pub each_at : {A B : Type 0} → (A → List ℕ → Result (B × List ℕ) TableFault) → List A → List ℕ → Result (List B × List ℕ) TableFault
each_at step [] bytes = Ok ([], bytes)
each_at step (a ∷ others) bytes = do
  first ← step a bytes
  rest ← each_at step others first.1
  Ok (first.0 ∷ rest.0, rest.1)

-- up to the next place that m divides, where m divides 64
abbrev pub risen : ℕ → List ℕ → List ℕ
risen m bytes = drop (length bytes % m) bytes

unfoldable pub byte_at : List ℕ → Result (ℕ × List ℕ) TableFault
byte_at [] = Err Truncated
byte_at (b ∷ rest) = Ok (b, rest)

unfoldable pub taken_at : ℕ → List ℕ → Result (List ℕ × List ℕ) TableFault
taken_at n bytes = if nat_lt (length bytes) n then Err Truncated else Ok (take n bytes, drop n bytes)

-- a number of two bytes or of four, the low ones first
unfoldable pub word_at : List ℕ → Result (ℕ × List ℕ) TableFault
word_at bytes = if nat_lt (length bytes) 2 then Err Truncated else Ok (little_number 2 bytes, drop 2 bytes)

unfoldable pub four_bytes_at : List ℕ → Result (ℕ × List ℕ) TableFault
four_bytes_at bytes = if nat_lt (length bytes) 4 then Err Truncated else Ok (little_number 4 bytes, drop 4 bytes)

-- an exponent between two bounds
unfoldable pub exponent_at : ℕ → ℕ → List ℕ → Result (ℕ × List ℕ) TableFault
exponent_at least greatest bytes = do
  b ← byte_at bytes
  if nat_le least b.0 && nat_le b.0 greatest then Ok (b.0, b.1) else Err BadExponent

-- the bit of a byte whose worth is given
abbrev pub has_bit : ℕ → ℕ → Bool
has_bit worth b = b / worth % 2 == 1
