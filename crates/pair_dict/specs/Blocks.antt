-- A block of bytes as a list of values (Syzygy table format, the values of a block).
use Rattle.std.specs.Prelude.{◌≡◌, ℕ, zero, suc, ◌+◌, ◌*◌, ◌≤◌, ◌↔◌, List, [], ◌∷◌, ◌++◌, length, Option, Some, None}
use Rattle.pair_dict.specs.Symbols.{HasSymbolValues, values_of}
use Rattle.pair_dict.specs.Codes.{Pairing, bits, IsCode, code_at}

-- From bit p on the block begins with the codes of these symbols, each wholly within the block.
abbrev pub BeginsWithCodes : Pairing → List ℕ → ℕ → List ℕ → Type 0
BeginsWithCodes d block p [] = Unit {0}
BeginsWithCodes d block p (s ∷ ss) =
    (n : ℕ) × (p + n ≤ 8 * length block) × IsCode d n (bits block p n) s × BeginsWithCodes d block (p + n) ss

-- the values of symbols, joined
abbrev pub HaveValues : Pairing → List ℕ → List ℕ → Type 0
HaveValues d [] vs = vs ≡ []
HaveValues d (s ∷ ss) vs =
    (xs : List ℕ) × (ys : List ℕ) × HasSymbolValues d.symbols s xs × HaveValues d ss ys × (vs ≡ xs ++ ys)

-- the symbols of a block: the longest list whose codes begin it
pub record AreSymbols (d : Pairing) (block ss : List ℕ) : Type 0 where
  pub begins : BeginsWithCodes d block 0 ss
  pub longest : (others : List ℕ) → BeginsWithCodes d block 0 others → length others ≤ length ss

-- the values of a block, before a block's length cuts them
abbrev pub IsBlock : Pairing → List ℕ → List ℕ → Type 0
IsBlock d block vs = (ss : List ℕ) × AreSymbols d block ss × HaveValues d ss vs

-- ---- the same, computed

-- the values of the symbol that was found, and those after its code
abbrev pub then_values : Pairing → Option (ℕ × ℕ) → (ℕ → List ℕ) → List ℕ
then_values d None rest = []
then_values d (Some code) rest = values_of d.symbols code.0 ++ rest code.1

-- the values from bit p on, of at most `most` symbols
unfoldable pub values_from : Pairing → List ℕ → ℕ → ℕ → List ℕ
values_from d block zero p = []
values_from d block (suc most) p = then_values d (code_at d block p) (λ n. values_from d block most (p + n))

-- the values of a block, in which each code takes a bit at least
unfoldable pub block_values : Pairing → List ℕ → List ℕ
block_values d block = values_from d block (8 * length block) 0

-- ---- laws

-- The values of a block are the computed ones and no others.
abbrev pub BlockIsComputed : Pairing → List ℕ → Type 0
BlockIsComputed d block = (vs : List ℕ) → (IsBlock d block vs ↔ (vs ≡ block_values d block))

-- A block that begins with the codes of symbols begins with their values, whatever follows.
abbrev pub BlockBeginsWithValues : Pairing → List ℕ → Type 0
BlockBeginsWithValues d block =
    (ss vs : List ℕ) → BeginsWithCodes d block 0 ss → HaveValues d ss vs → (rest : List ℕ) × (block_values d block ≡ vs ++ rest)
