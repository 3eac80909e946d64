-- How many values each symbol has.
use Rattle.std.specs.Prelude.{◌≡◌, ◌≢◌, ℕ, ◌+◌, ◌<◌, ◌≤◌, ◌⊎◌, List, length, slice_index}
use Rattle.pair_dict.specs.Symbols.{symbol_count, left, right}
use Rattle.pair_dict.specs.declared.symbols.Symbol.{Symbol}
use Rattle.pair_dict.specs.declared.symbols.Symbol.TheVariants.{Leaf, Pair}

-- what a symbol's three bytes say
abbrev pub IsSymbol : List ℕ → ℕ → Symbol → Type 0
IsSymbol symbols s (Leaf value) = (right symbols s ≡ 4095) × (value ≡ left symbols s)
IsSymbol symbols s (Pair a b) = (right symbols s ≢ 4095) × (a ≡ left symbols s) × (b ≡ right symbols s)

-- numbers of twelve bits
abbrev pub IsShortSymbol : Symbol → Type 0
IsShortSymbol (Leaf value) = value < 4096
IsShortSymbol (Pair a b) = (a < 4096) × (b < 4096)

-- a leaf has one value
pub record IsLeafCount (symbols counts : List ℕ) (s : ℕ) : Type 0 where
  pub is_leaf : right symbols s ≡ 4095
  pub one : slice_index counts s ≡ 1

-- a pair has those of its two symbols
pub record IsPairCount (symbols counts : List ℕ) (s : ℕ) : Type 0 where
  pub is_pair : right symbols s ≢ 4095
  pub left_known : left symbols s < symbol_count symbols
  pub right_known : right symbols s < symbol_count symbols
  pub both : slice_index counts s ≡ slice_index counts (left symbols s) + slice_index counts (right symbols s)

-- the counts of all symbols
pub record AreCounts (symbols counts : List ℕ) : Type 0 where
  pub lengths : length counts ≡ symbol_count symbols
  pub each : (s : ℕ) → s < symbol_count symbols → IsLeafCount symbols counts s ⊎ IsPairCount symbols counts s
  pub some : (s : ℕ) → s < symbol_count symbols → 1 ≤ slice_index counts s
  pub few : (s : ℕ) → s < symbol_count symbols → slice_index counts s ≤ 256

-- ---- while they are found; 0 stands for a count that isn't known yet

-- a pair whose two counts are known
pub record IsKnownPair (symbols counts : List ℕ) (s : ℕ) : Type 0 where
  pub pair : IsPairCount symbols counts s
  pub left_is : slice_index counts (left symbols s) ≢ 0
  pub right_is : slice_index counts (right symbols s) ≢ 0

-- each count that is known is right
pub record AreSettled (symbols counts : List ℕ) : Type 0 where
  pub lengths : length counts ≡ symbol_count symbols
  pub each :
      (s : ℕ) → s < symbol_count symbols → slice_index counts s ≢ 0
      → IsLeafCount symbols counts s ⊎ IsKnownPair symbols counts s
  pub few : (s : ℕ) → slice_index counts s ≤ 256

-- no count that was known changes
abbrev pub KeepsKnown : List ℕ → List ℕ → Type 0
KeepsKnown old new = (s : ℕ) → slice_index old s ≢ 0 → slice_index new s ≡ slice_index old s
