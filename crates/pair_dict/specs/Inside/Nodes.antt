-- Symbols as they are kept for going down to one of their values.
use Rattle.std.specs.Prelude.{◌≡◌, ◌≢◌, ℕ, ◌+◌, ◌/◌, ◌%◌, ◌<◌, ◌==◌, List, length, slice_index, drop, map, if◌then◌else◌}
use Rattle.std.proofs.Common.{get_or}
use Rattle.pair_dict.specs.Symbols.{symbol_count, left, right, HasSymbolValues}
use Rattle.pair_dict.specs.declared.nodes.Node.{Node}
use Rattle.pair_dict.specs.declared.nodes.Parts.{Parts}
use Rattle.pair_dict.specs.declared.nodes.Parts.TheVariants.{Equal, Pair}

-- what the bits of a node say
abbrev pub node_parts : Node → Parts
node_parts node =
    if node.packed / 4096 % 4096 == 4095
    then Equal (node.packed % 4096)
    else Pair (node.packed % 4096) (node.packed / 4096 % 4096) (node.packed / 16777216)

-- all values of a symbol are equal to this one
abbrev pub AreEqual : List ℕ → ℕ → ℕ → Type 0
AreEqual symbols s value = (vs : List ℕ) → HasSymbolValues symbols s vs → (i : ℕ) → i < length vs → slice_index vs i ≡ value

-- a symbol has so many values
abbrev pub HasMany : List ℕ → ℕ → ℕ → Type 0
HasMany symbols s n = (vs : List ℕ) → HasSymbolValues symbols s vs → length vs ≡ n

-- the two symbols of a pair, and how many values the left one has
pub record IsPair (symbols : List ℕ) (s a b skipped : ℕ) : Type 0 where
  pub is_pair : right symbols s ≢ 4095
  pub left_is : a ≡ left symbols s
  pub right_is : b ≡ right symbols s
  pub many : HasMany symbols a skipped

-- what the values of a symbol are
abbrev pub AreNodeParts : List ℕ → ℕ → Parts → Type 0
AreNodeParts symbols s (Equal value) = AreEqual symbols s value
AreNodeParts symbols s (Pair a b skipped) = IsPair symbols s a b skipped

abbrev pub IsNode : List ℕ → ℕ → Node → Type 0
IsNode symbols s node = AreNodeParts symbols s (node_parts node)

-- the nodes of all symbols
pub record AreNodes (symbols : List ℕ) (nodes : List Node) : Type 0 where
  pub lengths : length nodes ≡ symbol_count symbols
  pub each : (s : ℕ) (other : Node) → s < symbol_count symbols → IsNode symbols s (get_or nodes s other)

-- counts that are kept less one, after 64 hints
abbrev pub counts_in : List ℕ → List ℕ
counts_in bytes = map (λ n. n + 1) (drop 64 bytes)

-- ---- while they are found; a symbol that isn't counted yet has no node

pub record AreKnownNodes (symbols counts : List ℕ) (nodes : List Node) : Type 0 where
  pub lengths : length nodes ≡ symbol_count symbols
  pub each :
      (s : ℕ) (other : Node) → s < symbol_count symbols → slice_index counts s ≢ 0
      → IsNode symbols s (get_or nodes s other)

-- all values of two symbols are equal to one
abbrev pub HaveOneValue : Node → Node → Type 0
HaveOneValue first second = (value : ℕ) × (node_parts first ≡ Equal value) × (node_parts second ≡ Equal value)

-- a node is that of the pair of two symbols with these nodes, the left one with so many values
abbrev pub Joins : List Node → ℕ → ℕ → ℕ → Node → Type 0
Joins nodes a b skipped node =
    (symbols : List ℕ) (s : ℕ) (other : Node) → right symbols s ≢ 4095 → a ≡ left symbols s → b ≡ right symbols s
    → IsNode symbols a (get_or nodes a other) → IsNode symbols b (get_or nodes b other) → HasMany symbols a skipped
    → IsNode symbols s node
