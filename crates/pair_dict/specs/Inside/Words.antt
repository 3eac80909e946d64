-- Code lengths and nodes as they are kept: two words a code length, and then one a node.
use Rattle.std.specs.Prelude.{ℕ, zero, suc, ◌+◌, ◌*◌, ◌/◌, ◌%◌, ◌^◌, ◌≤◌, List, [], ◌∷◌, length, drop, map, Option}
use Rattle.pair_dict.specs.Codes.{bases, code_from}
use Rattle.pair_dict.specs.Inside.Windows.{AreFirsts, firsts_in, lowest_in}
use Rattle.pair_dict.specs.Inside.Hints.{AreHints}
use Rattle.pair_dict.specs.declared.codes.CodeLength.{CodeLength}
use Rattle.pair_dict.specs.declared.codes.CodeSearch.{CodeSearch}
use Rattle.pair_dict.specs.declared.nodes.Node.{Node}

abbrev pub words_of_codes : List CodeLength → List ℕ
words_of_codes [] = []
words_of_codes (c ∷ codes) = c.packed % 2 ^ 32 ∷ c.packed / 2 ^ 32 ∷ words_of_codes codes

abbrev pub words_of_nodes : List Node → List ℕ
words_of_nodes nodes = map (λ node. node.packed) nodes

-- so many code lengths at the front of the words
abbrev pub codes_in : ℕ → List ℕ → List CodeLength
codes_in zero words = []
codes_in (suc n) [] = []
codes_in (suc n) (low ∷ []) = []
codes_in (suc n) (low ∷ high ∷ words) = record { packed = low + 2 ^ 32 * high } ∷ codes_in n words

-- the nodes behind so many code lengths
abbrev pub nodes_in : ℕ → List ℕ → List Node
nodes_in n words = map (λ word. record { packed = word }) (drop (2 * n) words)

-- what a code is found by: the first number and the lowest symbol of each length, and the hints
pub record AreCodes (search : CodeSearch) (words bytes : List ℕ) : Type 0 where
  pub all : 2 * search.lengths ≤ length words
  pub least : 1 ≤ search.least
  pub some : 1 ≤ search.lengths
  pub greatest : search.least + search.lengths ≤ 33
  pub firsts : AreFirsts search.least (lowest_in (codes_in search.lengths words)) (firsts_in (codes_in search.lengths words))
  pub hints : AreHints (firsts_in (codes_in search.lengths words)) bytes

-- the code at bit p of a block, by the lengths that are kept
abbrev pub code_kept : CodeSearch → List ℕ → List ℕ → ℕ → Option (ℕ × ℕ)
code_kept search words block p =
    code_from search.symbols block p search.least (bases (lowest_in (codes_in search.lengths words))) (lowest_in (codes_in search.lengths words))
