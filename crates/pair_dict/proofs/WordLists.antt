-- Code lengths and nodes in one list of words.
use Rattle.std.proofs.Common.{◌≡◌, ℕ, zero, suc, ◌+◌, ◌-◌, ◌*◌, ◌/◌, ◌%◌, ◌^◌, ◌<◌, ◌≤◌, List, [], ◌∷◌, ◌++◌, length, get_or, take, drop, map, append_assoc, refl, sym, ap, ◌∙◌, arith}
use Rattle.std.proofs.lemmas.List.{length-map, length-drop, get_or-map, get_or-drop, take_more, length-append}
use Rattle.pair_dict.specs.Inside.Windows.{firsts_in, lowest_in}
use Rattle.pair_dict.specs.Inside.Words.{words_of_codes, words_of_nodes, codes_in, nodes_in}
use Rattle.pair_dict.specs.declared.codes.CodeLength.{CodeLength}
use Rattle.pair_dict.specs.declared.nodes.Node.{Node}
use Rattle.pair_dict.proofs.FirstLemmas.{first_at, lowest_at}

abbrev pub no_length : CodeLength
no_length = record { packed = 0 }

pub length-codes_in : (n : ℕ) (words : List ℕ) → 2 * n ≤ length words → length (codes_in n words) ≡ n
length-codes_in zero words le = refl
length-codes_in (suc n) [] le = absurd (omega arith)
length-codes_in (suc n) (low ∷ []) le = absurd (omega arith)
length-codes_in (suc n) (low ∷ high ∷ words) le = ap (λ (k : ℕ). suc k) (length-codes_in n words (omega arith))

-- the code length of a place
code_at_place : (n : ℕ) (words : List ℕ) (i : ℕ) (none : CodeLength) → 2 * n ≤ length words → i < n → (get_or (codes_in n words) i none).packed ≡ get_or words (2 * i) 0 + 2 ^ 32 * get_or words (2 * i + 1) 0
code_at_place zero words i none le lt = absurd (omega arith)
code_at_place (suc n) [] i none le lt = absurd (omega arith)
code_at_place (suc n) (low ∷ []) i none le lt = absurd (omega arith)
code_at_place (suc n) (low ∷ high ∷ words) zero none le lt = refl
code_at_place (suc n) (low ∷ high ∷ words) (suc i) none le lt =
    let e : 2 * suc i ≡ suc (suc (2 * i)) = omega arith in
    let f : suc (suc (2 * i)) + 1 ≡ suc (suc (2 * i + 1)) = omega arith in
    rw (e, f) (code_at_place n words i none (omega arith) (omega arith))

pub first_kept : (n : ℕ) (words : List ℕ) (i packed : ℕ) → 2 * n ≤ length words → i < n → packed ≡ get_or words (2 * i) 0 + 2 ^ 32 * get_or words (2 * i + 1) 0 → packed / 65536 ≡ get_or (firsts_in (codes_in n words)) i 0
first_kept n words i packed le lt is =
    ap (λ (x : ℕ). x / 65536) (is ∙ sym (code_at_place n words i no_length le lt)) ∙ sym (first_at (codes_in n words) i (omega (arith, length-codes_in n words le, lt)))

pub lowest_kept : (n : ℕ) (words : List ℕ) (i packed : ℕ) → 2 * n ≤ length words → i < n → packed ≡ get_or words (2 * i) 0 + 2 ^ 32 * get_or words (2 * i + 1) 0 → packed % 65536 ≡ get_or (lowest_in (codes_in n words)) i 0
lowest_kept n words i packed le lt is =
    ap (λ (x : ℕ). x % 65536) (is ∙ sym (code_at_place n words i no_length le lt)) ∙ sym (lowest_at (codes_in n words) i (omega (arith, length-codes_in n words le, lt)))

-- ---- putting them there

pub codes_both : (one two : List CodeLength) → words_of_codes (one ++ two) ≡ words_of_codes one ++ words_of_codes two
codes_both [] two = refl
codes_both (c ∷ one) two = ap (λ (xs : List ℕ). c.packed % 2 ^ 32 ∷ c.packed / 2 ^ 32 ∷ xs) (codes_both one two)

pub length-words_of_codes : (codes : List CodeLength) → length (words_of_codes codes) ≡ 2 * length codes
length-words_of_codes [] = refl
length-words_of_codes (c ∷ codes) = omega (arith, length-words_of_codes codes)

pub codes_back : (codes : List CodeLength) (rest : List ℕ) → codes_in (length codes) (words_of_codes codes ++ rest) ≡ codes
codes_back [] rest = refl
codes_back (c ∷ codes) rest =
    let whole : c.packed % 2 ^ 32 + 2 ^ 32 * (c.packed / 2 ^ 32) ≡ c.packed = omega arith in
    rw (whole, codes_back codes rest) refl

drop_codes : (codes : List CodeLength) (rest : List ℕ) → drop (2 * length codes) (words_of_codes codes ++ rest) ≡ rest
drop_codes [] rest = refl
drop_codes (c ∷ codes) rest =
    let e : 2 * length (c ∷ codes) ≡ suc (suc (2 * length codes)) = omega arith in
    rw e (drop_codes codes rest)

nodes_again : (nodes : List Node) → map (λ (word : ℕ). record { packed = word }) (words_of_nodes nodes) ≡ nodes
nodes_again [] = refl
nodes_again (node ∷ nodes) = ap (λ (ns : List Node). node ∷ ns) (nodes_again nodes)

pub nodes_back : (codes : List CodeLength) (nodes : List Node) → nodes_in (length codes) (words_of_codes codes ++ words_of_nodes nodes) ≡ nodes
nodes_back codes nodes = ap (λ (xs : List ℕ). map (λ (word : ℕ). record { packed = word }) xs) (drop_codes codes (words_of_nodes nodes)) ∙ nodes_again nodes

-- ---- reading a node

pub node_kept : (n : ℕ) (words : List ℕ) (s word : ℕ) (node : Node) → 2 * n + s < length words → word ≡ get_or words (2 * n + s) word → node ≡ record { packed = word } → node ≡ get_or (nodes_in n words) s node
node_kept n words s word node lt e node-is =
    node-is ∙ ap (λ (w : ℕ). record { packed = w }) (e ∙ sym (get_or-drop (2 * n) words s word)) ∙ sym (get_or-map (λ (w : ℕ). record { packed = w }) (drop (2 * n) words) s word node (omega (arith, lt, length-drop (2 * n) words)))

pub length-nodes_in : (n : ℕ) (words : List ℕ) → length (nodes_in n words) ≡ length words - 2 * n
length-nodes_in n words = length-map (drop (2 * n) words) (λ (word : ℕ). record { packed = word }) ∙ length-drop (2 * n) words

-- code lengths and nodes that were put one after the other
pub record AreBehind (codes : List CodeLength) (nodes : List Node) (n : ℕ) (words : List ℕ) : Type 0 where
  pub all : 2 * n ≤ length words
  pub codes_there : codes_in n words ≡ codes
  pub nodes_there : nodes_in n words ≡ nodes

pub are_behind : (codes : List CodeLength) (nodes : List Node) (n : ℕ) (words : List ℕ) → length codes ≡ n → words ≡ words_of_codes codes ++ words_of_nodes nodes → AreBehind codes nodes n words
are_behind codes nodes n words len is = rw (← len, is) (record {
  all = omega (arith, length-append (words_of_codes codes) (words_of_nodes nodes), length-words_of_codes codes);
  codes_there = codes_back codes (words_of_nodes nodes);
  nodes_there = nodes_back codes nodes;
})

-- one code length more
pub words_more : (before words : List ℕ) (codes : List CodeLength) (i : ℕ) (code : CodeLength) → i < length codes → code ≡ get_or codes i code → words ≡ before ++ words_of_codes (take i codes) → words ++ words_of_codes (code ∷ []) ≡ before ++ words_of_codes (take (i + 1) codes)
words_more before words codes i code lt e so =
    let next : words_of_codes (take (i + 1) codes) ≡ words_of_codes (take i codes) ++ words_of_codes (code ∷ []) = ap words_of_codes (take_more codes i code lt ∙ ap (λ (c : CodeLength). take i codes ++ c ∷ []) (sym e)) ∙ codes_both (take i codes) (code ∷ []) in
    rw (so, next) (append_assoc before (words_of_codes (take i codes)) (words_of_codes (code ∷ [])))
