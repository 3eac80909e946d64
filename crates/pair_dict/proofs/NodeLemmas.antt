-- Nodes of symbols.
use Rattle.std.proofs.Common.{◌≡◌, ◌≢◌, ℕ, ◌+◌, ◌-◌, ◌<◌, suc, ◌≤◌, List, [], ◌∷◌, ◌++◌, length, get_or, set, take, drop, map, append_assoc, refl, sym, ap, subst, ◌∙◌, inl, inr, arith}
use Rattle.std.proofs.lemmas.List.{length-append, length-set, length-map, get_or-map, get_or_append_left, get_or-append_right, get_or-set_same, get_or-set_other, get_or_read, get_or_default, take-append-le, take_all, take_more, map-append, drop_at, length-drop, get_or-drop}
use Rattle.std.proofs.lemmas.Bool.{cases_lt, cases_eq}
use Rattle.pair_dict.specs.Symbols.{symbol_count, left, right, HasSymbolValues, leaf, pair, values_of}
use Rattle.pair_dict.specs.Inside.Counts.{AreCounts, AreSettled, KeepsKnown}
use Rattle.pair_dict.specs.Inside.Nodes.{node_parts, AreEqual, IsPair, AreNodeParts, IsNode, AreNodes, AreKnownNodes, Joins, counts_in}
use Rattle.pair_dict.specs.Inside.Hints.{IsHint, AreHints, less_one}
use Rattle.pair_dict.specs.declared.nodes.Node.{Node}
use Rattle.pair_dict.specs.declared.nodes.Parts.{Parts}
use Rattle.pair_dict.specs.declared.nodes.Parts.TheVariants.{Equal, Pair}
use Rattle.pair_dict.proofs.Settling.{counted_values}
use Rattle.pair_dict.proofs.SymbolValues.{length-values_of, values_of_has, pair_at}

node_is : (symbols : List ℕ) (s : ℕ) (node : Node) (parts : Parts) → node_parts node ≡ parts → AreNodeParts symbols s parts → IsNode symbols s node
node_is symbols s node parts e are = subst (λ (p : Parts). AreNodeParts symbols s p) (sym e) are

parts_are : (symbols : List ℕ) (s : ℕ) (node : Node) (parts : Parts) → node_parts node ≡ parts → IsNode symbols s node → AreNodeParts symbols s parts
parts_are symbols s node parts e is = subst (λ (p : Parts). AreNodeParts symbols s p) e is

-- ---- making a node

abbrev none : Node
none = record { packed = 0 }

leaf_equal : {symbols : List ℕ} {s : ℕ} {vs : List ℕ} (value : ℕ) → right symbols s ≡ 4095 → value ≡ left symbols s → HasSymbolValues symbols s vs → (i : ℕ) → i < length vs → get_or vs i 0 ≡ value
leaf_equal value e is (leaf lt e-2) i within =
    let none : i ≡ 0 = omega arith in
    rw none (sym is)
leaf_equal value e is (pair lt ne a b e-2) i within = absurd (ne e)

pair_equal : {symbols : List ℕ} {s : ℕ} {vs : List ℕ} (value : ℕ) → right symbols s ≢ 4095 → AreEqual symbols (left symbols s) value → AreEqual symbols (right symbols s) value → HasSymbolValues symbols s vs → (i : ℕ) → i < length vs → get_or vs i 0 ≡ value
pair_equal value ne one two (leaf lt e) i within = absurd (ne e)
pair_equal value ne one two (pair {xs = xs} {ys = ys} lt not_leaf a b e) i within =
    let more = length-append xs ys in
    let whole = ap length e in
    rw e (elim (cases_lt i (length xs)) [
      | inl before ↦ get_or_append_left xs ys 0 i before ∙ one xs a i before
      | inr past ↦ get_or-append_right xs ys (length xs) i 0 refl past ∙ two ys b (i - length xs) (omega (arith, more, whole, within, past))
    ])

-- the node of a leaf
pub leaf_node : (symbols : List ℕ) (s value : ℕ) (node : Node) → node_parts node ≡ Equal value → right symbols s ≡ 4095 → value ≡ left symbols s → IsNode symbols s node
leaf_node symbols s value node e is_leaf is = node_is symbols s node (Equal value) e (λ vs has. leaf_equal value is_leaf is has)

-- the node of a pair both of whose symbols have this value alone
pub joins_equal : (nodes : List Node) (a b skipped value : ℕ) (node : Node) → a < length nodes → b < length nodes → node_parts (get_or nodes a none) ≡ Equal value → node_parts (get_or nodes b none) ≡ Equal value → node_parts node ≡ Equal value
    → Joins nodes a b skipped node
joins_equal nodes a b skipped value node a-lt b-lt one two e symbols s other ne left-is right-is first second many =
    let x : IsNode symbols a (get_or nodes a none) = rw (get_or_default nodes a none other a-lt) first in
    let y : IsNode symbols b (get_or nodes b none) = rw (get_or_default nodes b none other b-lt) second in
    let left-equal : AreEqual symbols a value = parts_are symbols a (get_or nodes a none) (Equal value) one x in
    let right-equal : AreEqual symbols b value = parts_are symbols b (get_or nodes b none) (Equal value) two y in
    node_is symbols s node (Equal value) e (λ vs has. pair_equal value ne (rw left-is at left-equal) (rw right-is at right-equal) has)

-- the node of any pair
pub joins_pair : (nodes : List Node) (a b skipped : ℕ) (node : Node) → node_parts node ≡ Pair a b skipped → Joins nodes a b skipped node
joins_pair nodes a b skipped node e symbols s other ne left-is right-is first second many =
    node_is symbols s node (Pair a b skipped) e (record { is_pair = ne; left_is = left-is; right_is = right-is; many = many })

-- ---- one node after the other

pub node_put : (symbols counts : List ℕ) (nodes : List Node) (s n : ℕ) (node : Node) → AreKnownNodes symbols counts nodes → s < symbol_count symbols → IsNode symbols s node → AreKnownNodes symbols (set counts s n) (set nodes s node)
node_put symbols counts nodes s n node h lt is = record {
  lengths = length-set nodes s node ∙ h.lengths;
  each = λ t other t-lt known. elim (cases_eq t s) [
    | inl e ↦ rw (e, get_or-set_same nodes s node other (omega (arith, h.lengths))) is
    | inr ne ↦ rw (get_or-set_other nodes s t node other ne) (h.each t other t-lt (λ z. known (get_or-set_other counts s t n 0 ne ∙ z)))
  ];
}

-- both halves are settled, and then the pair
pub pair_put : (symbols one two : List ℕ) (nodes : List Node) (s a b skipped n : ℕ) (node : Node) → s < symbol_count symbols → right symbols s ≢ 4095 → a ≡ left symbols s → b ≡ right symbols s → a < symbol_count symbols → b < symbol_count symbols
    → get_or one a 0 ≢ 0 → KeepsKnown one two → get_or two b 0 ≢ 0 → AreSettled symbols two → AreKnownNodes symbols two nodes → skipped ≡ get_or two a 0 → Joins nodes a b skipped node
    → AreKnownNodes symbols (set two s n) (set nodes s node)
pair_put symbols one two nodes s a b skipped n node lt ne a-is b-is a-lt b-lt a-some kept b-some settled known skipped-is joins =
    let a-still : get_or two a 0 ≢ 0 = λ z. a-some (sym (kept a a-some) ∙ z) in
    node_put symbols two nodes s n node known lt
    (joins symbols s none ne a-is b-is (known.each a none a-lt a-still) (known.each b none b-lt b-some) (λ vs has. counted_values two settled a-still has ∙ sym skipped-is))

pub nodes_first : (symbols counts : List ℕ) (nodes : List Node) → length nodes ≡ symbol_count symbols → ((s : ℕ) → get_or counts s 0 ≡ 0) → AreKnownNodes symbols counts nodes
nodes_first symbols counts nodes len zero-is = record { lengths = len; each = λ s other lt known. absurd (known (zero-is s)) }

-- what was written is written back over all that was held
pub nodes_more : (symbols new after : List ℕ) (nodes behind : List Node) (m n : ℕ) → m ≡ length new → n ≡ length nodes → AreKnownNodes symbols new nodes → AreKnownNodes symbols (take m (new ++ after)) (take n (nodes ++ behind))
nodes_more symbols new after nodes behind m n m-is n-is known =
    let same : take m (new ++ after) ≡ new = take-append-le m new after (omega (arith, m-is)) ∙ take_all m new (omega (arith, m-is)) in
    let same-nodes : take n (nodes ++ behind) ≡ nodes = take-append-le n nodes behind (omega (arith, n-is)) ∙ take_all n nodes (omega (arith, n-is)) in
    rw (same, same-nodes) known

pub all_nodes : (symbols counts : List ℕ) (nodes : List Node) → AreKnownNodes symbols counts nodes → ((s : ℕ) → s < symbol_count symbols → get_or counts s 0 ≢ 0) → AreNodes symbols nodes
all_nodes symbols counts nodes h known = record { lengths = h.lengths; each = λ s other lt. h.each s other lt (known s lt) }

-- ---- going down by nodes

module _ (symbols counts : List ℕ) (h : AreCounts symbols counts) (nodes : List Node) (are : AreNodes symbols nodes) (s : ℕ) (lt : s < symbol_count symbols) (node : Node) (read : node ≡ get_or nodes s node) where
  here : IsNode symbols s node
  here = rw (get_or_read nodes s node (omega (arith, are.lengths, lt)) read node) (are.each s node lt)

  -- all values are equal
  pub value_equal : (value i : ℕ) → Equal value ≡ node_parts node → i < get_or counts s 0 → value ≡ get_or (values_of symbols s) i 0
  value_equal value i e within =
      let equal : AreEqual symbols s value = parts_are symbols s node (Equal value) (sym e) here in
      sym (equal (values_of symbols s) (values_of_has symbols counts h s lt) i (omega (arith, within, length-values_of symbols counts h s lt)))

  -- the values of two symbols
  pub pair_here : (a b skipped : ℕ) → Pair a b skipped ≡ node_parts node → IsPair symbols s a b skipped
  pair_here a b skipped e = parts_are symbols s node (Pair a b skipped) (sym e) here

  pub skipped_is : (a b skipped : ℕ) → IsPair symbols s a b skipped → skipped ≡ get_or counts a 0
  skipped_is a b skipped is =
      let two = pair_at symbols counts h s lt is.is_pair in
      let known : a < symbol_count symbols = rw is.left_is two.left_known in
      sym (is.many (values_of symbols a) (values_of_has symbols counts h a known)) ∙ length-values_of symbols counts h a known

-- ---- counts in bytes

pub length-counts_in : (bytes : List ℕ) → length (counts_in bytes) ≡ length bytes - 64
length-counts_in bytes = length-map (drop 64 bytes) (λ (n : ℕ). n + 1) ∙ length-drop 64 bytes

-- what was read of a byte
pub read_byte : (symbols bytes : List ℕ) (h : AreCounts symbols (counts_in bytes)) (s x : ℕ) → s < symbol_count symbols → x ≡ get_or bytes (64 + s) x → x + 1 ≡ get_or (counts_in bytes) s 0
read_byte symbols bytes h s x lt e =
    let within : s < length (drop 64 bytes) = omega (arith, lt, h.lengths, length-counts_in bytes, length-drop 64 bytes) in
    ap (λ (n : ℕ). n + 1) (e ∙ sym (get_or-drop 64 bytes s x)) ∙ sym (get_or-map (λ (n : ℕ). n + 1) (drop 64 bytes) s x 0 within)

-- one byte more
pub less_more : (bytes counts before : List ℕ) (i v : ℕ) → i < length counts → v ≡ get_or counts i 0 - 1 → bytes ≡ before ++ less_one (take i counts) → bytes ++ v ∷ [] ≡ before ++ less_one (take (i + 1) counts)
less_more bytes counts before i v lt v-is so =
    let next : less_one (take (i + 1) counts) ≡ less_one (take i counts) ++ v ∷ [] =
    ap less_one (take_more counts i 0 lt) ∙ map-append (λ (n : ℕ). n - 1) (take i counts) (get_or counts i 0 ∷ []) ∙ rw v-is refl in
    rw (so, next) (append_assoc before (less_one (take i counts)) (v ∷ []))

back : (counts : List ℕ) → ((s : ℕ) → s < length counts → 1 ≤ get_or counts s 0) → map (λ (n : ℕ). n + 1) (less_one counts) ≡ counts
back [] some = refl
back (n ∷ counts) some =
    let here : n - 1 + 1 ≡ n = omega (arith, some 0 (omega arith)) in
    rw (here, back counts (λ s lt. some (suc s) (omega arith))) refl

-- the counts behind the hints
pub counts_back : (hints counts : List ℕ) → length hints ≡ 64 → ((s : ℕ) → s < length counts → 1 ≤ get_or counts s 0) → counts_in (hints ++ less_one counts) ≡ counts
counts_back hints counts all some = ap (λ (xs : List ℕ). map (λ (n : ℕ). n + 1) xs) (ap (λ (k : ℕ). drop k (hints ++ less_one counts)) (sym all) ∙ drop_at hints (less_one counts) (length hints) refl) ∙ back counts some

-- one hint more
pub hint_more : (firsts bytes : List ℕ) (prefix v : ℕ) → length bytes ≡ prefix → ((k : ℕ) → k < prefix → IsHint firsts k (get_or bytes k 0)) → IsHint firsts prefix v → (k : ℕ) → k < prefix + 1 → IsHint firsts k (get_or (bytes ++ v ∷ []) k 0)
hint_more firsts bytes prefix v all before here k lt =
    elim (cases_lt k (length bytes)) [
      | inl less ↦ rw (get_or_append_left bytes (v ∷ []) 0 k less) (before k (omega (arith, all, less)))
      | inr past ↦
          let last : k - length bytes ≡ 0 = omega (arith, all, lt) in
          let same : k ≡ prefix = omega (arith, all, lt, past) in
          rw (get_or-append_right bytes (v ∷ []) (length bytes) k 0 refl past, last, same) here
    ]

-- more bytes behind the hints
pub hints_stay : (firsts bytes more : List ℕ) → AreHints firsts bytes → AreHints firsts (bytes ++ more)
hints_stay firsts bytes more hints = record {
  all = omega (arith, hints.all, length-append bytes more);
  each = λ k lt. rw (get_or_append_left bytes more 0 k (omega (arith, hints.all, lt))) (hints.each k lt);
}
