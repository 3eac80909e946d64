-- The values of symbols whose counts are known.
use Rattle.std.proofs.Common.{◌≡◌, ◌≢◌, ℕ, zero, suc, ◌+◌, ◌-◌, ◌<◌, ◌≤◌, cond, eqb, List, [], ◌∷◌, ◌++◌, length, get_or, refl, sym, ap, ◌∙◌, inl, inr, arith}
use Rattle.std.proofs.lemmas.List.{length-append, get_or_append_left, get_or-append_right, get_or_read}
use Rattle.std.proofs.lemmas.Bool.{eq-eqb, ne_eqb}
use Rattle.pair_dict.specs.Symbols.{symbol_count, left, right, HasSymbolValues, leaf, pair, AllHaveValues, values_to, values_of, ValuesAreUnique, ValuesAreComputed}
use Rattle.pair_dict.proofs.Settling.{has_some}
use Rattle.pair_dict.specs.Inside.Counts.{IsPairCount, AreCounts}

level : (symbols : List ℕ) (k s : ℕ) → values_to symbols (suc k) s ≡ cond (eqb (right symbols s) 4095) (left symbols s ∷ []) (values_to symbols k (left symbols s) ++ values_to symbols k (right symbols s))
unfolding values_to
level symbols k s = refl

level_leaf : (symbols : List ℕ) (k s : ℕ) → right symbols s ≡ 4095 → values_to symbols (suc k) s ≡ left symbols s ∷ []
level_leaf symbols k s e = level symbols k s ∙ rw (eq-eqb (right symbols s) 4095 e) refl

level_pair : (symbols : List ℕ) (k s : ℕ) → right symbols s ≢ 4095 → values_to symbols (suc k) s ≡ values_to symbols k (left symbols s) ++ values_to symbols k (right symbols s)
level_pair symbols k s e = level symbols k s ∙ rw (ne_eqb (right symbols s) 4095 e) refl

module _ (symbols : List ℕ) (counts : List ℕ) (h : AreCounts symbols counts) where
  -- deeper than its count a symbol has no more values
  deeper : (k s : ℕ) → s < symbol_count symbols → get_or counts s 0 ≤ k → values_to symbols (suc k) s ≡ values_to symbols k s
  deeper zero s lt le = absurd (omega (arith, h.some s lt))
  deeper (suc k) s lt le =
      elim (h.each s lt) [
        | inl one ↦ level_leaf symbols (suc k) s one.is_leaf ∙ sym (level_leaf symbols k s one.is_leaf)
        | inr two ↦
            let a = deeper k (left symbols s) two.left_known (omega (arith, two.both, h.some (right symbols s) two.right_known)) in
            let b = deeper k (right symbols s) two.right_known (omega (arith, two.both, h.some (left symbols s) two.left_known)) in
            level_pair symbols (suc k) s two.is_pair ∙ rw (a, b) (sym (level_pair symbols k s two.is_pair))
      ]

  counted : (k s : ℕ) → s < symbol_count symbols → get_or counts s 0 ≤ k → length (values_to symbols k s) ≡ get_or counts s 0
  counted zero s lt le = absurd (omega (arith, h.some s lt))
  counted (suc k) s lt le =
      elim (h.each s lt) [
        | inl one ↦ ap length (level_leaf symbols k s one.is_leaf) ∙ sym one.one
        | inr two ↦
            let a = counted k (left symbols s) two.left_known (omega (arith, two.both, h.some (right symbols s) two.right_known)) in
            let b = counted k (right symbols s) two.right_known (omega (arith, two.both, h.some (left symbols s) two.left_known)) in
            ap length (level_pair symbols k s two.is_pair) ∙ length-append (values_to symbols k (left symbols s)) (values_to symbols k (right symbols s)) ∙ omega (arith, a, b, two.both)
      ]

  has : (k s : ℕ) → s < symbol_count symbols → get_or counts s 0 ≤ k → HasSymbolValues symbols s (values_to symbols k s)
  has zero s lt le = absurd (omega (arith, h.some s lt))
  has (suc k) s lt le =
      elim (h.each s lt) [
        | inl one ↦ rw (level_leaf symbols k s one.is_leaf) (leaf lt one.is_leaf)
        | inr two ↦
            let a = has k (left symbols s) two.left_known (omega (arith, two.both, h.some (right symbols s) two.right_known)) in
            let b = has k (right symbols s) two.right_known (omega (arith, two.both, h.some (left symbols s) two.left_known)) in
            pair lt two.is_pair a b (level_pair symbols k s two.is_pair)
      ]

  pub length-values_of : (s : ℕ) → s < symbol_count symbols → length (values_of symbols s) ≡ get_or counts s 0
  unfolding values_of
  length-values_of s lt = counted 256 s lt (h.few s lt)

  pub values_of_has : (s : ℕ) → s < symbol_count symbols → HasSymbolValues symbols s (values_of symbols s)
  unfolding values_of
  values_of_has s lt = has 256 s lt (h.few s lt)

  pub values_of_pair : (s : ℕ) → s < symbol_count symbols → IsPairCount symbols counts s → values_of symbols s ≡ values_of symbols (left symbols s) ++ values_of symbols (right symbols s)
  unfolding values_of
  values_of_pair s lt two =
      let a = deeper 255 (left symbols s) two.left_known (omega (arith, two.both, h.few s lt, h.some (right symbols s) two.right_known)) in
      let b = deeper 255 (right symbols s) two.right_known (omega (arith, two.both, h.few s lt, h.some (left symbols s) two.left_known)) in
      level_pair symbols 255 s two.is_pair ∙ rw (a, b) refl

  pub values_of_leaf : (s : ℕ) → right symbols s ≡ 4095 → values_of symbols s ≡ left symbols s ∷ []
  unfolding values_of
  values_of_leaf s e = level_leaf symbols 255 s e

  -- in the left half
  pub value_left : (s i : ℕ) → s < symbol_count symbols → right symbols s ≢ 4095 → i < get_or counts (left symbols s) 0 → get_or (values_of symbols s) i 0 ≡ get_or (values_of symbols (left symbols s)) i 0
  value_left s i lt ne within =
      elim (h.each s lt) [
        | inl one ↦ absurd (ne one.is_leaf)
        | inr two ↦
            let len = length-values_of (left symbols s) two.left_known in
            rw (values_of_pair s lt two) (get_or_append_left (values_of symbols (left symbols s)) (values_of symbols (right symbols s)) 0 i (omega (arith, len)))
      ]

  pub value_right : (s i : ℕ) → s < symbol_count symbols → right symbols s ≢ 4095 → get_or counts (left symbols s) 0 ≤ i → get_or (values_of symbols s) i 0 ≡ get_or (values_of symbols (right symbols s)) (i - get_or counts (left symbols s) 0) 0
  value_right s i lt ne within =
      elim (h.each s lt) [
        | inl one ↦ absurd (ne one.is_leaf)
        | inr two ↦
            let len = length-values_of (left symbols s) two.left_known in
            rw (values_of_pair s lt two) (get_or-append_right (values_of symbols (left symbols s)) (values_of symbols (right symbols s)) (get_or counts (left symbols s) 0) i 0 len within)
      ]

  -- the halves of a pair
  pub pair_at : (s : ℕ) → s < symbol_count symbols → right symbols s ≢ 4095 → IsPairCount symbols counts s
  pair_at s lt ne = elim (h.each s lt) [ inl one ↦ absurd (ne one.is_leaf) | inr two ↦ two ]

-- what was read of the counts
pub read_count : (symbols : List ℕ) (counts : List ℕ) (h : AreCounts symbols counts) (s x : ℕ) → s < symbol_count symbols → x ≡ get_or counts s x → x ≡ get_or counts s 0
read_count symbols counts h s x lt e = get_or_read counts s x (omega (arith, h.lengths)) e 0

-- a leaf's one value
pub leaf_value : (symbols : List ℕ) (counts : List ℕ) (h : AreCounts symbols counts) (s i : ℕ) → s < symbol_count symbols → right symbols s ≡ 4095 → i < get_or counts s 0 → left symbols s ≡ get_or (values_of symbols s) i 0
leaf_value symbols counts h s i lt e within =
    elim (h.each s lt) [
      | inl one ↦
          let zero_is : i ≡ 0 = omega (arith, one.one) in
          rw (zero_is, values_of_leaf symbols counts h s e) refl
      | inr two ↦ absurd (two.is_pair e)
    ]

-- a and b are the halves of the pair s: its values, and that each half has fewer
pub record IsJoined (symbols : List ℕ) (s a b : ℕ) : Type 0 where
  pub left_known : a < symbol_count symbols
  pub right_known : b < symbol_count symbols
  pub left_fewer : length (values_of symbols a) < length (values_of symbols s)
  pub right_fewer : length (values_of symbols b) < length (values_of symbols s)
  pub joined : values_of symbols s ≡ values_of symbols a ++ values_of symbols b

pub joined_at : (symbols : List ℕ) (counts : List ℕ) (h : AreCounts symbols counts) (s a b : ℕ) → s < symbol_count symbols → a ≡ left symbols s → b ≡ right symbols s → (b ≡ 4095 → ⊥) → IsJoined symbols s a b
joined_at symbols counts h s a b lt a-is b-is ne =
    let two = pair_at symbols counts h s lt (λ e. ne (b-is ∙ e)) in
    let x = length-values_of symbols counts h (left symbols s) two.left_known in
    let y = length-values_of symbols counts h (right symbols s) two.right_known in
    let z = length-values_of symbols counts h s lt in
    rw (a-is, b-is) (record {
      left_known = two.left_known;
      right_known = two.right_known;
      left_fewer = omega (arith, x, y, z, two.both, h.some (right symbols s) two.right_known);
      right_fewer = omega (arith, x, y, z, two.both, h.some (left symbols s) two.left_known);
      joined = values_of_pair symbols counts h s lt two;
    })

-- counted symbols all have values
pub all_have : (symbols : List ℕ) (counts : List ℕ) → AreCounts symbols counts → AllHaveValues symbols
all_have symbols counts h s lt = (values_of symbols s, values_of_has symbols counts h s lt, omega (arith, length-values_of symbols counts h s lt, h.few s lt))

-- any values down to a depth are the computed ones
only_values : (symbols : List ℕ) (k s : ℕ) (vs : List ℕ) → HasSymbolValues symbols s vs → length vs ≤ k → vs ≡ values_to symbols k s
only_values symbols zero s vs h le = absurd (omega (arith, has_some h))
only_values symbols (suc k) s vs (leaf lt e) le = sym (level_leaf symbols k s e)
only_values symbols (suc k) s vs (pair {xs = xs} {ys = ys} lt ne a b e) le =
    let len : length vs ≡ length xs + length ys = ap length e ∙ length-append xs ys in
    let one = only_values symbols k (left symbols s) xs a (omega (arith, len, has_some b)) in
    let two = only_values symbols k (right symbols s) ys b (omega (arith, len, has_some a)) in
    e ∙ ap (λ (zs : List ℕ). zs ++ ys) one ∙ ap (λ (zs : List ℕ). values_to symbols k (left symbols s) ++ zs) two ∙ sym (level_pair symbols k s ne)

pub computed_values : ValuesAreComputed
unfolding values_of
computed_values symbols s vs h le = only_values symbols 256 s vs h le

-- a symbol has one list of values at most
pub same_values : {symbols : List ℕ} {s : ℕ} {xs ys : List ℕ} → HasSymbolValues symbols s xs → HasSymbolValues symbols s ys → xs ≡ ys
same_values (leaf lt e) (leaf lt-2 e-2) = refl
same_values (leaf lt e) (pair lt-2 ne a b f) = absurd (ne e)
same_values (pair lt ne a b e) (leaf lt-2 e-2) = absurd (ne e-2)
same_values (pair {ys = ys} lt ne a b e) (pair {xs = us} lt-2 ne-2 a-2 b-2 e-2) =
    e ∙ ap (λ (zs : List ℕ). zs ++ ys) (same_values a a-2) ∙ ap (λ (zs : List ℕ). us ++ zs) (same_values b b-2) ∙ sym e-2

pub unique_values : ValuesAreUnique
unique_values symbols s xs ys one two = same_values one two
