-- Counts that are found one after the other.
use Rattle.std.proofs.Common.{◌≡◌, ◌≢◌, ℕ, ◌+◌, ◌<◌, ◌≤◌, List, ◌++◌, length, get_or, set, take, refl, sym, ap, ◌∙◌, inl, inr, arith}
use Rattle.std.specs.Prelude.{◌⊎◌}
use Rattle.std.proofs.lemmas.List.{length-append, length-set, get_or-set_same, get_or-set_other, set-get_or, take-append-le, take_all}
use Rattle.std.proofs.lemmas.Bool.{cases_eq}
use Rattle.pair_dict.specs.Symbols.{symbol_count, left, right, HasSymbolValues, leaf, pair}
use Rattle.pair_dict.specs.Inside.Counts.{AreCounts, AreSettled, KeepsKnown}

-- a symbol with values is one of the symbols
pub has_known : {symbols : List ℕ} {s : ℕ} {vs : List ℕ} → HasSymbolValues symbols s vs → s < symbol_count symbols
has_known (leaf lt e) = lt
has_known (pair lt ne a b e) = lt

-- and has a value at least
pub has_some : {symbols : List ℕ} {s : ℕ} {vs : List ℕ} → HasSymbolValues symbols s vs → 1 ≤ length vs
has_some (leaf lt e) = omega arith
has_some (pair {xs = xs} {ys = ys} lt ne a b e) = omega (arith, ap length e, length-append xs ys, has_some a)

-- a count that is known is the number of values
pub counted_values : {symbols : List ℕ} {s : ℕ} {vs : List ℕ} (counts : List ℕ) → AreSettled symbols counts → get_or counts s 0 ≢ 0 → HasSymbolValues symbols s vs → length vs ≡ get_or counts s 0
counted_values counts h ne (leaf lt e) =
    elim (h.each _ lt ne) [
      | inl one ↦ sym one.one
      | inr two ↦ absurd (two.pair.is_pair e)
    ]
counted_values {symbols} {s} {vs} counts h ne (pair {xs = xs} {ys = ys} lt not_leaf a b e) =
    elim (h.each s lt ne) [
      | inl one ↦ absurd (not_leaf one.is_leaf)
      | inr two ↦
          let x = counted_values counts h two.left_is a in
          let y = counted_values counts h two.right_is b in
          ap length e ∙ length-append xs ys ∙ omega (arith, x, y, two.pair.both)
    ]

-- the sum of two counts that are known
pub record IsSum (symbols counts : List ℕ) (s n : ℕ) : Type 0 where
  pub is_pair : right symbols s ≢ 4095
  pub left_known : left symbols s < symbol_count symbols
  pub right_known : right symbols s < symbol_count symbols
  pub left_is : get_or counts (left symbols s) 0 ≢ 0
  pub right_is : get_or counts (right symbols s) 0 ≢ 0
  pub sum : n ≡ get_or counts (left symbols s) 0 + get_or counts (right symbols s) 0

-- the count of a symbol by those that are known
pub record IsNext (symbols counts : List ℕ) (s n : ℕ) : Type 0 where
  pub some : 1 ≤ n
  pub few : n ≤ 256
  pub is : ((right symbols s ≡ 4095) × (n ≡ 1)) ⊎ IsSum symbols counts s n

-- one count more
settled_set : (symbols counts : List ℕ) (s n : ℕ) → AreSettled symbols counts → s < symbol_count symbols → get_or counts s 0 ≡ 0 → IsNext symbols counts s n → AreSettled symbols (set counts s n)
settled_set symbols counts s n h lt none next =
    let within : s < length counts = omega (arith, h.lengths) in
    let here : get_or (set counts s n) s 0 ≡ n = get_or-set_same counts s n 0 within in
    let other : (t : ℕ) → get_or counts t 0 ≢ 0 → get_or (set counts s n) t 0 ≡ get_or counts t 0 = λ t is. get_or-set_other counts s t n 0 (λ e. is (ap (λ k. get_or counts k 0) e ∙ none)) in
    record {
      lengths = length-set counts s n ∙ h.lengths;
      few = λ t. elim (cases_eq t s) [
        | inl e ↦ omega (arith, ap (λ k. get_or (set counts s n) k 0) e, here, next.few)
        | inr ne ↦ omega (arith, get_or-set_other counts s t n 0 ne, h.few t)
      ];
      each = λ t t-lt some. elim (cases_eq t s) [
        | inl e ↦ rw e (elim next.is [
          | inl one ↦ inl (record { is_leaf = one.0; one = here ∙ one.1 })
          | inr two ↦ inr (record {
            pair = record { is_pair = two.is_pair; left_known = two.left_known; right_known = two.right_known; both = here ∙ two.sum ∙ omega (arith, other (left symbols s) two.left_is, other (right symbols s) two.right_is) };
            left_is = λ z. two.left_is (sym (other (left symbols s) two.left_is) ∙ z);
            right_is = λ z. two.right_is (sym (other (right symbols s) two.right_is) ∙ z);
          })
        ])
        | inr ne ↦
            let same = get_or-set_other counts s t n 0 ne in
            elim (h.each t t-lt (λ z. some (same ∙ z))) [
              | inl one ↦ inl (record { is_leaf = one.is_leaf; one = same ∙ one.one })
              | inr two ↦ inr (record {
                pair = record { is_pair = two.pair.is_pair; left_known = two.pair.left_known; right_known = two.pair.right_known; both = same ∙ two.pair.both ∙ omega (arith, other (left symbols t) two.left_is, other (right symbols t) two.right_is) };
                left_is = λ z. two.left_is (sym (other (left symbols t) two.left_is) ∙ z);
                right_is = λ z. two.right_is (sym (other (right symbols t) two.right_is) ∙ z);
              })
            ]
      ];
    }

-- a count that is known already is that one
known_next : (symbols counts : List ℕ) (s n : ℕ) → AreSettled symbols counts → s < symbol_count symbols → get_or counts s 0 ≢ 0 → IsNext symbols counts s n → n ≡ get_or counts s 0
known_next symbols counts s n h lt known next =
    elim (h.each s lt known) [
      | inl one ↦ elim next.is [
        | inl leaf_is ↦ leaf_is.1 ∙ sym one.one
        | inr two ↦ absurd (two.is_pair one.is_leaf)
      ]
      | inr both ↦ elim next.is [
        | inl leaf_is ↦ absurd (both.pair.is_pair leaf_is.0)
        | inr two ↦ two.sum ∙ sym both.pair.both
      ]
    ]

-- a count is put, and those that were known stay
pub record IsPut (symbols old new : List ℕ) (s : ℕ) : Type 0 where
  pub settled : AreSettled symbols new
  pub kept : KeepsKnown old new
  pub counted : get_or new s 0 ≢ 0

pub put_count : (symbols counts : List ℕ) (s n : ℕ) → AreSettled symbols counts → s < symbol_count symbols → IsNext symbols counts s n → IsPut symbols counts (set counts s n) s
put_count symbols counts s n h lt next =
    let here : get_or (set counts s n) s 0 ≡ n = get_or-set_same counts s n 0 (omega (arith, h.lengths)) in
    elim (cases_eq (get_or counts s 0) 0) [
      | inl none ↦ record {
        settled = settled_set symbols counts s n h lt none next;
        kept = λ t is. get_or-set_other counts s t n 0 (λ e. is (ap (λ k. get_or counts k 0) e ∙ none));
        counted = λ z. absurd (omega (arith, here, next.some));
      }
      | inr known ↦
          let same : set counts s n ≡ counts = ap (λ (m : ℕ). set counts s m) (known_next symbols counts s n h lt known next) ∙ set-get_or counts s 0 in
          rw same (record { settled = h; kept = λ t is. refl; counted = known })
    ]

pub put_leaf : (symbols counts : List ℕ) (s : ℕ) → AreSettled symbols counts → s < symbol_count symbols → right symbols s ≡ 4095 → IsPut symbols counts (set counts s 1) s
put_leaf symbols counts s h lt e = put_count symbols counts s 1 h lt (record { some = omega arith; few = omega arith; is = inl (e, refl) })

pub kept_after : (a b c : List ℕ) → KeepsKnown a b → KeepsKnown b c → KeepsKnown a c
kept_after a b c one two s is = two s (λ z. is (sym (one s is) ∙ z)) ∙ one s is

-- both halves are counted, and then the pair
pub put_pair : (symbols old one two : List ℕ) (s a b n : ℕ) → s < symbol_count symbols → right symbols s ≢ 4095 → a ≡ left symbols s → b ≡ right symbols s → a < symbol_count symbols → b < symbol_count symbols
    → KeepsKnown old one → get_or one a 0 ≢ 0 → KeepsKnown one two → get_or two b 0 ≢ 0 → AreSettled symbols two
    → n ≡ get_or two a 0 + get_or two b 0 → n ≤ 256 → IsPut symbols old (set two s n) s
put_pair symbols old one two s a b n lt ne a-is b-is a-lt b-lt kept a-some kept-2 b-some h n-is few =
    let a-still : get_or two a 0 ≢ 0 = λ z. a-some (sym (kept-2 a a-some) ∙ z) in
    let p = put_count symbols two s n h lt (record {
      some = omega (arith, n-is, b-some);
      few = few;
      is = inr (record {
        is_pair = ne;
        left_known = rw (← a-is) a-lt;
        right_known = rw (← b-is) b-lt;
        left_is = rw (← a-is) a-still;
        right_is = rw (← b-is) b-some;
        sum = rw (← a-is, ← b-is) n-is;
      });
    }) in
    record { settled = p.settled; kept = kept_after old two (set two s n) (kept_after old one two kept kept-2) p.kept; counted = p.counted }

-- ---- symbols without values, or with too many

-- a reference at or above the number of symbols has no values
pub no_reference : {symbols : List ℕ} {s : ℕ} {vs : List ℕ} → right symbols s ≢ 4095 → (symbol_count symbols ≤ left symbols s) ⊎ (symbol_count symbols ≤ right symbols s) → HasSymbolValues symbols s vs → ⊥
no_reference ne past (leaf lt e) = ne e
no_reference ne past (pair lt not_leaf a b e) =
    elim past [
      | inl l ↦ absurd (omega (arith, l, has_known a))
      | inr r ↦ absurd (omega (arith, r, has_known b))
    ]

pub more_left : {symbols : List ℕ} {s : ℕ} {vs : List ℕ} (most : ℕ) → right symbols s ≢ 4095 → ((xs : List ℕ) → HasSymbolValues symbols (left symbols s) xs → most < length xs) → HasSymbolValues symbols s vs → most + 1 < length vs
more_left most ne more (leaf lt e) = absurd (ne e)
more_left most ne more (pair {xs = xs} {ys = ys} lt not_leaf a b e) = omega (arith, ap length e, length-append xs ys, more xs a, has_some b)

pub more_right : {symbols : List ℕ} {s : ℕ} {vs : List ℕ} (most : ℕ) → right symbols s ≢ 4095 → ((xs : List ℕ) → HasSymbolValues symbols (right symbols s) xs → most < length xs) → HasSymbolValues symbols s vs → most + 1 < length vs
more_right most ne more (leaf lt e) = absurd (ne e)
more_right most ne more (pair {xs = xs} {ys = ys} lt not_leaf a b e) = omega (arith, ap length e, length-append xs ys, more ys b, has_some a)

pub too_many : {symbols : List ℕ} {s : ℕ} {vs : List ℕ} (counts : List ℕ) → AreSettled symbols counts → right symbols s ≢ 4095 → get_or counts (left symbols s) 0 ≢ 0 → get_or counts (right symbols s) 0 ≢ 0
    → 256 < get_or counts (left symbols s) 0 + get_or counts (right symbols s) 0 → HasSymbolValues symbols s vs → 256 < length vs
too_many counts h ne l r lt (leaf known e) = absurd (ne e)
too_many counts h ne l r lt (pair {xs = xs} {ys = ys} known not_leaf a b e) =
    omega (arith, ap length e, length-append xs ys, counted_values counts h l a, counted_values counts h r b)

-- ---- all counts

pub all_counted : (symbols counts : List ℕ) → AreSettled symbols counts → ((s : ℕ) → s < symbol_count symbols → get_or counts s 0 ≢ 0) → AreCounts symbols counts
all_counted symbols counts h known =
    record {
      lengths = h.lengths;
      each = λ s lt. elim (h.each s lt (known s lt)) [ inl one ↦ inl one | inr two ↦ inr two.pair ];
      some = λ s lt. omega (arith, known s lt);
      few = λ s lt. h.few s;
    }

-- nothing is counted yet
pub settled_first : (symbols counts : List ℕ) → length counts ≡ symbol_count symbols → ((s : ℕ) → get_or counts s 0 ≡ 0) → AreSettled symbols counts
settled_first symbols counts len none = record { lengths = len; each = λ s lt ne. absurd (ne (none s)); few = λ s. omega (arith, none s) }

-- the counts of the symbols before one are known
pub record IsAll (symbols counts : List ℕ) (s : ℕ) : Type 0 where
  pub settled : AreSettled symbols counts
  pub known : (t : ℕ) → t < s → get_or counts t 0 ≢ 0

-- the counts after one turn more, written back over all of those that were held
pub settled_more : (symbols old held new after : List ℕ) (m s : ℕ) → m ≡ length new → held ≡ old → AreSettled symbols new → KeepsKnown held new → get_or new s 0 ≢ 0 → ((t : ℕ) → t < s → get_or old t 0 ≢ 0) → IsAll symbols (take m (new ++ after)) (s + 1)
settled_more symbols old held new after m s whole held-is settled kept counted known =
    let same : take m (new ++ after) ≡ new = take-append-le m new after (omega (arith, whole)) ∙ take_all m new (omega (arith, whole)) in
    let still : (t : ℕ) → t < s → get_or new t 0 ≢ 0 = λ t lt z.
    let is = ap (λ (xs : List ℕ). get_or xs t 0) held-is in
    known t lt (sym is ∙ sym (kept t (λ e. known t lt (sym is ∙ e))) ∙ z) in
    rw same (record {
      settled = settled;
      known = λ t lt. elim (cases_eq t s) [
        | inl e ↦ rw e counted
        | inr ne ↦ still t (omega (arith, lt, ne))
      ];
    })
