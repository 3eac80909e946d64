-- The computed test whether symbols have values.
use Rattle.std.proofs.Common.{◌≡◌, ◌≢◌, ℕ, zero, suc, ◌+◌, ◌<◌, ◌≤◌, Bool, true, false, cond, eqb, ltb, List, [], ◌∷◌, ◌++◌, length, Option, Some, None, refl, sym, ap, ◌∙◌, inl, inr, arith}
use Rattle.std.proofs.lemmas.Bool.{cases_lt, ltb-true, lt-ltb, le-leb, leb-true, eq-eqb, ne_eqb, eqb-true, and_parts}
use Rattle.std.proofs.lemmas.List.{length-append}
use Rattle.pair_dict.proofs.Settling.{has_some}
use Rattle.pair_dict.specs.Symbols.{symbol_count, left, right, HasSymbolValues, leaf, pair, AllHaveValues, added, count_to, is_at_most_256, have_values_to, have_values, ValuesAreTested}

level : (symbols : List ℕ) (k s : ℕ) → count_to symbols (suc k) s ≡ cond (ltb s (symbol_count symbols)) (cond (eqb (right symbols s) 4095) (Some 1) (added (count_to symbols k (left symbols s)) (count_to symbols k (right symbols s)))) None
unfolding count_to
level symbols k s = refl

-- values are counted, where the depth is enough
counted : (symbols : List ℕ) (k s : ℕ) (vs : List ℕ) → HasSymbolValues symbols s vs → length vs ≤ k → count_to symbols k s ≡ Some (length vs)
counted symbols zero s vs h le = absurd (omega (arith, has_some h))
counted symbols (suc k) s vs (leaf lt e) le = level symbols k s ∙ rw (lt-ltb s (symbol_count symbols) lt, eq-eqb (right symbols s) 4095 e) refl
counted symbols (suc k) s vs (pair {xs = xs} {ys = ys} lt ne a b e) le =
    let len = length-append xs ys in
    let more = ap length e in
    let one = counted symbols k (left symbols s) xs a (omega (arith, has_some b)) in
    let two = counted symbols k (right symbols s) ys b (omega (arith, has_some a)) in
    let sum-is : length xs + length ys ≡ length vs = omega arith in
    level symbols k s ∙ rw (lt-ltb s (symbol_count symbols) lt, ne_eqb (right symbols s) 4095 ne, one, two) (ap (λ (n : ℕ). Some n) sum-is)

abbrev Has : List ℕ → ℕ → ℕ → Type 0
Has symbols s n = (vs : List ℕ) × HasSymbolValues symbols s vs × (length vs ≡ n)

not_equal : (a b : ℕ) → eqb a b ≡ false → a ≢ b
not_equal a b e = λ same. absurd (let one = eq-eqb a b same in cc)

some_is : (a n : ℕ) → Some a ≡ Some n → a ≡ n
some_is a n e = cc

found_in : (symbols : List ℕ) (s n : ℕ) (b c : Bool) (x y : Option ℕ) → ltb s (symbol_count symbols) ≡ b → eqb (right symbols s) 4095 ≡ c
    → ((m : ℕ) → x ≡ Some m → Has symbols (left symbols s) m) → ((m : ℕ) → y ≡ Some m → Has symbols (right symbols s) m)
    → cond b (cond c (Some 1) (added x y)) None ≡ Some n → Has symbols s n
found_in symbols s n false c x y lt eq f g e = absurd cc
found_in symbols s n true true x y lt eq f g e = (left symbols s ∷ [], leaf (ltb-true s (symbol_count symbols) lt) (eqb-true (right symbols s) 4095 eq), some_is 1 n e)
found_in symbols s n true false None y lt eq f g e = absurd cc
found_in symbols s n true false (Some a) None lt eq f g e = absurd cc
found_in symbols s n true false (Some a) (Some b) lt eq f g e =
    let l = f a refl in
    let r = g b refl in
    (l.0 ++ r.0, pair (ltb-true s (symbol_count symbols) lt) (not_equal (right symbols s) 4095 eq) l.1 r.1 refl, omega (arith, length-append l.0 r.0, l.2, r.2, some_is (a + b) n e))

found : (symbols : List ℕ) (k s n : ℕ) → count_to symbols k s ≡ Some n → Has symbols s n
unfolding count_to
found symbols zero s n e = absurd cc
found symbols (suc k) s n e =
    found_in symbols s n (ltb s (symbol_count symbols)) (eqb (right symbols s) 4095) (count_to symbols k (left symbols s)) (count_to symbols k (right symbols s)) refl refl (λ m. found symbols k (left symbols s) m) (λ m. found symbols k (right symbols s) m) (sym (level symbols k s) ∙ e)

all_below : (symbols : List ℕ) (k n s : ℕ) → have_values_to symbols k n ≡ true → s < n → is_at_most_256 (count_to symbols k s) ≡ true
all_below symbols k zero s e lt = absurd (omega arith)
all_below symbols k (suc n) s e lt =
    elim (cases_lt s n) [
      | inl less ↦ all_below symbols k n s (and_parts _ _ e).1 less
      | inr le ↦ let same : s ≡ n = omega arith in rw same (and_parts _ _ e).0
    ]

from_all : (symbols : List ℕ) (k n : ℕ) → ((s : ℕ) → s < n → is_at_most_256 (count_to symbols k s) ≡ true) → have_values_to symbols k n ≡ true
from_all symbols k zero h = refl
from_all symbols k (suc n) h = rw (h n (omega arith), from_all symbols k n (λ s lt. h s (omega arith))) refl

small_has : (symbols : List ℕ) (s : ℕ) (o : Option ℕ) → count_to symbols 256 s ≡ o → is_at_most_256 o ≡ true → (vs : List ℕ) × HasSymbolValues symbols s vs × (length vs ≤ 256)
small_has symbols s None e small = absurd cc
small_has symbols s (Some n) e small =
    let h = found symbols 256 s n e in
    (h.0, h.1, omega (arith, h.2, leb-true n 256 small))

pub all_have : (symbols : List ℕ) → have_values symbols ≡ true → AllHaveValues symbols
unfolding have_values
all_have symbols e = λ s lt. small_has symbols s (count_to symbols 256 s) refl (all_below symbols 256 (symbol_count symbols) s e lt)

pub have_all : (symbols : List ℕ) → AllHaveValues symbols → have_values symbols ≡ true
unfolding have_values
have_all symbols all = from_all symbols 256 (symbol_count symbols) (λ s lt.
    let h = all s lt in
    rw (counted symbols 256 s h.0 h.1 h.2) (le-leb (length h.0) 256 h.2))

not_true : (b : Bool) → (b ≡ true → ⊥) → b ≡ false
not_true true h = absurd (h refl)
not_true false h = refl

-- a symbol that has more values than 256, or none
pub one_without : (symbols : List ℕ) (s : ℕ) → s < symbol_count symbols → ((vs : List ℕ) → HasSymbolValues symbols s vs → 256 < length vs) → have_values symbols ≡ false
one_without symbols s lt more = not_true (have_values symbols) (λ yes.
    let h = all_have symbols yes s lt in
    absurd (omega (arith, h.2, more h.0 h.1)))

pub test_of_values : ValuesAreTested
test_of_values symbols = (λ yes. all_have symbols yes, λ all. have_all symbols all)
