-- Sets of free squares by their numbers.
use Rattle.std.proofs.Common.{◌≡◌, ℕ, zero, suc, ◌+◌, ◌-◌, ◌<◌, ◌≤◌, cond, eqb, List, [], ◌∷◌, length, map, refl, sym, ap, ◌∙◌, inl, inr, zero-add, arith}
use Rattle.std.proofs.lemmas.List.{length-map}
use Rattle.std.proofs.lemmas.Bool.{cases_order, lt-ltb, le-ltb, eq-eqb, ne_eqb}
use Rattle.place_index.specs.Square.{before}
use Rattle.place_index.specs.Choose.{choose, IsFallingBelow, IsLater}
use Rattle.place_index.specs.Others.{taken, standing, free_number, free_set_number, IsWithin, AreFreeSquares, AreEarlier, IsFreeSet, FreeSetsAreNumbered}
use Rattle.place_index.proofs.Counting.SetNumbers.{number_below, later_is_greater}
use Rattle.place_index.proofs.Counting.Orders.{later_head, later_more, never_later, later_nil, nil_later, later_total}

-- ---- counting the earlier men

before_step : (e s : ℕ) → before e (suc s) ≡ before e s + cond (eqb e s) 1 0
unfolding before
before_step e s =
    elim (cases_order e s) [
      | inl eq ↦ rw (lt-ltb e (suc s) (omega (arith, eq)), le-ltb e s (omega (arith, eq)), eq-eqb e s eq) refl
      | inr (inl lt) ↦ rw (lt-ltb e (suc s) (omega (arith, lt)), lt-ltb e s lt, ne_eqb e s (omega (arith, lt))) refl
      | inr (inr gt) ↦ rw (le-ltb e (suc s) (omega (arith, gt)), le-ltb e s (omega (arith, gt)), ne_eqb e s (omega (arith, gt))) refl
    ]

pub before_none : (e s : ℕ) → s ≤ e → before e s ≡ 0
unfolding before
before_none e s le = rw (le-ltb e s le) refl

pub before_one : (e s : ℕ) → e < s → before e s ≡ 1
unfolding before
before_one e s lt = rw (lt-ltb e s lt) refl

pub taken_step : (earlier : List ℕ) (s : ℕ) → taken earlier (suc s) ≡ taken earlier s + standing earlier s
unfolding taken standing
taken_step [] s = refl
taken_step (e ∷ earlier) s = omega (arith, before_step e s, taken_step earlier s)

taken_first : (first last : ℕ) (earlier : List ℕ) → IsWithin first last earlier → taken earlier first ≡ 0
unfolding taken
taken_first first last [] w = refl
taken_first first last (e ∷ earlier) w = omega (arith, before_none e first w.0, taken_first first last earlier w.2)

taken_last : (first last : ℕ) (earlier : List ℕ) → IsWithin first last earlier → taken earlier last ≡ length earlier
unfolding taken
taken_last first last [] w = refl
taken_last first last (e ∷ earlier) w = omega (arith, before_one e last w.1, taken_last first last earlier w.2)

-- between two squares there are no more men than squares
taken_far : (earlier : List ℕ) → ((s : ℕ) → standing earlier s ≤ 1) → (d s : ℕ) → (taken earlier s ≤ taken earlier (d + s)) × (taken earlier (d + s) ≤ taken earlier s + d)
taken_far earlier once zero s =
    let e : taken earlier (zero + s) ≡ taken earlier s = ap (taken earlier) (zero-add s) in
    (omega (arith, e), omega (arith, e))
taken_far earlier once (suc d) s =
    let n : suc d + s ≡ suc (d + s) = omega arith in
    let e : taken earlier (suc d + s) ≡ taken earlier (suc (d + s)) = ap (taken earlier) n in
    let r = taken_far earlier once d s in
    (omega (arith, e, r.0, taken_step earlier (d + s)), omega (arith, e, r.1, taken_step earlier (d + s), once (d + s)))

taken_between : (earlier : List ℕ) → ((s : ℕ) → standing earlier s ≤ 1) → (s t : ℕ) → s ≤ t → (taken earlier s ≤ taken earlier t) × (taken earlier t + s ≤ taken earlier s + t)
taken_between earlier once s t le =
    let n : (t - s) + s ≡ t = omega arith in
    let e : taken earlier ((t - s) + s) ≡ taken earlier t = ap (taken earlier) n in
    let r = taken_far earlier once (t - s) s in
    (omega (arith, e, r.0), omega (arith, e, r.1))

-- ---- numbers of free squares

pub free_later : (first last : ℕ) (earlier : List ℕ) → AreEarlier first last earlier → (s t : ℕ) → first ≤ s → standing earlier s ≡ 0 → s < t → free_number first earlier s < free_number first earlier t
unfolding free_number
free_later first last earlier h s t from free lt =
    let r = taken_between earlier h.once (suc s) t (omega (arith, lt)) in
    let q = taken_between earlier h.once first s from in
    omega (arith, r.0, r.1, q.0, q.1, taken_first first last earlier h.within, taken_step earlier s, free)

pub free_below : (first last : ℕ) (earlier : List ℕ) → AreEarlier first last earlier → (s : ℕ) → first ≤ s → standing earlier s ≡ 0 → s < last → free_number first earlier s < last - first - length earlier
unfolding free_number
free_below first last earlier h s from free lt =
    let r = taken_between earlier h.once (suc s) last (omega (arith, lt)) in
    let q = taken_between earlier h.once first s from in
    omega (arith, r.0, r.1, q.0, q.1, taken_first first last earlier h.within, taken_last first last earlier h.within, taken_step earlier s, free)

-- ---- sets of them

falling_free : (first last : ℕ) (earlier : List ℕ) → AreEarlier first last earlier → (t : ℕ) (xs : List ℕ)
    → IsFallingBelow t xs → IsWithin first last xs → AreFreeSquares earlier xs → (n : ℕ) → ((s : ℕ) → first ≤ s → standing earlier s ≡ 0 → s < t → free_number first earlier s < n) → IsFallingBelow n (map (free_number first earlier) xs)
falling_free first last earlier h t [] fall within free n top = tt
falling_free first last earlier h t (x ∷ xs) fall within free n top =
    (top x within.0 free.0 fall.0, falling_free first last earlier h x xs fall.1 within.2 free.1 (free_number first earlier x) (λ s a b c. free_later first last earlier h s x a b c))

mapped_falling : (first last : ℕ) (earlier : List ℕ) → AreEarlier first last earlier → (xs : List ℕ) → IsFreeSet first last earlier xs → IsFallingBelow (last - first - length earlier) (map (free_number first earlier) xs)
mapped_falling first last earlier h xs f =
    falling_free first last earlier h last xs f.falling f.within f.free (last - first - length earlier) (λ s a b c. free_below first last earlier h s a b c)

pub free_set_below : (first last : ℕ) (earlier : List ℕ) → AreEarlier first last earlier → (xs : List ℕ) → IsFreeSet first last earlier xs → free_set_number first earlier xs < choose (last - first - length earlier) (length xs)
free_set_below first last earlier h xs f =
    let n = number_below (last - first - length earlier) (map (free_number first earlier) xs) (mapped_falling first last earlier h xs f) in
    let e : choose (last - first - length earlier) (length (map (free_number first earlier) xs)) ≡ choose (last - first - length earlier) (length xs) = ap (choose (last - first - length earlier)) (length-map xs (free_number first earlier)) in
    omega (arith, n, e)

mapped_later : (first last : ℕ) (earlier : List ℕ) → AreEarlier first last earlier → (xs ys : List ℕ) → IsWithin first last xs → AreFreeSquares earlier xs → IsLater xs ys
    → IsLater (map (free_number first earlier) xs) (map (free_number first earlier) ys)
mapped_later first last earlier h [] [] within free later = absurd (never_later later)
mapped_later first last earlier h [] (y ∷ ys) within free later = absurd (later_nil _ later)
mapped_later first last earlier h (x ∷ xs) [] within free later = absurd (nil_later _ later)
mapped_later first last earlier h (x ∷ xs) (y ∷ ys) within free later =
    elim (later_head x y xs ys later) [
      | inl lt ↦ ([], free_number first earlier x, free_number first earlier y, map (free_number first earlier) xs, map (free_number first earlier) ys, refl, refl, free_later first last earlier h x y within.0 free.0 lt)
      | inr i ↦ later_more _ _ _ _ (ap (free_number first earlier) i.0) (mapped_later first last earlier h xs ys within.2 free.1 i.1)
    ]

free_set_later : (first last : ℕ) (earlier : List ℕ) → AreEarlier first last earlier → (xs ys : List ℕ) → IsFreeSet first last earlier xs → IsFreeSet first last earlier ys → length xs ≡ length ys → IsLater xs ys
    → free_set_number first earlier xs < free_set_number first earlier ys
free_set_later first last earlier h xs ys f g same later =
    later_is_greater (last - first - length earlier) (map (free_number first earlier) xs) (map (free_number first earlier) ys)
    (mapped_falling first last earlier h xs f) (mapped_falling first last earlier h ys g)
    (length-map xs (free_number first earlier) ∙ same ∙ sym (length-map ys (free_number first earlier)))
    (mapped_later first last earlier h xs ys f.within f.free later)

pub free_set_one : (first last : ℕ) (earlier : List ℕ) → AreEarlier first last earlier → (xs ys : List ℕ) → IsFreeSet first last earlier xs → IsFreeSet first last earlier ys → length xs ≡ length ys
    → free_set_number first earlier xs ≡ free_set_number first earlier ys → xs ≡ ys
free_set_one first last earlier h xs ys f g same e =
    elim (later_total xs ys same) [
      | inl o ↦ o
      | inr (inl l) ↦ absurd (omega (arith, e, free_set_later first last earlier h xs ys f g same l))
      | inr (inr l) ↦ absurd (omega (arith, e, free_set_later first last earlier h ys xs g f (sym same) l))
    ]

pub free_sets_are_numbered : FreeSetsAreNumbered
free_sets_are_numbered first last earlier h = (free_set_below first last earlier h, free_set_later first last earlier h, free_set_one first last earlier h)
