-- The places of the groups.
use Rattle.std.proofs.Common.{◌≡◌, ◌≢◌, ℕ, suc, ◌+◌, ◌<◌, ◌≤◌, Bool, true, false, cond, eqb, ltb, Option, Some, None, List, [], ◌∷◌, ◌++◌, length, zero, refl, sym, ap, ◌∙◌, subst, inl, inr, arith, length-append, append_assoc}
use Rattle.std.specs.Prelude.{filter, ◌||◌}
use Rattle.std.specs.List.{list_any}
use Rattle.std.specs.Option.{ForSome}
use Rattle.std.proofs.lemmas.Bool.{cases_lt, cases_Bool, eq-eqb, eqb-true, lt-ltb, le-ltb, not-true, not-false, or_cases, false≢true}
use Rattle.place_index.specs.Shape.{places_given, is_free, upto, places}

pub upto_next : (n : ℕ) → upto (n + 1) ≡ upto n ++ n ∷ []
unfolding upto
upto_next n = ap upto (one_up n)
  where
    one_up : (n : ℕ) → n + 1 ≡ suc n
    one_up n = omega arith

keeps : (p : ℕ → Bool) (xs : List ℕ) (x : ℕ) → p x ≡ true → filter p (xs ++ x ∷ []) ≡ filter p xs ++ x ∷ []
keeps p [] x e = rw e refl
keeps p (y ∷ xs) x e =
    elim (cases_Bool (p y)) [
      | inl t ↦ rw t (ap (λ l. y ∷ l) (keeps p xs x e))
      | inr f ↦ rw f (keeps p xs x e)
    ]

drops : (p : ℕ → Bool) (xs : List ℕ) (x : ℕ) → p x ≡ false → filter p (xs ++ x ∷ []) ≡ filter p xs
drops p [] x e = rw e refl
drops p (y ∷ xs) x e =
    elim (cases_Bool (p y)) [
      | inl t ↦ rw t (ap (λ l. y ∷ l) (drops p xs x e))
      | inr f ↦ rw f (drops p xs x e)
    ]

-- 1 as long as a given place is still ahead
abbrev pub ahead : ℕ → ℕ → ℕ
ahead a p = cond (ltb a p) 0 1

pub ahead_some : Option ℕ → ℕ → ℕ
ahead_some None p = 0
ahead_some (Some a) p = ahead a p

-- The given places stand first, then the free ones below p.
pub record IsPlaced (order : ℕ) (second : Option ℕ) (p : ℕ) (items : List ℕ) : Type 0 where
  pub is : items ≡ places_given order second ++ filter (is_free (places_given order second)) (upto p)
  pub size : length items ≡ p + (ahead order p + ahead_some second p)

ahead_none : (a : ℕ) → ahead a 0 ≡ 1
ahead_none a = rw (le-ltb a 0 (least a)) refl
  where
    least : (a : ℕ) → 0 ≤ a
    least a = omega arith

pub placed_none : (order : ℕ) (second : Option ℕ) → IsPlaced order second 0 (places_given order second)
unfolding upto ahead_some
placed_none order None = record { is = refl; size = omega (arith, ahead_none order) }
placed_none order (Some second) = record { is = refl; size = omega (arith, ahead_none order, ahead_none second) }

-- a place that is none of the given ones
ahead_same : (a p : ℕ) → a ≢ p → ahead a (p + 1) ≡ ahead a p
ahead_same a p ne =
    elim (cases_lt a p) [
      | inl lt ↦
          let next : a < p + 1 = omega (arith, lt) in
          rw (lt-ltb a (p + 1) next, lt-ltb a p lt) refl
      | inr le ↦
          let next : p + 1 ≤ a = omega (arith, le, ne) in
          rw (le-ltb a (p + 1) next, le-ltb a p le) refl
    ]

-- the place itself
ahead_here : (p : ℕ) → ahead p p ≡ ahead p (p + 1) + 1
ahead_here p = rw (lt-ltb p (p + 1) (one_up p), le-ltb p p (same p)) refl
  where
    one_up : (n : ℕ) → n < n + 1
    one_up n = omega arith

    same : (n : ℕ) → n ≤ n
    same n = omega arith

pub free_order : (order : ℕ) (second : Option ℕ) (p : ℕ) → is_free (places_given order second) p ≡ true → order ≢ p
free_order order None p free e = false≢true (sym (not-true _ free) ∙ taken)
  where
    taken : list_any (λ q. eqb q p) (order ∷ []) ≡ true
    taken = rw (eq-eqb order p e) refl
free_order order (Some second) p free e = false≢true (sym (not-true _ free) ∙ taken)
  where
    taken : list_any (λ q. eqb q p) (order ∷ second ∷ []) ≡ true
    taken = rw (eq-eqb order p e) refl

pub free_second : (order second p : ℕ) → is_free (places_given order (Some second)) p ≡ true → second ≢ p
free_second order second p free e = false≢true (sym (not-true _ free) ∙ taken (eqb order p))
  where
    taken : (b : Bool) → (b || (eqb second p || false)) ≡ true
    taken true = refl
    taken false = rw (eq-eqb second p e) refl

ahead_some_same : (order : ℕ) (second : Option ℕ) (p : ℕ) → is_free (places_given order second) p ≡ true → ahead_some second (p + 1) ≡ ahead_some second p
unfolding ahead_some
ahead_some_same order None p free = refl
ahead_some_same order (Some second) p free = ahead_same second p (free_second order second p free)

pub placed_free : (order : ℕ) (second : Option ℕ) (p : ℕ) (items : List ℕ) → IsPlaced order second p items → is_free (places_given order second) p ≡ true → IsPlaced order second (p + 1) (items ++ p ∷ [])
placed_free order second p items s free =
    record {
      is = ap (λ l. l ++ p ∷ []) s.is ∙ append_assoc (places_given order second) (filter (is_free (places_given order second)) (upto p)) (p ∷ [])
          ∙ ap (λ l. places_given order second ++ l) (sym (keeps (is_free (places_given order second)) (upto p) p free))
          ∙ ap (λ l. places_given order second ++ filter (is_free (places_given order second)) l) (sym (upto_next p));
      size = omega (arith, length-append items (p ∷ []), s.size, ahead_same order p (free_order order second p free), ahead_some_same order second p free);
    }

taken_size : (order : ℕ) (second : Option ℕ) (p : ℕ) → ForSome second (λ s. s ≡ order → ⊥) → is_free (places_given order second) p ≡ false → ahead order p + ahead_some second p ≡ 1 + (ahead order (p + 1) + ahead_some second (p + 1))
unfolding ahead_some
taken_size order None p apart taken =
    elim (or_cases (eqb order p) false (not-false _ taken)) [
      | inl here ↦ rw (eqb-true order p here) (omega (arith, ahead_here p))
      | inr f ↦ absurd (false≢true f)
    ]
taken_size order (Some second) p apart taken =
    elim (or_cases (eqb order p) (eqb second p || false) (not-false _ taken)) [
      | inl here ↦
          let e = eqb-true order p here in
          rw e (omega (arith, ahead_here p, ahead_same second p (λ f. apart second refl (f ∙ sym e))))
      | inr later ↦ elim (or_cases (eqb second p) false later) [
        | inl there ↦
            let e = eqb-true second p there in
            rw e (omega (arith, ahead_here p, ahead_same order p (λ f. apart second refl (e ∙ sym f))))
        | inr f ↦ absurd (false≢true f)
      ]
    ]

pub placed_taken : (order : ℕ) (second : Option ℕ) (p : ℕ) (items : List ℕ) → ForSome second (λ s. s ≡ order → ⊥) → IsPlaced order second p items → is_free (places_given order second) p ≡ false → IsPlaced order second (p + 1) items
placed_taken order second p items apart s taken =
    record {
      is = s.is ∙ ap (λ l. places_given order second ++ l) (sym (drops (is_free (places_given order second)) (upto p) p taken))
          ∙ ap (λ l. places_given order second ++ filter (is_free (places_given order second)) l) (sym (upto_next p));
      size = omega (arith, s.size, taken_size order second p apart taken);
    }

-- all places are given out
pub placed_all : (order : ℕ) (second : Option ℕ) (n p : ℕ) (items : List ℕ) → IsPlaced order second p items → p ≡ n → items ≡ places (places_given order second) n
unfolding places
placed_all order second n p items s e = s.is ∙ ap (λ m. places_given order second ++ filter (is_free (places_given order second)) (upto m)) e

ahead_past : (a n : ℕ) → a < n → ahead a n ≡ 0
ahead_past a n lt = rw (lt-ltb a n lt) refl

pub placed_size : (order : ℕ) (second : Option ℕ) (n p : ℕ) (items : List ℕ) → order < n → ForSome second (λ s. (s < n) × (s ≡ order → ⊥)) → IsPlaced order second p items → p ≡ n → length items ≡ n
unfolding ahead_some
placed_size order None n p items first others s e = omega (arith, s.size, ahead_past order p (omega (arith, first, e)), e)
placed_size order (Some second) n p items first others s e =
    omega (arith, s.size, ahead_past order p (omega (arith, first, e)), ahead_past second p (omega (arith, (others second refl).0, e)), e)

-- there is room for each free place
ahead_most : (a p n : ℕ) → a < n → a ≢ p → p < n → p + ahead a p < n
ahead_most a p n lt ne within =
    elim (cases_lt a p) [
      | inl past ↦ rw (lt-ltb a p past) (omega (arith, within))
      | inr le ↦ rw (le-ltb a p le) (omega (arith, le, ne, lt))
    ]

both_most : (a b p n : ℕ) → a < n → b < n → b ≢ a → a ≢ p → b ≢ p → p < n → p + (ahead a p + ahead b p) < n
both_most a b p n aa bb apart pa pb within =
    elim (cases_lt a p) [
      | inl past ↦ rw (lt-ltb a p past) (omega (arith, ahead_most b p n bb pb within))
      | inr le ↦ elim (cases_lt b p) [
        | inl other ↦ rw (lt-ltb b p other) (omega (arith, ahead_most a p n aa pa within))
        | inr far ↦ rw (le-ltb a p le, le-ltb b p far) (omega (arith, le, far, apart, pa, pb, aa, bb))
      ]
    ]

pub placed_room : (order : ℕ) (second : Option ℕ) (p n : ℕ) (items : List ℕ) → order < n → ForSome second (λ s. (s < n) × (s ≡ order → ⊥)) → IsPlaced order second p items
    → is_free (places_given order second) p ≡ true → p < n → length items < n
unfolding ahead_some
placed_room order None p n items first others s free within = omega (arith, s.size, ahead_most order p n first (free_order order None p free) within)
placed_room order (Some second) p n items first others s free within =
    omega (arith, s.size, both_most order second p n first (others second refl).0 (others second refl).1 (free_order order (Some second) p free) (free_second order second p free) within)

-- the places by walking up to n
walked : (order : ℕ) (second : Option ℕ) (p : ℕ) → ForSome second (λ s. s ≡ order → ⊥) → (items : List ℕ) × IsPlaced order second p items
walked order second zero apart = (places_given order second, placed_none order second)
walked order second (suc p) apart =
    let rest = walked order second p apart in
    let e : p + 1 ≡ suc p = omega arith in
    elim (cases_Bool (is_free (places_given order second) p)) [
      | inl free ↦ (rest.0 ++ p ∷ [], subst (λ n. IsPlaced order second n (rest.0 ++ p ∷ [])) e (placed_free order second p rest.0 rest.1 free))
      | inr taken ↦ (rest.0, subst (λ n. IsPlaced order second n rest.0) e (placed_taken order second p rest.0 apart rest.1 taken))
    ]

pub placed_length : (order : ℕ) (second : Option ℕ) (n : ℕ) → order < n → ForSome second (λ s. (s < n) × (s ≡ order → ⊥)) → length (places (places_given order second) n) ≡ n
placed_length order second n first others =
    let w = walked order second n (λ s is. (others s is).1) in
    ap length (sym (placed_all order second n n w.0 w.1 refl)) ∙ placed_size order second n n w.0 first others w.1 refl
