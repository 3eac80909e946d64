-- Falling lists of the numbers that pass a test.
use Rattle.std.proofs.Common.{◌≡◌, ◌≢◌, ℕ, zero, suc, ◌+◌, ◌<◌, ◌≤◌, Bool, true, false, cond, eqb, List, [], ◌∷◌, refl, sym, ap, ◌∙◌, inl, inr, arith}
use Rattle.std.proofs.lemmas.Bool.{cases_lt, cases_eq, cases_Bool, eq-eqb, ne_eqb}
use Rattle.place_index.specs.Choose.{IsFallingBelow}
use Rattle.place_index.specs.Men.{falling}
use Rattle.place_index.specs.Others.{standing, IsWithin, AreFreeSquares}

pub below_more : (n : ℕ) (xs : List ℕ) → IsFallingBelow n xs → IsFallingBelow (suc n) xs
below_more n [] f = tt
below_more n (x ∷ xs) f = (omega (arith, f.0), f.1)

pub falling_hit : (test : ℕ → Bool) (n : ℕ) → test n ≡ true → falling test (suc n) ≡ n ∷ falling test n
unfolding falling
falling_hit test n e = rw e refl

pub falling_miss : (test : ℕ → Bool) (n : ℕ) → test n ≡ false → falling test (suc n) ≡ falling test n
unfolding falling
falling_miss test n e = rw e refl

pub falling_none : (test : ℕ → Bool) → falling test 0 ≡ []
unfolding falling
falling_none test = refl

pub falling_falls : (test : ℕ → Bool) (n : ℕ) → IsFallingBelow n (falling test n)
falling_falls test zero = rw (falling_none test) tt
falling_falls test (suc n) =
    elim (cases_Bool (test n)) [
      | inl t ↦ rw (falling_hit test n t) (omega arith, falling_falls test n)
      | inr f ↦ rw (falling_miss test n f) (below_more n (falling test n) (falling_falls test n))
    ]

pub falling_within : (first last : ℕ) (test : ℕ → Bool) (n : ℕ) → ((s : ℕ) → s < n → test s ≡ true → (first ≤ s) × (s < last)) → IsWithin first last (falling test n)
falling_within first last test zero all = rw (falling_none test) tt
falling_within first last test (suc n) all =
    elim (cases_Bool (test n)) [
      | inl t ↦ let h = all n (omega arith) t in rw (falling_hit test n t) (h.0, h.1, falling_within first last test n (λ s lt. all s (omega (arith, lt))))
      | inr f ↦ rw (falling_miss test n f) (falling_within first last test n (λ s lt. all s (omega (arith, lt))))
    ]

pub falling_free : (earlier : List ℕ) (test : ℕ → Bool) (n : ℕ) → ((s : ℕ) → s < n → test s ≡ true → standing earlier s ≡ 0) → AreFreeSquares earlier (falling test n)
falling_free earlier test zero all = rw (falling_none test) tt
falling_free earlier test (suc n) all =
    elim (cases_Bool (test n)) [
      | inl t ↦ rw (falling_hit test n t) (all n (omega arith) t, falling_free earlier test n (λ s lt. all s (omega (arith, lt))))
      | inr f ↦ rw (falling_miss test n f) (falling_free earlier test n (λ s lt. all s (omega (arith, lt))))
    ]

-- ---- which numbers stand in the list

standing_cons : (x s : ℕ) (xs : List ℕ) → standing (x ∷ xs) s ≡ cond (eqb x s) 1 0 + standing xs s
unfolding standing
standing_cons x s xs = refl

standing_nil : (s : ℕ) → standing [] s ≡ 0
unfolding standing
standing_nil s = refl

pub standing_above : (test : ℕ → Bool) (n s : ℕ) → n ≤ s → standing (falling test n) s ≡ 0
standing_above test zero s le = rw (falling_none test) (standing_nil s)
standing_above test (suc n) s le =
    elim (cases_Bool (test n)) [
      | inl t ↦ rw (falling_hit test n t, standing_cons n s (falling test n), ne_eqb n s (λ e. omega (arith, e, le))) (omega (arith, standing_above test n s (omega (arith, le))))
      | inr f ↦ rw (falling_miss test n f) (standing_above test n s (omega (arith, le)))
    ]

pub standing_fails : (test : ℕ → Bool) (n s : ℕ) → test s ≡ false → standing (falling test n) s ≡ 0
standing_fails test zero s no_man = rw (falling_none test) (standing_nil s)
standing_fails test (suc n) s no_man =
    elim (cases_Bool (test n)) [
      | inl t ↦
          let ne : n ≢ s = λ e. both (sym t ∙ ap test e ∙ no_man) in
          rw (falling_hit test n t, standing_cons n s (falling test n), ne_eqb n s ne) (omega (arith, standing_fails test n s no_man))
      | inr f ↦ rw (falling_miss test n f) (standing_fails test n s no_man)
    ]
  where
    both : true ≡ false → ⊥
    both e = cc

pub standing_passes : (test : ℕ → Bool) (n s : ℕ) → s < n → test s ≡ true → standing (falling test n) s ≡ 1
standing_passes test zero s lt is = absurd (omega (arith, lt))
standing_passes test (suc n) s lt is =
    elim (cases_eq n s) [
      | inl e ↦
          let t : test n ≡ true = ap test e ∙ is in
          rw (falling_hit test n t, standing_cons n s (falling test n), eq-eqb n s e) (omega (arith, standing_above test n s (omega (arith, e))))
      | inr ne ↦
          let less : s < n = omega (arith, lt, ne) in
          elim (cases_Bool (test n)) [
            | inl t ↦ rw (falling_hit test n t, standing_cons n s (falling test n), ne_eqb n s ne) (omega (arith, standing_passes test n s less is))
            | inr f ↦ rw (falling_miss test n f) (standing_passes test n s less is)
          ]
    ]

pub standing_most : (test : ℕ → Bool) (n s : ℕ) → standing (falling test n) s ≤ 1
standing_most test n s =
    elim (cases_lt s n) [
      | inl lt ↦ elim (cases_Bool (test s)) [
        | inl t ↦ omega (arith, standing_passes test n s lt t)
        | inr f ↦ omega (arith, standing_fails test n s f)
      ]
      | inr le ↦ omega (arith, standing_above test n s le)
    ]

-- ---- equal lists

pub falling_same : (test other : ℕ → Bool) (n : ℕ) → ((s : ℕ) → s < n → test s ≡ other s) → falling test n ≡ falling other n
falling_same test other zero same = falling_none test ∙ sym (falling_none other)
falling_same test other (suc n) same =
    let rest = falling_same test other n (λ s lt. same s (omega (arith, lt))) in
    elim (cases_Bool (test n)) [
      | inl t ↦ falling_hit test n t ∙ ap (λ l. n ∷ l) rest ∙ sym (falling_hit other n (sym (same n (omega arith)) ∙ t))
      | inr f ↦ falling_miss test n f ∙ rest ∙ sym (falling_miss other n (sym (same n (omega arith)) ∙ f))
    ]

pub same_falling : (test other : ℕ → Bool) (n s : ℕ) → falling test n ≡ falling other n → s < n → test s ≡ other s
same_falling test other n s e lt =
    elim (cases_Bool (test s)) [
      | inl t ↦ elim (cases_Bool (other s)) [
        | inl u ↦ t ∙ sym u
        | inr v ↦ absurd (omega (arith, standing_passes test n s lt t, standing_fails other n s v, ap (λ l. standing l s) e))
      ]
      | inr f ↦ elim (cases_Bool (other s)) [
        | inl u ↦ absurd (omega (arith, standing_fails test n s f, standing_passes other n s lt u, ap (λ l. standing l s) e))
        | inr v ↦ f ∙ sym v
      ]
    ]

-- none where nothing passes, and one where one number does
pub falling_nothing : (test : ℕ → Bool) (n : ℕ) → ((s : ℕ) → s < n → test s ≡ false) → falling test n ≡ []
falling_nothing test zero all = falling_none test
falling_nothing test (suc n) all = falling_miss test n (all n (omega arith)) ∙ falling_nothing test n (λ s lt. all s (omega (arith, lt)))

pub falling_alone : (test : ℕ → Bool) (n s : ℕ) → s < n → test s ≡ true → ((t : ℕ) → t < n → test t ≡ true → t ≡ s) → falling test n ≡ s ∷ []
falling_alone test zero s lt here only = absurd (omega (arith, lt))
falling_alone test (suc n) s lt here only =
    elim (cases_eq n s) [
      | inl e ↦ falling_hit test n (ap test e ∙ here) ∙ ap (λ l. n ∷ l) (falling_nothing test n (λ t below. fails t below e)) ∙ ap (λ x. x ∷ []) e
      | inr ne ↦ falling_miss test n (misses ne) ∙ falling_alone test n s (omega (arith, lt, ne)) here (λ t below. only t (omega (arith, below)))
    ]
  where
    fails : (t : ℕ) → t < n → n ≡ s → test t ≡ false
    fails t below e = elim (cases_Bool (test t)) [ inl is ↦ absurd (omega (arith, only t (omega (arith, below)) is, e, below)) | inr isnt ↦ isnt ]

    misses : n ≢ s → test n ≡ false
    misses ne = elim (cases_Bool (test n)) [ inl is ↦ absurd (ne (only n (omega arith) is)) | inr isnt ↦ isnt ]

-- the first of the list passes, and so does each
pub falling_empty : (test : ℕ → Bool) (n s : ℕ) → falling test n ≡ [] → s < n → test s ≡ false
falling_empty test n s e lt =
    elim (cases_Bool (test s)) [
      | inl t ↦ absurd (omega (arith, standing_passes test n s lt t, ap (λ l. standing l s) e, standing_nil s))
      | inr f ↦ f
    ]

pub falling_member : (test : ℕ → Bool) (n s : ℕ) (xs : List ℕ) → falling test n ≡ s ∷ xs → (test s ≡ true) × (s < n)
falling_member test n s xs e =
    elim (cases_lt s n) [
      | inl lt ↦ elim (cases_Bool (test s)) [
        | inl t ↦ (t, lt)
        | inr f ↦ absurd (omega (arith, standing_fails test n s f, ap (λ l. standing l s) e, head s xs))
      ]
      | inr le ↦ absurd (omega (arith, standing_above test n s le, ap (λ l. standing l s) e, head s xs))
    ]
  where
    head : (s : ℕ) (xs : List ℕ) → standing (s ∷ xs) s ≡ 1 + standing xs s
    head s xs = standing_cons s s xs ∙ rw (eq-eqb s s refl) refl

-- where the list has one number, only that one passes
pub list_one : (test : ℕ → Bool) (n s t : ℕ) → falling test n ≡ s ∷ [] → t < n → test t ≡ true → t ≡ s
list_one test n s t e lt h =
    elim (cases_eq t s) [
      | inl same ↦ same
      | inr ne ↦ absurd (omega (arith, standing_passes test n t lt h, ap (λ l. standing l t) e, standing_cons s t [], ap (λ b. cond {A = ℕ} b 1 0) (ne_eqb s t (λ x. ne (sym x))), standing_nil t))
    ]
