-- What it means that a game reaches a ply.
use Rattle.std.proofs.Common.{◌≡◌, ℕ, ◌<◌, ◌≤◌, Bool, true, false, length-append, List, ◌++◌, length, take, Option, Some, None, zero, suc, sym, refl, ap, subst, arith, ⊎_elim}
use Rattle.std.specs.Prelude.{is_some, is_none}
use Rattle.std.proofs.lemmas.Bool.{and_parts, and_from, ltb-true, lt-ltb, cases_Bool, both_ways, cases_lt}
use Rattle.std.proofs.lemmas.List.{take-append-le}
use Rattle.board_core.specs.declared.moves.Move.{Move}
use Rattle.judge_core.specs.Games.{position_after_all, Rules, verdict_after}
use Rattle.arbiter_core.specs.Recording.{reaches, record_at, greatest_passing, last_ply}

pub none_from : {A : Type 0} (o : Option A) → is_none o ≡ true → o ≡ None
none_from None h = refl
none_from (Some x) h = cc

pub some_from : {A : Type 0} (o : Option A) → is_some o ≡ true → (x : A) × (o ≡ Some x)
some_from None h = cc
some_from (Some x) h = (x, refl)

-- what a reached ply says of the one before
pub record Step (r : Rules) (game : List Move) (k : ℕ) : Type 0 where
  pub before : reaches r game k ≡ true
  pub unruled : verdict_after r (take k game) ≡ None
  pub within : k < length game
  pub legal : is_some (position_after_all r.start (take (suc k) game)) ≡ true

pub step_of : (r : Rules) (game : List Move) (k : ℕ) → reaches r game (suc k) ≡ true → Step r game k
step_of r game k h =
    let p = and_parts _ _ h in
    let q = and_parts _ _ p.1 in
    let s = and_parts _ _ q.1 in
    record { before = p.0; unruled = none_from _ q.0; within = ltb-true _ _ s.0; legal = s.1 }

pub step_to : (r : Rules) (game : List Move) (k : ℕ) → Step r game k → reaches r game (suc k) ≡ true
step_to r game k s =
    and_from _ _ s.before (and_from _ _ (ap is_none s.unruled) (and_from _ _ (lt-ltb _ _ s.within) s.legal))

pub reach_within : (r : Rules) (game : List Move) (k : ℕ) → reaches r game k ≡ true → k ≤ length game
reach_within r game zero h = omega arith
reach_within r game (suc k) h = let s = step_of r game k h in omega (arith, s.within)

pub reach_below : (r : Rules) (game : List Move) (j k : ℕ) → j ≤ k → reaches r game k ≡ true → reaches r game j ≡ true
reach_below r game j zero l h = let e : 0 ≡ j = omega arith in subst (λ n. reaches r game n ≡ true) e h
reach_below r game j (suc k) l h =
    ⊎_elim (λ (lt : j < suc k). reach_below r game j k (omega arith) (step_of r game k h).before)
    (λ (ge : suc k ≤ j). let e : suc k ≡ j = omega arith in subst (λ n. reaches r game n ≡ true) e h) (cases_lt j (suc k))

pub unruled_below : (r : Rules) (game : List Move) (j k : ℕ) → j < k → reaches r game k ≡ true → verdict_after r (take j game) ≡ None
unruled_below r game j k l h = (step_of r game j (reach_below r game (suc j) k (omega arith) h)).unruled

-- only the moves before a ply matter
pub reach_front : (r : Rules) (front rest : List Move) (k : ℕ) → k ≤ length front → reaches r (front ++ rest) k ≡ true → reaches r front k ≡ true
reach_front r front rest zero l h = refl
reach_front r front rest (suc k) l h =
    let s = step_of r (front ++ rest) k h in
    step_to r front k (record {
      before = reach_front r front rest k (omega arith) s.before;
      unruled = subst (λ (xs : List Move). verdict_after r xs ≡ None) (take-append-le k front rest (omega arith)) s.unruled;
      within = omega arith;
      legal = subst (λ (xs : List Move). is_some (position_after_all r.start xs) ≡ true) (take-append-le (suc k) front rest l) s.legal;
    })

pub reach_more : (r : Rules) (front rest : List Move) (k : ℕ) → reaches r front k ≡ true → reaches r (front ++ rest) k ≡ true
reach_more r front rest zero h = refl
reach_more r front rest (suc k) h =
    let s = step_of r front k h in
    let w : k < length front = s.within in
    step_to r (front ++ rest) k (record {
      before = reach_more r front rest k s.before;
      unruled = subst (λ (xs : List Move). verdict_after r xs ≡ None) (sym (take-append-le k front rest (omega arith))) s.unruled;
      within = simp length-append (omega arith);
      legal = subst (λ (xs : List Move). is_some (position_after_all r.start xs) ≡ true) (sym (take-append-le (suc k) front rest (omega arith))) s.legal;
    })

-- the record of a ply doesn't depend on later moves
pub same_record : (r : Rules) (front rest : List Move) (k : ℕ) → k ≤ length front → record_at r front k ≡ record_at r (front ++ rest) k
same_record r front rest k l = ap (λ (xs : List Move). record { moves = xs; verdict = verdict_after r xs }) (sym (take-append-le k front rest l))

pub greatest_holds : (test : ℕ → Bool) (n : ℕ) → test 0 ≡ true → test (greatest_passing test n) ≡ true
greatest_holds test zero h = h
greatest_holds test (suc n) h =
    ⊎_elim (λ (e : test (suc n) ≡ true). rw e e) (λ (e : test (suc n) ≡ false). rw e (greatest_holds test n h)) (cases_Bool (test (suc n)))

pub greatest_le : (test : ℕ → Bool) (n : ℕ) → greatest_passing test n ≤ n
greatest_le test zero = omega arith
greatest_le test (suc n) =
    ⊎_elim (λ (e : test (suc n) ≡ true). rw e (omega arith)) (λ (e : test (suc n) ≡ false). rw e (omega (arith, greatest_le test n))) (cases_Bool (test (suc n)))

-- what passes is not above the greatest
pub greatest_bound : (test : ℕ → Bool) (n k : ℕ) → k ≤ n → test k ≡ true → k ≤ greatest_passing test n
greatest_bound test zero k l h = omega arith
greatest_bound test (suc n) k l h =
    ⊎_elim (λ (e : test (suc n) ≡ true). rw e l)
    (λ (e : test (suc n) ≡ false). rw e (⊎_elim (λ (lt : k < suc n). greatest_bound test n k (omega arith) h)
    (λ (ge : suc n ≤ k). let s : k ≡ suc n = omega arith in absurd (both_ways _ e (subst (λ m. test m ≡ true) s h))) (cases_lt k (suc n))))
    (cases_Bool (test (suc n)))

pub last_reached : (r : Rules) (game : List Move) → reaches r game (last_ply r game) ≡ true
unfolding last_ply
last_reached r game = greatest_holds (reaches r game) (length game) refl

pub last_bound : (r : Rules) (game : List Move) (k : ℕ) → reaches r game k ≡ true → k ≤ last_ply r game
unfolding last_ply
last_bound r game k h = greatest_bound (reaches r game) (length game) k (reach_within r game k h) h

-- a ply that is reached, and the next one not, is the last
pub last_is : (r : Rules) (game : List Move) (k : ℕ) → reaches r game k ≡ true → reaches r game (suc k) ≡ false → last_ply r game ≡ k
last_is r game k h n =
    let low = last_bound r game k h in
    ⊎_elim (λ (lt : k < last_ply r game). absurd (both_ways _ n (reach_below r game (suc k) (last_ply r game) (omega arith) (last_reached r game))))
    (λ (ge : last_ply r game ≤ k). omega (arith, low)) (cases_lt k (last_ply r game))
