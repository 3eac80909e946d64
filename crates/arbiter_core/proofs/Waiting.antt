-- The moves that wait are the game's.
use Rattle.std.proofs.Common.{◌≡◌, ℕ, ◌+◌, true, false, List, [], ◌∷◌, ◌++◌, length, take, drop, get_or, Option, Some, None, zero, suc, sym, refl, ap, ◌∙◌, subst, arith, ⊎_elim}
use Rattle.std.specs.Prelude.{is_some, slice_get, slice_set, replicate}
use Rattle.std.specs.Option.{some_prefix}
use Rattle.std.proofs.lemmas.Bool.{cases_Bool}
use Rattle.board_core.specs.declared.moves.Move.{Move}
use Rattle.arbiter_core.specs.Recording.{ReorderBuffer}
use Rattle.arbiter_core.specs.Answering.{waits_too, still_waits, nothing_waits}

-- each move m that waits at place i has Q (at + i) m
abbrev pub Each : (ℕ → Move → Type 0) → ReorderBuffer → ℕ → Type 0
Each Q window at = (i : ℕ) (m : Move) → get_or window i None ≡ Some m → Q (at + i) m

-- the moves that wait are the game's moves
abbrev pub Fits : ReorderBuffer → List Move → ℕ → Type 0
Fits window game at = Each (λ n m. slice_get game n ≡ Some m) window at

each_tail : (Q : ℕ → Move → Type 0) (o : Option Move) (w : ReorderBuffer) (at : ℕ) → Each Q (o ∷ w) at → Each Q w (at + 1)
each_tail Q o w at f i m h = let e : at + suc i ≡ at + 1 + i = omega arith in subst (λ n. Q n m) e (f (suc i) m h)

pub drop_at : (game : List Move) (at : ℕ) (m : Move) → slice_get game at ≡ Some m → drop at game ≡ m ∷ drop (at + 1) game
drop_at [] at m h = cc
drop_at (x ∷ xs) zero m h = cc
drop_at (x ∷ xs) (suc at) m h = let e : suc at + 1 ≡ suc (at + 1) = omega arith in rw e (drop_at xs at m h)

-- what waits without a gap goes on with the game
pub gapless : (w : ReorderBuffer) (game : List Move) (at : ℕ) → Fits w game at → (rest : List Move) × (some_prefix w ++ rest ≡ drop at game)
gapless [] game at f = (drop at game, refl)
gapless (None ∷ w) game at f = (drop at game, refl)
gapless (Some m ∷ w) game at f =
    let e : at + 0 ≡ at = omega arith in
    let here : slice_get game at ≡ Some m = subst (λ n. slice_get game n ≡ Some m) e (f 0 m refl) in
    let more = gapless w game (at + 1) (each_tail (λ n k. slice_get game n ≡ Some k) (Some m) w at f) in
    (more.0, ap (λ (xs : List Move). m ∷ xs) more.1 ∙ sym (drop_at game at m here))

each_set : (Q : ℕ → Move → Type 0) (w : ReorderBuffer) (at place : ℕ) (word : Move) → Q (at + place) word → Each Q w at → Each Q (slice_set w place (Some word)) at
each_set Q [] at place word h f i m e = f i m e
each_set Q (o ∷ w) at zero word h f zero m e = let s : word ≡ m = cc in subst (λ k. Q (at + 0) k) s h
each_set Q (o ∷ w) at zero word h f (suc i) m e = f (suc i) m e
each_set Q (o ∷ w) at (suc place) word h f zero m e = f zero m e
each_set Q (o ∷ w) at (suc place) word h f (suc i) m e =
    let a : at + suc place ≡ at + 1 + place = omega arith in
    let b : at + 1 + i ≡ at + suc i = omega arith in
    subst (λ n. Q n m) b (each_set Q w (at + 1) place word (subst (λ n. Q n word) a h) (each_tail Q o w at f) i m e)

pub each_too : (Q : ℕ → Move → Type 0) (w : ReorderBuffer) (at place : ℕ) (word : Move) → Q (at + place) word → Each Q w at → Each Q (waits_too w place word) at
each_too Q w at place word h f =
    ⊎_elim (λ (e : is_some (get_or w place None) ≡ true). rw e f)
    (λ (e : is_some (get_or w place None) ≡ false). rw e (each_set Q w at place word h f)) (cases_Bool (is_some (get_or w place None)))

each_none : (Q : ℕ → Move → Type 0) (n at : ℕ) → Each Q (replicate n None) at
each_none Q zero at i m e = cc
each_none Q (suc n) at zero m e = cc
each_none Q (suc n) at (suc i) m e = let b : at + 1 + i ≡ at + suc i = omega arith in subst (λ k. Q k m) b (each_none Q n (at + 1) i m e)

pub each_nothing : (Q : ℕ → Move → Type 0) (at : ℕ) → Each Q nothing_waits at
each_nothing Q = each_none Q 31

each_append : (Q : ℕ → Move → Type 0) (w v : ReorderBuffer) (at : ℕ) → Each Q w at → Each Q v (at + length w) → Each Q (w ++ v) at
each_append Q [] v at f g i m h = let e : at + 0 ≡ at = omega arith in subst (λ n. Each Q v n) e g i m h
each_append Q (o ∷ w) v at f g zero m e = f zero m e
each_append Q (o ∷ w) v at f g (suc i) m e =
    let a : at + suc (length w) ≡ at + 1 + length w = omega arith in
    let b : at + 1 + i ≡ at + suc i = omega arith in
    subst (λ k. Q k m) b (each_append Q w v (at + 1) (each_tail Q o w at f) (subst (λ n. Each Q v n) a g) i m e)

each_take : (Q : ℕ → Move → Type 0) (n : ℕ) (w : ReorderBuffer) (at : ℕ) → Each Q w at → Each Q (take n w) at
each_take Q zero w at f i m e = cc
each_take Q (suc n) [] at f i m e = cc
each_take Q (suc n) (o ∷ w) at f zero m e = f zero m e
each_take Q (suc n) (o ∷ w) at f (suc i) m e =
    let b : at + 1 + i ≡ at + suc i = omega arith in
    subst (λ k. Q k m) b (each_take Q n w (at + 1) (each_tail Q o w at f) i m e)

each_drop : (Q : ℕ → Move → Type 0) (n : ℕ) (w : ReorderBuffer) (at : ℕ) → Each Q w at → Each Q (drop n w) (at + n)
each_drop Q zero w at f i m h = let e : at ≡ at + 0 = omega arith in subst (λ k. Each Q w k) e f i m h
each_drop Q (suc n) [] at f i m h = cc
each_drop Q (suc n) (o ∷ w) at f i m h = let b : at + 1 + n ≡ at + suc n = omega arith in subst (λ k. Each Q (drop n w) k) b (each_drop Q n w (at + 1) (each_tail Q o w at f)) i m h

pub each_still : (Q : ℕ → Move → Type 0) (w : ReorderBuffer) (at n : ℕ) → Each Q w at → Each Q (still_waits w n) (at + n)
each_still Q w at n f = each_take Q 31 _ (at + n) (each_append Q (drop n w) nothing_waits (at + n) (each_drop Q n w at f) (each_nothing Q _))

pub fits_nothing : (game : List Move) (at : ℕ) → Fits nothing_waits game at
fits_nothing game at = each_nothing (λ n m. slice_get game n ≡ Some m) at

pub fits_too : (w : ReorderBuffer) (game : List Move) (at place : ℕ) (word : Move) → slice_get game (at + place) ≡ Some word → Fits w game at → Fits (waits_too w place word) game at
fits_too w game at place word h f = each_too (λ n m. slice_get game n ≡ Some m) w at place word h f

pub fits_still : (w : ReorderBuffer) (game : List Move) (at n : ℕ) → Fits w game at → Fits (still_waits w n) game (at + n)
fits_still w game at n f = each_still (λ k m. slice_get game k ≡ Some m) w at n f
