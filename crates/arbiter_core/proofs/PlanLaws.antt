-- A plan, move by move.
use Rattle.std.proofs.Common.{◌≡◌, ◌≢◌, ℕ, ◌+◌, ◌-◌, ◌<◌, ◌≤◌, true, false, List, [], ◌∷◌, ◌++◌, length, length-append, take, drop, get_or, Option, Some, None, zero, suc, sym, refl, ap, ◌∙◌, subst, arith, ⊎_elim, append_assoc, add-one}
use Rattle.std.specs.Prelude.{is_some, replicate}
use Rattle.std.specs.Option.{some_prefix, option_and_then}
use Rattle.std.proofs.lemmas.Bool.{cases_lt, false_from_ne_true}
use Rattle.std.proofs.lemmas.List.{take_at, append-nil, get_or-take, get_or-drop, get_or_past, length-take, length-take-le}
use Rattle.std.proofs.Math.Seq.{drop-cons}
use Rattle.std.proofs.Math.ListN.{set}
use Rattle.std.proofs.lemmas.List.{get_or-set_other}
use Rattle.std.proofs.lemmas.Grind.{get_or-set_at}
use Rattle.board_core.specs.declared.moves.Move.{Move}
use Rattle.board_core.specs.declared.parts.Parts.{Parts}
use Rattle.board_core.specs.ComputedMoves.{position_after}
use Rattle.board_core.specs.declared.verdict.Verdict.{Verdict}
use Rattle.judge_core.specs.Answers.{ListsMovesForVerdict}
use Rattle.judge_core.specs.Games.{position_after_all, Rules, verdict_after}
use Rattle.judge_core.specs.Standings.{Reached, IsAt}
use Rattle.judge_core.proofs.Plies.{goes_on as after_one}
use Rattle.move_msg.specs.Numbers.{most_moves}
use Rattle.arbiter_core.specs.declared.planning.Plan.{Plan}
use Rattle.arbiter_core.specs.Recording.{Recorded, ReorderBuffer, reaches, record_at, last_ply, advance}
use Rattle.arbiter_core.specs.Inside.Playing.{IsPlan, IsPlayedFrom, ListsMovesAhead}
use Rattle.arbiter_core.specs.Answering.{still_waits, nothing_waits}
use Rattle.arbiter_core.proofs.Reach.{Step, step_of, step_to, reach_more, last_is}

-- how far the plan has come after the first n places of the window
pub record PlansTo (r : Rules) (before : List Move) (m : Move) (window : ReorderBuffer) (n : ℕ) (moves : List Move) (standing : Reached) (verdict : Option Verdict) : Type 0 where
  pub all : moves ++ some_prefix (drop n window) ≡ before ++ m ∷ some_prefix window
  pub at : IsAt r moves standing
  pub ruled : verdict ≡ verdict_after r moves
  pub reached : reaches r moves (length moves) ≡ true
  pub count : length moves ≡ length before + 1 + n

-- at the end it is the plan of the next record
pub planned : (r : Rules) (old : Recorded) (m : Move) (window : ReorderBuffer) (n : ℕ) (p : Plan) → PlansTo r old.moves m window n (old.moves ++ p.moves.items) p.standing p.verdict → length (old.moves ++ p.moves.items) ≤ most_moves → record { moves = old.moves ++ p.moves.items; verdict = p.verdict } ≡ advance r old.moves m window → IsPlan r old m window p
planned r old m window n p h short e = record { advanced = e; at = h.at; short = short; more = let count = h.count in omega arith }

take_whole : (moves rest : List Move) → take (length moves) (moves ++ rest) ≡ moves
take_whole moves rest = take_at moves rest (length moves) refl

-- the plan ends where the whole list goes no further
plan_ends : (r : Rules) (before : List Move) (m : Move) (window : ReorderBuffer) (n : ℕ) (moves : List Move) (standing : Reached) (verdict : Option Verdict) → PlansTo r before m window n moves standing verdict → reaches r (moves ++ some_prefix (drop n window)) (suc (length moves)) ≡ false → record { moves = moves; verdict = verdict } ≡ advance r before m window
plan_ends r before m window n moves standing verdict h stop =
    let rest : List Move = some_prefix (drop n window) in
    let all : List Move = moves ++ rest in
    let last : last_ply r all ≡ length moves = last_is r all (length moves) (reach_more r moves rest (length moves) h.reached) stop in
    let here : record { moves = moves; verdict = verdict } ≡ record_at r all (length moves) =
    ap (λ (v : Option Verdict). record { moves = moves; verdict = v }) h.ruled
    ∙ ap (λ (xs : List Move). record { moves = xs; verdict = verdict_after r xs }) (sym (take_whole moves rest)) in
    here ∙ ap (λ k. record_at r all k) (sym last) ∙ ap (λ (xs : List Move). record_at r xs (last_ply r xs)) h.all

ends_from : (r : Rules) (moves rest : List Move) → (Step r (moves ++ rest) (length moves) → ⊥) → reaches r (moves ++ rest) (suc (length moves)) ≡ false
ends_from r moves rest never = false_from_ne_true _ (λ y. never (step_of r (moves ++ rest) (length moves) y))

pub ends_ruled : (r : Rules) (before : List Move) (m : Move) (window : ReorderBuffer) (n : ℕ) (moves : List Move) (standing : Reached) (verdict : Option Verdict) → PlansTo r before m window n moves standing verdict → is_some verdict ≡ true → record { moves = moves; verdict = verdict } ≡ advance r before m window
ends_ruled r before m window n moves standing verdict h some =
    plan_ends r before m window n moves standing verdict h (ends_from r moves _ (λ s.
    let none : verdict_after r moves ≡ None = subst (λ (xs : List Move). verdict_after r xs ≡ None) (take_whole moves _) s.unruled in
    let v : verdict ≡ None = h.ruled ∙ none in
    let t : is_some verdict ≡ false = ap is_some v in cc))

ends_gap : (r : Rules) (before : List Move) (m : Move) (window : ReorderBuffer) (n : ℕ) (moves : List Move) (standing : Reached) (verdict : Option Verdict) → PlansTo r before m window n moves standing verdict → some_prefix (drop n window) ≡ [] → record { moves = moves; verdict = verdict } ≡ advance r before m window
ends_gap r before m window n moves standing verdict h gap =
    plan_ends r before m window n moves standing verdict h (ends_from r moves _ (λ s.
    let w : length moves < length (moves ++ some_prefix (drop n window)) = s.within in
    let e : length (moves ++ some_prefix (drop n window)) ≡ length moves = ap (λ (xs : List Move). length (moves ++ xs)) gap ∙ ap length (append-nil moves) in
    omega arith))

-- the place n of the window
place_is : (window : ReorderBuffer) (n : ℕ) (o : Option Move) → n < length window → get_or window n None ≡ o → drop n window ≡ o ∷ drop (n + 1) window
place_is window n o l e = drop-cons window n None l ∙ ap (λ (x : Option Move). x ∷ drop (suc n) window) e ∙ ap (λ k. o ∷ drop k window) (sym (add-one n))

pub ends_none : (r : Rules) (before : List Move) (m : Move) (window : ReorderBuffer) (n : ℕ) (moves : List Move) (standing : Reached) (verdict : Option Verdict) → PlansTo r before m window n moves standing verdict → n < length window → get_or window n None ≡ None → record { moves = moves; verdict = verdict } ≡ advance r before m window
ends_none r before m window n moves standing verdict h l e = ends_gap r before m window n moves standing verdict h (ap some_prefix (place_is window n None l e))

prefix_is : (window : ReorderBuffer) (n : ℕ) (w : Move) → n < length window → get_or window n None ≡ Some w → some_prefix (drop n window) ≡ w ∷ some_prefix (drop (n + 1) window)
prefix_is window n w l e = ap some_prefix (place_is window n (Some w) l e)

take_one : (moves rest : List Move) (w : Move) → take (suc (length moves)) (moves ++ w ∷ rest) ≡ moves ++ w ∷ []
take_one moves rest w =
    ap (take (suc (length moves))) (sym (append_assoc moves (w ∷ []) rest))
    ∙ take_at (moves ++ w ∷ []) rest (suc (length moves)) (simp length-append (omega arith))

-- the position after one move more
-- the position after one move more, from where the game stands
pub next_from : (start : Parts) (moves : List Move) (standing : Reached) (w : Move) → IsPlayedFrom start moves standing → position_after_all start (moves ++ w ∷ []) ≡ position_after standing.position w
next_from start moves standing w at = after_one start moves w ∙ ap (option_and_then (λ q. position_after q w)) at

pub next_position : (r : Rules) (moves : List Move) (standing : Reached) (w : Move) → IsAt r moves standing → position_after_all r.start (moves ++ w ∷ []) ≡ position_after standing.position w
next_position r moves standing w at = next_from r.start moves standing w at.position

pub ends_illegal : (r : Rules) (before : List Move) (m : Move) (window : ReorderBuffer) (n : ℕ) (moves : List Move) (standing : Reached) (verdict : Option Verdict) (w : Move) → PlansTo r before m window n moves standing verdict → n < length window → get_or window n None ≡ Some w → position_after standing.position w ≡ None → record { moves = moves; verdict = verdict } ≡ advance r before m window
ends_illegal r before m window n moves standing verdict w h l e illegal =
    plan_ends r before m window n moves standing verdict h (ends_from r moves _ (λ s.
    let one : take (suc (length moves)) (moves ++ some_prefix (drop n window)) ≡ moves ++ w ∷ [] =
    ap (λ (xs : List Move). take (suc (length moves)) (moves ++ xs)) (prefix_is window n w l e) ∙ take_one moves _ w in
    let p : position_after_all r.start (moves ++ w ∷ []) ≡ None = next_position r moves standing w h.at ∙ illegal in
    let t : is_some (position_after_all r.start (moves ++ w ∷ [])) ≡ true = subst (λ (xs : List Move). is_some (position_after_all r.start xs) ≡ true) one s.legal in
    let f : is_some (position_after_all r.start (moves ++ w ∷ [])) ≡ false = ap is_some p in cc))

size_one : (moves : List Move) (w : Move) → length (moves ++ w ∷ []) ≡ suc (length moves)
size_one moves w = simp length-append (omega arith)

-- one legal move more is reached where there is no verdict before it
pub reach_one : (r : Rules) (moves : List Move) (w : Move) → reaches r moves (length moves) ≡ true → verdict_after r moves ≡ None → is_some (position_after_all r.start (moves ++ w ∷ [])) ≡ true → reaches r (moves ++ w ∷ []) (length (moves ++ w ∷ [])) ≡ true
reach_one r moves w reached unruled legal =
    subst (λ k. reaches r (moves ++ w ∷ []) k ≡ true) (sym (size_one moves w)) (step_to r (moves ++ w ∷ []) (length moves) (record {
      before = reach_more r moves (w ∷ []) (length moves) reached;
      unruled = ap (verdict_after r) (take_whole moves (w ∷ [])) ∙ unruled;
      within = omega (arith, size_one moves w);
      legal = ap (λ (xs : List Move). is_some (position_after_all r.start xs)) (take_one moves [] w) ∙ legal;
    }))

-- at the end of a front of all moves judging lists moves
lists_at : (r : Rules) (before front rest : List Move) (m : Move) (window : ReorderBuffer) (q : Parts) → front ++ rest ≡ before ++ m ∷ some_prefix window → length before < length front → reaches r front (length front) ≡ true → position_after_all r.start front ≡ Some q → ListsMovesForVerdict r.tables q → ListsMovesAhead r before m window
lists_at r before front rest m window q all more reached at lists = (
  length front,
  q,
  more,
  subst (λ (xs : List Move). reaches r xs (length front) ≡ true) all (reach_more r front rest (length front) reached),
  subst (λ (xs : List Move). position_after_all r.start (take (length front) xs) ≡ Some q) all (ap (position_after_all r.start) (take_whole front rest) ∙ at),
  lists,
)

pub lists_first : (r : Rules) (before : List Move) (m : Move) (window : ReorderBuffer) (q : Parts) → reaches r (before ++ m ∷ []) (length before + 1) ≡ true → position_after_all r.start (before ++ m ∷ []) ≡ Some q → ListsMovesForVerdict r.tables q → ListsMovesAhead r before m window
lists_first r before m window q reached at lists =
    let size : length (before ++ m ∷ []) ≡ length before + 1 = simp length-append (omega arith) in
    lists_at r before (before ++ m ∷ []) (some_prefix window) m window q (append_assoc before (m ∷ []) (some_prefix window)) (omega arith)
    (subst (λ k. reaches r (before ++ m ∷ []) k ≡ true) (sym size) reached) at lists

pub none_of : (o : Option Verdict) → is_some o ≡ false → o ≡ None
none_of None q = refl
none_of (Some x) q = cc

-- one more move
pub goes_on : (r : Rules) (before : List Move) (m : Move) (window : ReorderBuffer) (n : ℕ) (moves : List Move) (standing : Reached) (verdict : Option Verdict) (w : Move) (next : Reached) (v : Option Verdict) → PlansTo r before m window n moves standing verdict → is_some verdict ≡ false → n < length window → get_or window n None ≡ Some w → IsAt r (moves ++ w ∷ []) next → v ≡ verdict_after r (moves ++ w ∷ []) → PlansTo r before m window (n + 1) (moves ++ w ∷ []) next v
goes_on r before m window n moves standing verdict w next v h unruled l e at ruled =
    record {
      all = append_assoc moves (w ∷ []) (some_prefix (drop (n + 1) window)) ∙ ap (λ (xs : List Move). moves ++ xs) (sym (prefix_is window n w l e)) ∙ h.all;
      at = at;
      ruled = ruled;
      reached = reach_one r moves w h.reached (sym h.ruled ∙ none_of verdict unruled) (ap is_some at.position);
      count = omega (arith, size_one moves w, h.count);
    }

-- the position after one move more, where judging it lists moves
pub lists_next : (r : Rules) (before : List Move) (m : Move) (window : ReorderBuffer) (n : ℕ) (moves : List Move) (standing : Reached) (verdict : Option Verdict) (w : Move) (q : Parts) → PlansTo r before m window n moves standing verdict → is_some verdict ≡ false → n < length window → get_or window n None ≡ Some w → position_after standing.position w ≡ Some q → ListsMovesForVerdict r.tables q → ListsMovesAhead r before m window
lists_next r before m window n moves standing verdict w q h unruled l e legal lists =
    let rest : List Move = some_prefix (drop (n + 1) window) in
    let all : (moves ++ w ∷ []) ++ rest ≡ before ++ m ∷ some_prefix window =
    append_assoc moves (w ∷ []) rest ∙ ap (λ (xs : List Move). moves ++ xs) (sym (prefix_is window n w l e)) ∙ h.all in
    let at : position_after_all r.start (moves ++ w ∷ []) ≡ Some q = next_position r moves standing w h.at ∙ legal in
    lists_at r before (moves ++ w ∷ []) rest m window q all (omega (arith, h.count, size_one moves w)) (reach_one r moves w h.reached (sym h.ruled ∙ none_of verdict unruled) (ap is_some at)) at lists

pub plan_starts : (r : Rules) (before : List Move) (m : Move) (window : ReorderBuffer) (moves : List Move) (standing : Reached) (verdict : Option Verdict) → moves ≡ before ++ m ∷ [] → IsAt r (before ++ m ∷ []) standing → verdict ≡ verdict_after r (before ++ m ∷ []) → reaches r (before ++ m ∷ []) (length before + 1) ≡ true → PlansTo r before m window 0 moves standing verdict
plan_starts r before m window moves standing verdict e at ruled reached =
    let size : length (before ++ m ∷ []) ≡ length before + 1 = simp length-append (omega arith) in
    record {
      all = ap (λ (xs : List Move). xs ++ some_prefix window) e ∙ append_assoc before (m ∷ []) (some_prefix window);
      at = subst (λ (xs : List Move). IsAt r xs standing) (sym e) at;
      ruled = ruled ∙ ap (verdict_after r) (sym e);
      reached = subst (λ (xs : List Move). reaches r xs (length xs) ≡ true) (sym e) (subst (λ k. reaches r (before ++ m ∷ []) k ≡ true) (sym size) reached);
      count = ap length e ∙ size ∙ (omega arith);
    }

drop_past : (w : ReorderBuffer) (n : ℕ) → length w ≤ n → drop n w ≡ []
drop_past [] zero h = refl
drop_past [] (suc n) h = refl
drop_past (o ∷ w) zero h = absurd (omega arith)
drop_past (o ∷ w) (suc n) h = drop_past w n (omega arith)

pub ends_past : (r : Rules) (before : List Move) (m : Move) (window : ReorderBuffer) (n : ℕ) (moves : List Move) (standing : Reached) (verdict : Option Verdict) → PlansTo r before m window n moves standing verdict → length window ≤ n → record { moves = moves; verdict = verdict } ≡ advance r before m window
ends_past r before m window n moves standing verdict h l = ends_gap r before m window n moves standing verdict h (ap some_prefix (drop_past window n l))

-- ---- windows by their places

pub ext : (xs ys : ReorderBuffer) → length xs ≡ length ys → ((k : ℕ) → get_or xs k None ≡ get_or ys k None) → xs ≡ ys
ext [] [] l h = refl
ext [] (y ∷ ys) l h = absurd (omega arith)
ext (x ∷ xs) [] l h = absurd (omega arith)
ext (x ∷ xs) (y ∷ ys) l h = let e = ext xs ys (omega arith) (λ k. h (suc k)) in let f : x ≡ y = h 0 in cc

pub none_reads : (n k : ℕ) → get_or {A = Option Move} (replicate n None) k None ≡ None
none_reads zero k = refl
none_reads (suc n) zero = refl
none_reads (suc n) (suc k) = none_reads n k

past_none : (w : ReorderBuffer) (m k : ℕ) → get_or (w ++ replicate m None) k None ≡ get_or w k None
past_none [] m k = none_reads m k
past_none (o ∷ w) m zero = refl
past_none (o ∷ w) m (suc k) = past_none w m k

pub still_reads : (w : ReorderBuffer) (n k : ℕ) → length w ≡ 31 → get_or (still_waits w n) k None ≡ get_or w (n + k) None
still_reads w n k l =
    ⊎_elim
    (λ (lt : k < 31). get_or-take 31 (drop n w ++ nothing_waits) k None lt ∙ past_none (drop n w) 31 k ∙ get_or-drop n w k None)
    (λ (ge : 31 ≤ k).
    let size : length (still_waits w n) ≤ 31 = omega (arith, length-take 31 (drop n w ++ nothing_waits)) in
    get_or_past (still_waits w n) k None (omega arith) ∙ sym (get_or_past w (n + k) None (omega arith)))
    (cases_lt k 31)

pub still_length : (w : ReorderBuffer) (n : ℕ) → length (still_waits w n) ≡ 31
still_length w n =
    let a : length (drop n w ++ nothing_waits) ≡ length (drop n w) + 31 = length-append (drop n w) nothing_waits in
    length-take-le 31 (drop n w ++ nothing_waits) (omega arith)

-- a window that reads so is what still waits
pub still_from : (w later : ReorderBuffer) (n : ℕ) → length w ≡ 31 → length later ≡ 31 → ((k : ℕ) → get_or later k None ≡ get_or w (n + k) None) → later ≡ still_waits w n
still_from w later n l m h = ext later (still_waits w n) (m ∙ sym (still_length w n)) (λ k. h k ∙ sym (still_reads w n k l))

-- one more place is copied
pub copy_reads : (w later : ReorderBuffer) (n i : ℕ) → n ≤ i → i < 31 → length later ≡ 31 → ((k : ℕ) → n + k < i → get_or later k None ≡ get_or w (n + k) None) → (k : ℕ) → n + k < i + 1 → get_or (set later (i - n) (get_or w i None)) k None ≡ get_or w (n + k) None
copy_reads w later n i l u s read k h =
    ⊎_elim
    (λ (lt : n + k < i). let ne : k ≢ i - n = omega arith in get_or-set_other later (i - n) k (get_or w i None) None ne ∙ read k lt)
    (λ (ge : i ≤ n + k).
    let e : k ≡ i - n = omega arith in
    let f : i ≡ n + k = omega arith in
    get_or-set_at later (i - n) k (get_or w i None) None e (omega arith) ∙ ap (λ j. get_or w j None) f)
    (cases_lt (n + k) i)

pub copy_rest : (w later : ReorderBuffer) (n i : ℕ) → n ≤ i → ((k : ℕ) → i ≤ n + k → get_or later k None ≡ None) → (k : ℕ) → i + 1 ≤ n + k → get_or (set later (i - n) (get_or w i None)) k None ≡ None
copy_rest w later n i l rest k h = let ne : k ≢ i - n = omega arith in get_or-set_other later (i - n) k (get_or w i None) None ne ∙ rest k (omega arith)

-- within a window what is read doesn't depend on what is read outside
pub default_free : (w : ReorderBuffer) (i : ℕ) (d e : Option Move) → i < length w → get_or w i d ≡ get_or w i e
default_free [] i d e l = absurd (omega arith)
default_free (o ∷ w) zero d e l = refl
default_free (o ∷ w) (suc i) d e l = default_free w i d e (omega arith)
