-- The first of the root moves has the least rank, and what follows from that.
use Rattle.std.proofs.Common.{◌≡◌, ◌∙◌, sym, ap, refl, subst, ℕ, ◌-◌, ◌≤◌, nat_lt, ◌==◌, ℤ, pos, ◌≤ℤ◌, ◌<ℤ◌, Bool, true, false, cond, List, ◌∷◌, Some, Result, Ok, Err, arith}
use Rattle.std.specs.declared.cmp.Ordering.{Ordering}
use Rattle.std.specs.declared.cmp.Ordering.TheVariants.{Less, Equal, Greater}
use Rattle.std.specs.Ordering.{nat_cmp, int_cmp, ordering_then, is_lt}
use Rattle.std.specs.Cmp.{IsTotalOrder}
use Rattle.std.specs.List.{Contains}
use Rattle.std.proofs.lemmas.Bool.{ltb-false, lt-ltb}
use Rattle.std.specs.Ordering.{MatchOrdering}
use Rattle.std.specs.Int.Signed.{≤ℤ_refl, <ℤ_irrefl}
use Rattle.std.specs.Cmp.{int_chain}
use Rattle.std.proofs.lemmas.Int.{by_lt_z}
use Rattle.std.proofs.lemmas.Cmp.{nat_cmp_total, int_cmp_total, int_ranked, on_total, then_total}
use Rattle.std.proofs.lemmas.List.Sorted.{ranks_by, sorted_far, Contains-permutation, IsPermutation-sym}
use Rattle.board_core.specs.declared.parts.Parts.{Parts}
use Rattle.judge_core.specs.declared.root_move.RootMove.{RootMove}
use Rattle.judge_core.specs.declared.fault.ValueFault.{ValueFault}
use Rattle.judge_core.specs.declared.wdl.Wdl.{Wdl}
use Rattle.judge_core.specs.declared.wdl.Wdl.TheVariants.{Loss, BlessedLoss, Draw, CursedWin, Win}
use Rattle.judge_core.specs.Values.{Reading, points, of_points}
use Rattle.judge_core.specs.Tables.{Tables}
use Rattle.judge_core.specs.Root.{IsRoot, root_moves, move_rank, rank_cmp, below_win, distance_or_most}
use Rattle.std.specs.List.Sorted.{IsSortedByKey}
use Rattle.judge_core.specs.DeterminedLaws.{FirstDeterminedMoveIsBest, FirstDeterminedMoveWinsWithinRule}
use Rattle.judge_core.specs.RootLaws.{IsWithinRule, FirstMoveIsBest, FirstMoveWinsWithinRule, FirstMoveKeepsTheValue}

rank_total : IsTotalOrder rank_cmp
rank_total = then_total (on_total (λ (r : ℕ × ℤ). r.0) nat_cmp_total) (on_total (λ (r : ℕ × ℤ). r.1) int_cmp_total)

-- no move of a sorted list ranks before the first one
least_of_sorted : (first : RootMove) (rest : List RootMove) (m : RootMove) → IsSortedByKey move_rank rank_cmp (first ∷ rest) → Contains (first ∷ rest) m → is_lt (rank_cmp (move_rank m) (move_rank first)) ≡ false
least_of_sorted first rest m sorted at =
    subst (λ (x : RootMove). is_lt (rank_cmp (move_rank x) (move_rank first)) ≡ false) at.2
    (sorted_far (λ a b. is_lt (rank_cmp (move_rank a) (move_rank b))) (ranks_by rank_total move_rank) (first ∷ rest) sorted 0 at.0 m (omega arith) at.1)

-- no root move does
first_is_least : (tables : Tables) (p : Parts) (first : RootMove) (rest : List RootMove) (m : RootMove) → IsRoot tables p (first ∷ rest) → Contains (root_moves tables p) m → is_lt (rank_cmp (move_rank m) (move_rank first)) ≡ false
first_is_least tables p first rest m root has = least_of_sorted first rest m root.best_first (Contains-permutation (root_moves tables p) (first ∷ rest) m root.all has)

not_below : (a b : ℕ) (o : Ordering) → is_lt (ordering_then (nat_cmp a b) o) ≡ false → b ≤ a
not_below a b o e = step (nat_lt a b) refl e
  where
    step : (t : Bool) → nat_lt a b ≡ t → is_lt (ordering_then (cond t Less (cond (a == b) Equal Greater)) o) ≡ false → b ≤ a
    step true et e = absurd (cc)
    step false et e = ltb-false a b et

below_five : (v : Wdl) → points v ≤ 4
below_five Loss = omega arith
below_five BlessedLoss = omega arith
below_five Draw = omega arith
below_five CursedWin = omega arith
below_five Win = omega arith

-- a value that is no further below a win is at least as good
at_least : (r : Reading) (v : Wdl) → below_win r ≤ 4 - points v → (u : Wdl) × (r ≡ Ok u) × (points v ≤ points u)
at_least (Ok u) v h = (u, refl, (let four = below_five v in omega (arith, h, four)))
at_least (Err fault) v h = absurd (omega (arith, h))

-- of two moves the one that doesn't rank after the other has a value where that has one, and it is as good
as_good : (first m : RootMove) (v : Wdl) → is_lt (rank_cmp (move_rank m) (move_rank first)) ≡ false → m.wdl ≡ Ok v → (u : Wdl) × (first.wdl ≡ Ok u) × (points v ≤ points u)
as_good first m v least e =
    let low = not_below (below_win m.wdl) (below_win first.wdl) _ least in
    at_least first.wdl v (subst (λ (r : Reading). below_win first.wdl ≤ below_win r) e low)

pub first_is_best : FirstMoveIsBest
first_is_best tables p first rest m v root has e = as_good first m v (first_is_least tables p first rest m root has) e

pub first_determined_is_best : FirstDeterminedMoveIsBest
first_determined_is_best tables p first rest m v root has e = as_good first m v (least_of_sorted first rest m root.root.best_first has) e

points_back : (v : Wdl) → of_points (points v) ≡ Some v
points_back Loss = refl
points_back BlessedLoss = refl
points_back Draw = refl
points_back CursedWin = refl
points_back Win = refl

same_points : (u v : Wdl) → points u ≤ points v → points v ≤ points u → u ≡ v
same_points u v a b = (let e : points u ≡ points v = omega (arith, a, b) in let f = sym (points_back u) ∙ ap of_points e ∙ points_back v in cc)

has_head : {X : Type 0} (x : X) (xs : List X) → Contains (x ∷ xs) x
has_head x xs = (0, omega arith, refl)

pub first_keeps_the_value : FirstMoveKeepsTheValue
first_keeps_the_value tables p first rest root agree =
    let most = first_is_best tables p first rest agree.best.best agree.value root agree.best.there agree.best.reached in
    let has = Contains-permutation (first ∷ rest) (root_moves tables p) first (IsPermutation-sym (root_moves tables p) (first ∷ rest) root.all) (has_head first rest) in
    most.1 ∙ ap (λ (u : Wdl). Ok u) (same_points most.0 agree.value (agree.best.most first most.0 has most.1) most.2) ∙ sym agree.is

-- ---- distances

not_later : (x y : ℤ) (r : Ordering) → MatchOrdering r (x <ℤ y) (x ≡ y) (y <ℤ x) → is_lt r ≡ false → y ≤ℤ x
not_later x y Less h e = absurd (cc)
not_later x y Equal h e = subst (λ (z : ℤ). y ≤ℤ z) (sym h) (≤ℤ_refl y)
not_later x y Greater h e = by_lt_z x y (λ lt. absurd (<ℤ_irrefl (int_chain y x y h lt))) (λ le. le)

-- a distance that isn't after a small one is there
there : (n : ℕ) (r : Result ℤ ValueFault) → n ≤ 100 → is_lt (int_cmp (pos n) (distance_or_most r)) ≡ false → (d : ℤ) × (r ≡ Ok d) × (d ≤ℤ pos n)
there n (Ok d) few e = (d, refl, not_later (pos n) d (int_cmp (pos n) d) (int_ranked (pos n) d _ refl) e)
there n (Err fault) few e = absurd (let t : nat_lt n 2147483647 ≡ true = lt-ltb n 2147483647 (omega (arith, few)) in let f = rw t at e in cc)

win_from : (r : Reading) → below_win r ≤ 0 → r ≡ Ok Win
win_from r h = (let u = at_least r Win h in u.1 ∙ ap (λ (v : Wdl). Ok v) (best u.0 u.2))
  where
    best : (u : Wdl) → 4 ≤ points u → u ≡ Win
    best Loss h = absurd (omega (arith, h))
    best BlessedLoss h = absurd (omega (arith, h))
    best Draw h = absurd (omega (arith, h))
    best CursedWin h = absurd (omega (arith, h))
    best Win h = refl

-- two that win are in the order of their distances
both_win : (a b : Reading) (x y : ℤ) → a ≡ Ok Win → b ≡ Ok Win → is_lt (ordering_then (nat_cmp (below_win a) (below_win b)) (int_cmp x y)) ≡ false → is_lt (int_cmp x y) ≡ false
both_win a b x y ea eb h = rw (ea, eb) at h

as_near : (p : Parts) (first m : RootMove) → is_lt (rank_cmp (move_rank m) (move_rank first)) ≡ false → (within : IsWithinRule p m) → (distance : ℤ) × (first.wdl ≡ Ok Win) × (first.dtz ≡ Ok distance) × (distance ≤ℤ pos within.distance)
as_near p first m least within =
    let low = not_below (below_win m.wdl) (below_win first.wdl) _ least in
    let won = win_from first.wdl (subst (λ (r : Reading). below_win first.wdl ≤ below_win r) within.won low) in
    let near = both_win m.wdl first.wdl (distance_or_most m.dtz) (distance_or_most first.dtz) within.won won least in
    let found = there within.distance first.dtz (let s = within.soon in omega (arith, s)) (subst (λ (r : Result ℤ ValueFault). is_lt (int_cmp (distance_or_most r) (distance_or_most first.dtz)) ≡ false) within.is near) in
    (found.0, won, found.1, found.2)

pub wins_within_rule : FirstMoveWinsWithinRule
wins_within_rule tables p first rest m root has within = as_near p first m (first_is_least tables p first rest m root has) within

pub determined_wins_within_rule : FirstDeterminedMoveWinsWithinRule
determined_wins_within_rule tables p first rest m root has within = as_near p first m (least_of_sorted first rest m root.root.best_first has) within
