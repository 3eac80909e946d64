-- Values rise with those that they come from: of own tables, and of the positions after captures.
use Rattle.std.proofs.Common.{◌≡◌, sym, refl, ◌+◌, ◌≤◌, nat_lt, Bool, true, false, Some, Result, Ok, Err, cond, arith}
use Rattle.std.proofs.lemmas.Bool.{ltb-true, ltb-false}
use Rattle.board_core.specs.declared.parts.Parts.{Parts}
use Rattle.board_core.specs.declared.moves.Move.{Move}
use Rattle.board_core.specs.ComputedMoves.{position_after, is_capture}
use Rattle.judge_core.specs.declared.fault.ValueFault.{ValueFault}
use Rattle.judge_core.specs.declared.found.CaptureSearch.{CaptureSearch}
use Rattle.judge_core.specs.declared.wdl.Wdl.{Wdl}
use Rattle.judge_core.specs.declared.wdl.Wdl.TheVariants.{Loss, BlessedLoss, Draw, CursedWin, Win}
use Rattle.judge_core.specs.Values.{Reading, points, opposite, greater, opposite_reading}
use Rattle.judge_core.specs.Probing.{searched_where, worth, wdl_from_search}
use Rattle.judge_core.proofs.Related.{Readings, Searches, Searched, searched, worth_too, value_too}

-- ---- values

pub same_points : (u v : Wdl) → points u ≡ points v → u ≡ v
same_points Loss Loss e = refl
same_points Loss BlessedLoss e = cc
same_points Loss Draw e = cc
same_points Loss CursedWin e = cc
same_points Loss Win e = cc
same_points BlessedLoss Loss e = cc
same_points BlessedLoss BlessedLoss e = refl
same_points BlessedLoss Draw e = cc
same_points BlessedLoss CursedWin e = cc
same_points BlessedLoss Win e = cc
same_points Draw Loss e = cc
same_points Draw BlessedLoss e = cc
same_points Draw Draw e = refl
same_points Draw CursedWin e = cc
same_points Draw Win e = cc
same_points CursedWin Loss e = cc
same_points CursedWin BlessedLoss e = cc
same_points CursedWin Draw e = cc
same_points CursedWin CursedWin e = refl
same_points CursedWin Win e = cc
same_points Win Loss e = cc
same_points Win BlessedLoss e = cc
same_points Win Draw e = cc
same_points Win CursedWin e = cc
same_points Win Win e = refl

pub opposite_points : (v : Wdl) → points (opposite v) + points v ≡ 4
opposite_points Loss = refl
opposite_points BlessedLoss = refl
opposite_points Draw = refl
opposite_points CursedWin = refl
opposite_points Win = refl

pub points_most : (v : Wdl) → points v ≤ 4
points_most v = (let e = opposite_points v in omega (arith, e))

pub greater_rises : (a b c d : Wdl) → points a ≤ points c → points b ≤ points d → points (greater a b) ≤ points (greater c d)
unfolding greater
greater_rises a b c d left right = step (nat_lt (points a) (points b)) (nat_lt (points c) (points d)) refl refl
  where
    step : (s t : Bool) → nat_lt (points a) (points b) ≡ s → nat_lt (points c) (points d) ≡ t → points (cond s b a) ≤ points (cond t d c)
    step true true es et = right
    step true false es et = (let le = ltb-false (points c) (points d) et in omega (arith, le, right))
    step false true es et = (let lt = ltb-true (points c) (points d) et in omega (arith, lt, left))
    step false false es et = left

-- ---- readings

abbrev pub IsAtMost : Wdl → Wdl → Type 0
IsAtMost u v = points u ≤ points v

at_most-same : (v : Wdl) → IsAtMost v v
at_most-same v = omega arith

-- the second is at least the first, or both are the same fault
abbrev pub AtMost : Reading → Reading → Type 0
AtMost r s = Readings IsAtMost r s

pub at_most-refl : (r : Reading) → AtMost r r
at_most-refl (Ok v) = omega arith
at_most-refl (Err fault) = refl

pub at_most-turned : (r s : Reading) → AtMost r s → AtMost (opposite_reading s) (opposite_reading r)
at_most-turned (Ok u) (Ok v) h = (let eu = opposite_points u in let ev = opposite_points v in omega (arith, eu, ev, h))
at_most-turned (Ok u) (Err fault) h = absurd h
at_most-turned (Err fault) (Ok v) h = absurd h
at_most-turned (Err fault) (Err other) h = sym h

-- ---- what is searched

abbrev pub SearchesAtMost : CaptureSearch → CaptureSearch → Type 0
SearchesAtMost a b = Searches IsAtMost a b

abbrev pub AtMostSearched : Result CaptureSearch ValueFault → Result CaptureSearch ValueFault → Type 0
AtMostSearched w x = Searched IsAtMost w x

pub searched_rises : (f g : Parts → Reading) (p : Parts) → ((m : Move) (q : Parts) → is_capture p m ≡ true → position_after p m ≡ Some q → AtMost (opposite_reading (f q)) (opposite_reading (g q))) → (own own' : Parts → Reading) → AtMost (own p) (own' p)
    → AtMostSearched (searched_where own f p) (searched_where own' g p)
searched_rises f g p h own own' le = searched IsAtMost at_most-same greater_rises f g p h own own' le

pub worth_rises : (a b : CaptureSearch) → SearchesAtMost a b → points (worth a) ≤ points (worth b)
worth_rises a b h = worth_too IsAtMost at_most-same greater_rises a b h

pub value_rises : (p : Parts) (a b : Result CaptureSearch ValueFault) → AtMostSearched a b → AtMost (wdl_from_search p a) (wdl_from_search p b)
value_rises p a b h = value_too IsAtMost at_most-same greater_rises p a b h
