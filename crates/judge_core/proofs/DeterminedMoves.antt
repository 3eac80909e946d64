-- Determined answers are one, so the root moves are by what the probes tell.
use Rattle.std.proofs.Common.{◌≡◌, ◌∙◌, sym, ap, refl, Option, Some, None, option_map, Ok, Err, inl, inr}
use Rattle.std.proofs.lemmas.List.Sorted.{Contains-permutation, IsPermutation-sym}
use Rattle.board_core.specs.declared.parts.Parts.{Parts}
use Rattle.board_core.specs.declared.moves.Move.{Move}
use Rattle.board_core.specs.ComputedMoves.{position_after, legal_moves}
use Rattle.judge_core.specs.declared.distance.Distance.{Distance}
use Rattle.judge_core.specs.declared.root_move.RootMove.{RootMove}
use Rattle.judge_core.specs.Values.{Reading}
use Rattle.judge_core.specs.Tables.{Tables}
use Rattle.judge_core.specs.Distances.{Reach}
use Rattle.judge_core.specs.Root.{root_move_at, root_move_by, root_moves_by}
use Rattle.judge_core.specs.Determined.{IsDeterminedReading, IsDeterminedReach, IsDistanceByValue, OfDraw, OfCapture, OfPawnMove}
use Rattle.judge_core.specs.DeterminedLaws.{DeterminedAnswersAreOne, DeterminedMoveIsAsProbed}
use Rattle.judge_core.proofs.Completing.{one_value}
use Rattle.judge_core.proofs.RootCaptures.{from_item}
use Rattle.judge_core.proofs.Rule.{still}

one_reading : (tables : Tables) (p : Parts) (r s : Reading) → IsDeterminedReading tables p r → IsDeterminedReading tables p s → r ≡ s
one_reading tables p (Ok u) (Ok v) a b = ap (λ x. Ok x) (one_value tables p u v (a.determined u refl) (b.determined v refl))
one_reading tables p (Ok u) (Err f) a b = absurd ((b.fault_is f refl).1 u (a.determined u refl))
one_reading tables p (Err f) (Ok v) a b = absurd ((a.fault_is f refl).1 v (b.determined v refl))
one_reading tables p (Err f) (Err g) a b = sym (a.fault_is f refl).0 ∙ (b.fault_is g refl).0

-- where a distance is told by the value, that is the distance
told_by_value : (tables : Tables) (p : Parts) (r : Reach) (d : Distance) → IsDeterminedReach tables p r → IsDistanceByValue tables p d → r ≡ Ok d
told_by_value tables p r d a (OfDraw is e) = a.draw is ∙ ap (λ x. Ok x) (sym e)
told_by_value tables p r d a (OfCapture v outcome is eo captures e) = a.capture v outcome is eo captures ∙ ap (λ x. Ok x) (sym e)
told_by_value tables p r d a (OfPawnMove v outcome is eo won by e) = a.pawn v outcome is eo won by ∙ ap (λ x. Ok x) (sym e)

same_told : (tables : Tables) (p : Parts) (r s : Reach) (d : Distance) → r ≡ Ok d → IsDeterminedReach tables p r → IsDeterminedReach tables p s → s ≡ Ok d
same_told tables p r s d e a b = elim (a.only d e) [
  | inl own ↦ b.kept d own
  | inr by ↦ elim by [
    | inl value ↦ told_by_value tables p s d b value
    | inr own ↦ b.own_table d own
  ]
]

one_reach : (tables : Tables) (p : Parts) (r s : Reach) → IsDeterminedReach tables p r → IsDeterminedReach tables p s → r ≡ s
one_reach tables p (Ok c) s a b = sym (same_told tables p (Ok c) s c refl a b)
one_reach tables p (Err f) (Ok d) a b = same_told tables p (Ok d) (Err f) d refl b a
one_reach tables p (Err f) (Err g) a b = sym (a.fault_is f refl) ∙ b.fault_is g refl

pub answers_are_one : DeterminedAnswersAreOne
answers_are_one tables p = (one_reading tables p, one_reach tables p)

-- a root move is by the value and the distance of the position after it alone
made_alike : (f g : Parts → Reading) (h k : Parts → Reach) (p q : Parts) (m : Move) → f q ≡ g q → h q ≡ k q → root_move_by f h p m q ≡ root_move_by g k p m q
made_alike f g h k p q m ev er =
    let made : Reading → Reach → RootMove = λ v r. root_move_by (λ _. v) (λ _. r) p m q in
    ap (λ v. made v (h q)) ev ∙ ap (made (g q)) er

pub as_probed : DeterminedMoveIsAsProbed
unfolding root_moves_by
as_probed tables p q moves m value reach position root has leads vs rs =
    let there = Contains-permutation moves (root_moves_by root.value root.reach p) m (IsPermutation-sym (root_moves_by root.value root.reach p) moves root.root.all) has in
    let from = from_item (root_move_at root.value root.reach p) (legal_moves p) m there in
    step from.0 (position_after p from.0) refl from.2
  where
    step : (n : Move) (o : Option Parts) → position_after p n ≡ o → option_map (root_move_by root.value root.reach p n) o ≡ Some m → m ≡ root_move_by (λ _. value) (λ _. reach) p m.played q
    step n None eo e = absurd (cc)
    step n (Some r) eo e =
        let is : root_move_by root.value root.reach p n r ≡ m = cc in
        let played : n ≡ m.played = ap (λ (x : RootMove). x.played) is in
        let both : Some r ≡ Some q = sym eo ∙ ap (position_after p) played ∙ leads in
        let same : r ≡ q = cc in
        let after = still p q m.played position leads in
        sym is
        ∙ ap (λ (x : Move). root_move_by root.value root.reach p x r) played
        ∙ ap (root_move_by root.value root.reach p m.played) same
        ∙ made_alike root.value (λ _. value) root.reach (λ _. reach) p q m.played (one_reading tables q _ _ (root.values q after) vs) (one_reach tables q _ _ (root.reaches q after) rs)
