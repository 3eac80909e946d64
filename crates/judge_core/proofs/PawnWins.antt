-- A pawn move that brings a value about in every completion does so in the set, and in the two completions that decide.
use Rattle.std.proofs.Common.{◌≡◌, ◌∙◌, sym, ap, refl, zero, suc, Bool, true, false, ◌||◌, List, [], ◌∷◌, Option, Some, None, filter, Ok, Err, arith}
use Rattle.std.specs.List.{list_any, Contains}
use Rattle.std.proofs.lemmas.Bool.{false≢true}
use Rattle.board_core.specs.declared.parts.Parts.{Parts}
use Rattle.board_core.specs.declared.moves.Move.{Move}
use Rattle.board_core.specs.Position.{IsPosition}
use Rattle.board_core.specs.ComputedMoves.{position_after, legal_moves}
use Rattle.judge_core.specs.declared.wdl.Wdl.{Wdl}
use Rattle.judge_core.specs.declared.wdl.Wdl.TheVariants.{Loss, BlessedLoss, Draw, CursedWin, Win}
use Rattle.judge_core.specs.Values.{Reading, opposite, opposite_reading, is_same}
use Rattle.judge_core.specs.Tables.{Tables}
use Rattle.judge_core.specs.Asked.{asked, fault_in}
use Rattle.judge_core.specs.Probing.{values_after, wdl_of}
use Rattle.judge_core.specs.Distances.{is_value, is_pawn_step, pawns_reach_where}
use Rattle.judge_core.specs.Determined.{IsByPawnMove}
use Rattle.judge_core.specs.Inside.Determined.{extreme, extreme_value, in_both, value_in_both, pawns_reach_in_both}
use Rattle.judge_core.proofs.Rule.{still}
use Rattle.judge_core.proofs.Completed.{extreme-completes, is_same-refl}
use Rattle.judge_core.proofs.Kept.{unless_ok, no_fault_more, strict_value}

-- ---- a move among others

module _ (v : Wdl) (say : Parts → Reading) (p : Parts) (t : Move → Bool) (m : Move) (q : Parts) (et : t m ≡ true) (eq : position_after p m ≡ Some q) (reaches : (x : Wdl) → say q ≡ Ok x → is_value v (Ok x) ≡ true) where
  here : (ms : List Move) → fault_in (asked say p (filter t (m ∷ ms))) ≡ None → list_any (is_value v) (asked say p (filter t (m ∷ ms))) ≡ true
  here ms none =
      let there = no_fault_more (say q) (asked say p (filter t ms)) (rw (et, eq) at none) in
      rw (et, eq, there.0.1, reaches there.0.0 there.0.1) refl

  -- one move more before it
  further : (n : Move) (ms : List Move) → (fault_in (asked say p (filter t ms)) ≡ None → list_any (is_value v) (asked say p (filter t ms)) ≡ true) → fault_in (asked say p (filter t (n ∷ ms))) ≡ None → list_any (is_value v) (asked say p (filter t (n ∷ ms))) ≡ true
  further n ms rest none = step (t n) (position_after p n) refl refl none
    where
      or_true : (a b : Bool) → b ≡ true → (a || b) ≡ true
      or_true true b e = refl
      or_true false b e = e

      step : (b : Bool) (o : Option Parts) → t n ≡ b → position_after p n ≡ o → fault_in (asked say p (filter t (n ∷ ms))) ≡ None → list_any (is_value v) (asked say p (filter t (n ∷ ms))) ≡ true
      step false o eb eo none = rw eb (rest (rw eb at none))
      step true None eb eo none = rw (eb, eo) (rest (rw (eb, eo) at none))
      step true (Some r) eb eo none =
          let there = no_fault_more (say r) (asked say p (filter t ms)) (rw (eb, eo) at none) in
          rw (eb, eo) (or_true (is_value v (say r)) (list_any (is_value v) (asked say p (filter t ms))) (rest there.1))

  pub reached_by : (ms : List Move) → Contains ms m → fault_in (asked say p (filter t ms)) ≡ None → list_any (is_value v) (asked say p (filter t ms)) ≡ true
  reached_by [] (i, below, at) none = absurd (omega (arith, below))
  reached_by (n ∷ ms) (zero, below, at) none = (let same : n ≡ m = at in rw same (here ms (rw same at none)))
  reached_by (n ∷ ms) (suc i, below, at) none = further n ms (reached_by ms (i, omega (arith, below), at)) none

-- ---- in both

module _ (f g h : Parts → Reading) (p : Parts) (t : Move → Bool) (each : (q : Parts) (x y : Wdl) → f q ≡ Ok x → g q ≡ Ok y → (z : Wdl) × (h q ≡ Ok z)) where
  pub both_there : (ms : List Move) → fault_in (asked f p (filter t ms)) ≡ None → fault_in (asked g p (filter t ms)) ≡ None → fault_in (asked h p (filter t ms)) ≡ None
  both_there [] nf ng = refl
  both_there (m ∷ ms) nf ng = step (both_there ms) (t m) (position_after p m) refl refl nf ng
    where
      step : (fault_in (asked f p (filter t ms)) ≡ None → fault_in (asked g p (filter t ms)) ≡ None → fault_in (asked h p (filter t ms)) ≡ None) → (b : Bool) (o : Option Parts) → t m ≡ b → position_after p m ≡ o
          → fault_in (asked f p (filter t (m ∷ ms))) ≡ None → fault_in (asked g p (filter t (m ∷ ms))) ≡ None → fault_in (asked h p (filter t (m ∷ ms))) ≡ None
      step rest false o eb eo nf ng = rw eb (rest (rw eb at nf) (rw eb at ng))
      step rest true None eb eo nf ng = rw (eb, eo) (rest (rw (eb, eo) at nf) (rw (eb, eo) at ng))
      step rest true (Some q) eb eo nf ng =
          let one = no_fault_more (f q) (asked f p (filter t ms)) (rw (eb, eo) at nf) in
          let other = no_fault_more (g q) (asked g p (filter t ms)) (rw (eb, eo) at ng) in
          let both = each q one.0.0 other.0.0 one.0.1 other.0.1 in
          rw (eb, eo, both.1) (rest one.1 other.1)

pub turned-ok : (r : Reading) (x : Wdl) → opposite_reading r ≡ Ok x → (y : Wdl) × (r ≡ Ok y) × (opposite y ≡ x)
turned-ok (Ok y) x e = (y, refl, cc)
turned-ok (Err fault) x e = absurd (cc)

opposite_back : (v : Wdl) → opposite (opposite v) ≡ v
opposite_back Loss = refl
opposite_back BlessedLoss = refl
opposite_back Draw = refl
opposite_back CursedWin = refl
opposite_back Win = refl

in_both-there : (v : Wdl) (a b : Reading) (x y : Wdl) → a ≡ Ok x → b ≡ Ok y → (z : Wdl) × (in_both v a b ≡ Ok z)
in_both-there v a b x y ea eb = step (is_same x v) refl
  where
    step : (t : Bool) → is_same x v ≡ t → (z : Wdl) × (in_both v a b ≡ Ok z)
    step true e = (y, rw (ea, eb, e) refl)
    step false e = (x, rw (ea, eb, e) refl)

module _ (tables : Tables) (p : Parts) (position : IsPosition p) (v : Wdl) (by : IsByPawnMove tables p v) where
  next : IsPosition by.next
  next = still p by.next by.step position by.leads

  in_each : (odd : Bool) → extreme_value tables odd by.next ≡ Ok (opposite v)
  in_each odd = by.value (extreme tables odd) (extreme-completes tables odd)

  back : (x y : Wdl) → opposite y ≡ x → y ≡ opposite v → is_value v (Ok x) ≡ true
  back x y ex ey = (let same : x ≡ v = sym ex ∙ ap opposite ey ∙ opposite_back v in rw same (is_same-refl v))

  pub reached_in_both : pawns_reach_in_both tables p v ≡ Ok true
  unfolding pawns_reach_where value_in_both
  reached_in_both =
      let f : Parts → Reading = λ q. opposite_reading (extreme_value tables true q) in
      let g : Parts → Reading = λ q. opposite_reading (extreme_value tables false q) in
      let h : Parts → Reading = λ q. opposite_reading (in_both (opposite v) (extreme_value tables true q) (extreme_value tables false q)) in
      let none =
      both_there f g h p (is_pawn_step p)
      (λ q x y ex ey. (
      let a = turned-ok (extreme_value tables true q) x ex in
      let b = turned-ok (extreme_value tables false q) y ey in
      let z = in_both-there (opposite v) (extreme_value tables true q) (extreme_value tables false q) a.0 b.0 a.1 b.1 in
      (opposite z.0, ap opposite_reading z.1)))
      (legal_moves p) (by.whole (extreme tables true) (extreme-completes tables true)) (by.whole (extreme tables false) (extreme-completes tables false)) in
      let here : in_both (opposite v) (extreme_value tables true by.next) (extreme_value tables false by.next) ≡ Ok (opposite v) = rw (in_each true, in_each false, is_same-refl (opposite v)) refl in
      let any =
      reached_by v h p (is_pawn_step p) by.step by.next by.pawn by.leads
      (λ x e. (let it = turned-ok _ x e in let same : Ok it.0 ≡ Ok (opposite v) = sym it.1 ∙ here in back x it.0 it.2 (cc)))
      (legal_moves p) by.legal none in
      rw (none, any) refl

  -- the set can't say that no pawn move does so
  pub reached_in_set : pawns_reach_where (wdl_of tables) p v ≡ Ok false → ⊥
  unfolding pawns_reach_where
  reached_in_set e =
      let say : Parts → Reading = λ q. opposite_reading (wdl_of tables q) in
      let parts = unless_ok _ _ false e in
      let any =
      reached_by v say p (is_pawn_step p) by.step by.next by.pawn by.leads
      (λ x e. (
      let it = turned-ok (wdl_of tables by.next) x e in
      let kept = strict_value tables (extreme tables true) (extreme-completes tables true) by.next next it.0 it.1 in
      let same : Ok it.0 ≡ Ok (opposite v) = sym kept ∙ in_each true in
      back x it.0 it.2 (cc)))
      (legal_moves p) by.legal parts.0 in
      let not_any : Ok (list_any (is_value v) (values_after (wdl_of tables) p (filter (is_pawn_step p) (legal_moves p)))) ≡ Ok false = parts.1 in
      let off : list_any (is_value v) (values_after (wdl_of tables) p (filter (is_pawn_step p) (legal_moves p))) ≡ false = cc in
      absurd (false≢true (sym off ∙ any))
