-- The distance, rule by rule.
use Rattle.std.proofs.Common.{◌≡◌, ◌∙◌, sym, ap, subst, refl, ℕ, zero, suc, ◌-◌, ◌<◌, ◌≤◌, Bool, true, false, Option, Some, None, Result, Ok, Err, IfOk, arith}
use Rattle.std.proofs.lemmas.Bool.{le-leb, lt-leb}
use Rattle.board_core.specs.declared.parts.Parts.{Parts}
use Rattle.board_core.specs.ComputedMoves.{count_of_men}
use Rattle.place_index.specs.Placed.{Placement}
use Rattle.table_file.specs.declared.kind.TableKind.TheVariants.{Dtz}
use Rattle.table_file.specs.declared.outcome.Outcome.{Outcome}
use Rattle.table_file.specs.Tables.{Contents}
use Rattle.table_file.specs.Distances.{stores}
use Rattle.judge_core.specs.declared.wdl.Wdl.{Wdl}
use Rattle.judge_core.specs.declared.found.CaptureSearch.{CaptureSearch}
use Rattle.judge_core.specs.declared.fault.ValueFault.{ValueFault}
use Rattle.judge_core.specs.declared.fault.ValueFault.TheVariants.{NotCovered}
use Rattle.judge_core.specs.declared.distance.Distance.{Distance}
use Rattle.judge_core.specs.declared.distance.Distance.TheVariants.{Draw}
use Rattle.judge_core.specs.LookUp.{material_of, placed_of}
use Rattle.judge_core.specs.Tables.{Tables, table_at, part_asked}
use Rattle.board_core.specs.Ends.{is_checkmate}
use Rattle.judge_core.specs.Probing.{searched_by, wdl_of}
use Rattle.judge_core.specs.Distances.{Reach, is_won, zeroing, towards, distance_before, move_counts, by_quiet_moves, distance_in, stored_distance, by_own_table, pawns_reach, unless_reached, by_moves, dtz_from_search, dtz_by, dtz_to}
use Rattle.judge_core.specs.Inside.Determined.{distance_in_both, or_agreed_distance, reach_after}

-- what is equal to the one is equal to the other
pub if_same : {X E : Type 0} (r : Result X E) (a b : X) → a ≡ b → IfOk r (λ x. x ≡ a) → IfOk r (λ x. x ≡ b)
if_same {X} r a b e h = subst (λ (y : X). IfOk r (λ x. x ≡ y)) e h

-- ---- one move

pub mate_counts : (outcome : Outcome) (reach : Parts → Reach) (q : Parts) → is_won outcome ≡ true → is_checkmate q ≡ true → Ok (Some 1) ≡ move_counts outcome reach q
unfolding move_counts
mate_counts outcome reach q w m = rw (w, m) refl

pub other_counts : (outcome : Outcome) (reach : Parts → Reach) (q : Parts) (won : Bool) (r : Reach) (n : Result (Option ℕ) ValueFault) → won ≡ is_won outcome → (won ≡ true → is_checkmate q ≡ false) → r ≡ reach q → n ≡ distance_before won r → n ≡ move_counts outcome reach q
unfolding move_counts
other_counts outcome reach q true r n w no_mate er en = en ∙ rw (← w, no_mate refl, ← er) refl
other_counts outcome reach q false r n w no_mate er en = en ∙ rw (← w, ← er) refl

-- ---- the own table

module _ (tables : Tables) (reach : Parts → Reach) (p : Parts) (outcome : Outcome) where
  pub bare_own : material_of p ≡ None → Ok Draw ≡ by_own_table tables reach p outcome
  unfolding by_own_table
  bare_own e = rw e refl

  module _ (key : ℕ) (m : material_of p ≡ Some key) where
    pub missing_own : table_at tables Dtz key ≡ None → Err (NotCovered key) ≡ by_own_table tables reach p outcome
    unfolding by_own_table
    missing_own e = rw (m, e) refl

    module _ (t : Contents) (placed : Placement) (b : Bool) (at : table_at tables Dtz key ≡ Some t) (ep : placed ≡ placed_of key p) (eb : b ≡ stores (part_asked t placed)) where
      stored_side : stores (part_asked t (placed_of key p)) ≡ b
      stored_side = ap (λ (x : Placement). stores (part_asked t x)) (sym ep) ∙ sym eb

      pub stored_own : (n : Option ℕ) (r : Reach) → b ≡ true → n ≡ distance_in t placed outcome → r ≡ stored_distance key outcome n → r ≡ by_own_table tables reach p outcome
      unfolding by_own_table
      stored_own n r yes' en er = er ∙ ap (stored_distance key outcome) (en ∙ ap (λ (x : Placement). distance_in t x outcome) ep) ∙ rw (m, at, stored_side, yes') refl

      pub quiet_own : b ≡ false → by_quiet_moves key outcome reach p ≡ by_own_table tables reach p outcome
      unfolding by_own_table
      quiet_own no' = rw (m, at, stored_side, no') refl

  -- ---- pawn moves

  pub reached_is : (v : Wdl) (found : Result Bool ValueFault) → is_won outcome ≡ true → found ≡ pawns_reach tables p v → unless_reached found outcome (by_own_table tables reach p outcome) ≡ by_moves tables reach p v outcome
  unfolding by_moves
  reached_is v found w e = rw (w, ← e) refl

  pub lost_is : (v : Wdl) → is_won outcome ≡ false → by_own_table tables reach p outcome ≡ by_moves tables reach p v outcome
  unfolding by_moves
  lost_is v w = rw w refl

pub reached_by : (outcome : Outcome) (own : Reach) (b : Bool) (n : ℕ) (d : Distance) → b ≡ true → n ≡ zeroing outcome → d ≡ towards outcome n → Ok d ≡ unless_reached (Ok b) outcome own
reached_by outcome own b n d yes' en ed = rw yes' (ap (λ (x : Distance). Ok x) (ed ∙ ap (towards outcome) en))

-- ---- all rules

pub bare_by : (tables : Tables) (reach : Parts → Reach) (p : Parts) → count_of_men p ≤ 2 → Ok Draw ≡ dtz_by tables reach p
bare_by tables reach p few = rw (le-leb (count_of_men p) 2 few) refl

pub many_by_rules : (tables : Tables) (reach : Parts → Reach) (p : Parts) (w : Result CaptureSearch ValueFault) → 2 < count_of_men p → w ≡ searched_by tables (wdl_of tables) p → dtz_from_search tables reach p w ≡ dtz_by tables reach p
many_by_rules tables reach p w many e = rw (lt-leb (count_of_men p) 2 many, ← e) refl

-- what is asked of a position after a quiet move
pub if_told : {E : Type 0} (result : Result Reach E) (tables : Tables) (q : Parts) (own : Reach) → own ≡ dtz_by tables (dtz_to tables 0) q → IfOk result (λ r. r ≡ or_agreed_distance own (distance_in_both tables q)) → IfOk result (λ r. r ≡ reach_after tables q)
unfolding reach_after dtz_to
if_told result tables q own e h = if_same result _ _ (ap (λ (x : Reach). or_agreed_distance x (distance_in_both tables q)) e) h

pub once : (tables : Tables) (q : Parts) → dtz_by tables (dtz_to tables 0) q ≡ dtz_to tables 1 q
unfolding dtz_to
once tables q = refl

pub never : (tables : Tables) (q : Parts) → Ok Draw ≡ dtz_to tables 0 q
unfolding dtz_to
never tables q = refl

-- ---- positions in a row

pub few_men : (tables : Tables) (n : ℕ) (p : Parts) → count_of_men p ≤ 2 → Ok Draw ≡ dtz_to tables n p
unfolding dtz_to
few_men tables zero p few = refl
few_men tables (suc n) p few = rw (le-leb (count_of_men p) 2 few) refl

pub some_left : (tables : Tables) (n : ℕ) (p : Parts) (w : Result CaptureSearch ValueFault) → ¬ (n ≡ 0) → 2 < count_of_men p → w ≡ searched_by tables (wdl_of tables) p → dtz_from_search tables (dtz_to tables (n - 1)) p w ≡ dtz_to tables n p
unfolding dtz_to
some_left tables zero p w left many e = absurd (left refl)
some_left tables (suc n) p w left many e = let less : suc n - 1 ≡ n = omega arith in rw (less, lt-leb (count_of_men p) 2 many, ← e) refl
