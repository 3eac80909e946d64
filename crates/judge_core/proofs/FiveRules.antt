-- The distance of a position is the one that the five rules give.
use Rattle.std.proofs.Common.{◌≡◌, ◌∙◌, sym, subst, refl, ℕ, ◌<◌, ◌≤◌, nat_le, nat_lt, Bool, true, false, ◌||◌, Option, Some, None, Result, Ok, Err, if◌then◌else◌, arith}
use Rattle.std.specs.Prelude.{IsTrue, IsFalse}
use Rattle.std.specs.List.{list_any}
use Rattle.std.proofs.lemmas.Bool.{le-leb, lt-leb, leb-true, leb-false, ltb-false, true≢false}
use Rattle.board_core.specs.declared.parts.Parts.{Parts}
use Rattle.board_core.specs.Position.{IsPosition}
use Rattle.board_core.specs.ComputedMoves.{count_of_men}
use Rattle.place_index.specs.Covered.{FewMenHaveTables}
use Rattle.table_file.specs.declared.kind.TableKind.TheVariants.{Dtz}
use Rattle.table_file.specs.declared.outcome.Outcome.{Outcome}
use Rattle.table_file.specs.Tables.{Contents}
use Rattle.table_file.specs.Distances.{stores}
use Rattle.judge_core.specs.declared.distance.Distance.TheVariants.{Draw, Loss}
use Rattle.judge_core.specs.declared.fault.ValueFault.{ValueFault}
use Rattle.judge_core.specs.declared.fault.ValueFault.TheVariants.{Damaged}
use Rattle.judge_core.specs.declared.found.CaptureSearch.{CaptureSearch}
use Rattle.judge_core.specs.Values.{outcome_of}
use Rattle.judge_core.specs.LookUp.{material_of, placed_of}
use Rattle.judge_core.specs.Tables.{Tables, table_at, part_asked}
use Rattle.judge_core.specs.Asked.{fault_in, unless}
use Rattle.judge_core.specs.Probing.{searched_by, wdl_of, worth}
use Rattle.board_core.specs.Castling.{has_any_right}
use Rattle.judge_core.specs.Ruling.{is_out_of_scope}
use Rattle.judge_core.specs.Distances.{Reach, is_won, zeroing, towards, is_by_capture, pawns_reach, unless_reached, least, greatest_count, is_odd, won_in, by_counts, by_quiet_moves, distance_in, by_table, by_material, stored_distance, by_own_table, by_moves, by_outcome, dtz_from_search, dtz_by, dtz_of}
use Rattle.judge_core.specs.FiveRules.{IsSearched, IsDecided, IsLeftToTables, IsOwnTable, IsLeftToMoves, IsDistance, counts_after, DistanceByFiveRules}
use Rattle.judge_core.specs.FiveRules.IsDistance.{unknown, bare, drawn, capture, pawn_unknown, pawn, no_table, no_number, stored as by_number, move_unknown, no_winner, won, no_loser, lost}
use Rattle.judge_core.proofs.LookUp.{material_found}
use Rattle.judge_core.proofs.TwoSteps.{in_scope}

-- ---- what the code's definition says is given by a rule

module _ (tables : Tables) (reach : Parts → Reach) (p : Parts) where
  module _ (key : ℕ) (outcome : Outcome) (left : IsLeftToMoves tables p outcome key) (whole : fault_in (counts_after reach p outcome) ≡ None) where
    by_least : IsTrue (is_won outcome) → (n : Option ℕ) → least (counts_after reach p outcome) ≡ n → IsDistance tables reach p (won_in key n)
    by_least w None e = no_winner left whole w e
    by_least w (Some n) e = won left whole w e

    by_greatest : IsFalse (is_won outcome) → (b : Bool) → list_any is_odd (counts_after reach p outcome) ≡ b → IsDistance tables reach p (if b then Err (Damaged key) else Ok (Loss (greatest_count (zeroing outcome) (counts_after reach p outcome))))
    by_greatest l true e = no_loser left whole l e
    by_greatest l false e = lost left whole l e

    by_numbers : (b : Bool) → is_won outcome ≡ b → IsDistance tables reach p (if b then won_in key (least (counts_after reach p outcome)) else if list_any is_odd (counts_after reach p outcome) then Err (Damaged key) else Ok (Loss (greatest_count (zeroing outcome) (counts_after reach p outcome))))
    by_numbers true e = by_least e (least (counts_after reach p outcome)) refl
    by_numbers false e = by_greatest e (list_any is_odd (counts_after reach p outcome)) refl

  by_fault : (key : ℕ) (outcome : Outcome) → IsLeftToMoves tables p outcome key → (f : Option ValueFault) → fault_in (counts_after reach p outcome) ≡ f → IsDistance tables reach p (unless f (by_counts key outcome (counts_after reach p outcome)))
  by_fault key outcome left (Some fault) e = move_unknown left e
  by_fault key outcome left None e = by_numbers key outcome left e (is_won outcome) refl

  by_moves_left : (key : ℕ) (outcome : Outcome) → IsLeftToMoves tables p outcome key → IsDistance tables reach p (by_quiet_moves key outcome reach p)
  unfolding by_quiet_moves
  by_moves_left key outcome left = by_fault key outcome left (fault_in (counts_after reach p outcome)) refl

  module _ (w : CaptureSearch) (outcome : Outcome) (left : IsLeftToTables tables p w outcome) (key : ℕ) (m : material_of p ≡ Some key) where
    by_found : (t : Contents) → IsOwnTable tables p key t true → (n : Option ℕ) → distance_in t (placed_of key p) outcome ≡ n → IsDistance tables reach p (stored_distance key outcome n)
    by_found t own None e = no_number left own e
    by_found t own (Some n) e = by_number left own e

    by_side : (t : Contents) → table_at tables Dtz key ≡ Some t → (b : Bool) → stores (part_asked t (placed_of key p)) ≡ b → IsDistance tables reach p (if b then stored_distance key outcome (distance_in t (placed_of key p) outcome) else by_quiet_moves key outcome reach p)
    by_side t at true e = by_found t (record { material = m; table = at; stored = e }) (distance_in t (placed_of key p) outcome) refl
    by_side t at false e = by_moves_left key outcome (record { w = w; left = left; t = t; own = record { material = m; table = at; stored = e } })

    by_there : (o : Option Contents) → table_at tables Dtz key ≡ o → IsDistance tables reach p (by_table o key reach p outcome)
    by_there None e = no_table left m e
    by_there (Some t) e = by_side t e (stores (part_asked t (placed_of key p))) refl

  module _ (covered : 2 < count_of_men p → (key : ℕ) × (material_of p ≡ Some key)) where
    by_own : (w : CaptureSearch) (outcome : Outcome) → IsLeftToTables tables p w outcome → IsDistance tables reach p (by_own_table tables reach p outcome)
    unfolding by_own_table
    by_own w outcome left = by_key (material_of p) refl
      where
        by_key : (o : Option ℕ) → material_of p ≡ o → IsDistance tables reach p (by_material tables o reach p outcome)
        by_key None e = let found = covered left.decided.searched.men in let clash : None ≡ Some found.0 = sym e ∙ found.1 in absurd (cc)
        by_key (Some key) e = by_there w outcome left key e (table_at tables Dtz key) refl

    by_reached : (w : CaptureSearch) (outcome : Outcome) → IsDecided tables p w outcome → IsFalse (is_by_capture w) → IsTrue (is_won outcome) → (r : Result Bool ValueFault) → pawns_reach tables p (worth w) ≡ r → IsDistance tables reach p (unless_reached r outcome (by_own_table tables reach p outcome))
    by_reached w outcome d c wins (Err fault) e = pawn_unknown d c wins e
    by_reached w outcome d c wins (Ok true) e = pawn d c wins e
    by_reached w outcome d c wins (Ok false) e = by_own w outcome (record { decided = d; no_capture = c; no_pawn = λ t. e })

    by_kind : (w : CaptureSearch) (outcome : Outcome) → IsDecided tables p w outcome → IsFalse (is_by_capture w) → (b : Bool) → is_won outcome ≡ b → IsDistance tables reach p (if b then unless_reached (pawns_reach tables p (worth w)) outcome (by_own_table tables reach p outcome) else by_own_table tables reach p outcome)
    by_kind w outcome d c true e = by_reached w outcome d c e (pawns_reach tables p (worth w)) refl
    by_kind w outcome d c false e = by_own w outcome (record { decided = d; no_capture = c; no_pawn = λ t. absurd (true≢false (sym t ∙ e)) })

    by_pawns : (w : CaptureSearch) (outcome : Outcome) → IsDecided tables p w outcome → IsFalse (is_by_capture w) → IsDistance tables reach p (by_moves tables reach p (worth w) outcome)
    unfolding by_moves
    by_pawns w outcome d c = by_kind w outcome d c (is_won outcome) refl

    by_captures : (w : CaptureSearch) (outcome : Outcome) → IsDecided tables p w outcome → (b : Bool) → is_by_capture w ≡ b → IsDistance tables reach p (if b then Ok (towards outcome (zeroing outcome)) else by_moves tables reach p (worth w) outcome)
    by_captures w outcome d true e = capture d e
    by_captures w outcome d false e = by_pawns w outcome d e

    by_worth : (w : CaptureSearch) → IsSearched tables p (Ok w) → (o : Option Outcome) → outcome_of (worth w) ≡ o → IsDistance tables reach p (by_outcome tables reach p w o)
    by_worth w searched None e = drawn searched e
    by_worth w searched (Some outcome) e = by_captures w outcome (record { searched = searched; decided = e }) (is_by_capture w) refl

    by_value : (r : Result CaptureSearch ValueFault) → IsSearched tables p r → IsDistance tables reach p (dtz_from_search tables reach p r)
    by_value (Err fault) searched = unknown searched
    by_value (Ok w) searched = by_worth w searched (outcome_of (worth w)) refl

    by_men : (b : Bool) → nat_le (count_of_men p) 2 ≡ b → IsDistance tables reach p (if b then Ok Draw else dtz_from_search tables reach p (searched_by tables (wdl_of tables) p))
    by_men true e = bare (leb-true (count_of_men p) 2 e)
    by_men false e = by_value (searched_by tables (wdl_of tables) p) (record { men = leb-false (count_of_men p) 2 e; searched = refl })

    is_given : IsDistance tables reach p (dtz_by tables reach p)
    is_given = by_men (nat_le (count_of_men p) 2) refl

  -- ---- what a rule gives is what the code's definition says

  searched_is : (r : Result CaptureSearch ValueFault) → IsSearched tables p r → dtz_by tables reach p ≡ dtz_from_search tables reach p r
  searched_is r w = rw (lt-leb (count_of_men p) 2 w.men, w.searched) refl

  decided_is : (w : CaptureSearch) (outcome : Outcome) → IsDecided tables p w outcome → dtz_by tables reach p ≡ by_outcome tables reach p w (Some outcome)
  decided_is w outcome d = searched_is (Ok w) d.searched ∙ rw d.decided refl

  kept_is : (w : CaptureSearch) (outcome : Outcome) → IsDecided tables p w outcome → IsFalse (is_by_capture w) → dtz_by tables reach p ≡ by_moves tables reach p (worth w) outcome
  kept_is w outcome d c = decided_is w outcome d ∙ rw c refl

  reached_is : (w : CaptureSearch) (outcome : Outcome) (r : Result Bool ValueFault) → IsTrue (is_won outcome) → pawns_reach tables p (worth w) ≡ r → by_moves tables reach p (worth w) outcome ≡ unless_reached r outcome (by_own_table tables reach p outcome)
  unfolding by_moves
  reached_is w outcome r wins e = rw (wins, e) refl

  own_is : (w : CaptureSearch) (outcome : Outcome) → IsLeftToTables tables p w outcome → dtz_by tables reach p ≡ by_own_table tables reach p outcome
  unfolding by_moves
  own_is w outcome left = kept_is w outcome left.decided left.no_capture ∙ by_outcome_kind (is_won outcome) refl
    where
      by_outcome_kind : (b : Bool) → is_won outcome ≡ b → by_moves tables reach p (worth w) outcome ≡ by_own_table tables reach p outcome
      by_outcome_kind true e = rw (e, left.no_pawn e) refl
      by_outcome_kind false e = rw e refl

  table_is : (outcome : Outcome) (key : ℕ) (o : Option Contents) → material_of p ≡ Some key → table_at tables Dtz key ≡ o → by_own_table tables reach p outcome ≡ by_table o key reach p outcome
  unfolding by_own_table
  table_is outcome key o m e = rw (m, e) refl

  stored_is : (w : CaptureSearch) (outcome : Outcome) (key : ℕ) (t : Contents) (n : Option ℕ) → IsLeftToTables tables p w outcome → IsOwnTable tables p key t true → distance_in t (placed_of key p) outcome ≡ n → dtz_by tables reach p ≡ stored_distance key outcome n
  stored_is w outcome key t n left own e = own_is w outcome left ∙ table_is outcome key (Some t) own.material own.table ∙ rw (own.stored, e) refl

  pub moves_are : (outcome : Outcome) (key : ℕ) (f : Option ValueFault) → IsLeftToMoves tables p outcome key → fault_in (counts_after reach p outcome) ≡ f → dtz_by tables reach p ≡ unless f (by_counts key outcome (counts_after reach p outcome))
  unfolding by_quiet_moves
  moves_are outcome key f left e = own_is left.w outcome left.left ∙ table_is outcome key (Some left.t) left.own.material left.own.table ∙ rw (left.own.stored, e) refl

  is_told : (r : Reach) → IsDistance tables reach p r → dtz_by tables reach p ≡ r
  is_told r (unknown {fault = fault} w) = searched_is (Err fault) w
  is_told r (bare few) = rw (le-leb (count_of_men p) 2 few) refl
  is_told r (drawn {w = w} searched e) = searched_is (Ok w) searched ∙ rw e refl
  is_told r (capture {w = w} {outcome = outcome} d c) = decided_is w outcome d ∙ rw c refl
  is_told r (pawn_unknown {w = w} {outcome = outcome} {fault = fault} d c wins e) = kept_is w outcome d c ∙ reached_is w outcome (Err fault) wins e
  is_told r (pawn {w = w} {outcome = outcome} d c wins e) = kept_is w outcome d c ∙ reached_is w outcome (Ok true) wins e
  is_told r (no_table {w = w} {outcome = outcome} {key = key} left m e) = own_is w outcome left ∙ table_is outcome key None m e
  is_told r (no_number {w = w} {outcome = outcome} {key = key} {t = t} left own e) = stored_is w outcome key t None left own e
  is_told r (by_number {w = w} {outcome = outcome} {key = key} {n = n} {t = t} left own e) = stored_is w outcome key t (Some n) left own e
  is_told r (move_unknown {outcome = outcome} {key = key} {fault = fault} left e) = moves_are outcome key (Some fault) left e
  is_told r (no_winner {outcome = outcome} {key = key} left e wins n) = moves_are outcome key None left e ∙ rw (wins, n) refl
  is_told r (won {outcome = outcome} {key = key} left e wins n) = moves_are outcome key None left e ∙ rw (wins, n) refl
  is_told r (no_loser {outcome = outcome} {key = key} left e loses odd) = moves_are outcome key None left e ∙ rw (loses, odd) refl
  is_told r (lost {outcome = outcome} {key = key} left e loses odd) = moves_are outcome key None left e ∙ rw (loses, odd) refl

-- ---- in scope each position of more than two men has a material

few_enough : (p : Parts) → is_out_of_scope p ≡ false → count_of_men p ≤ 5
unfolding is_out_of_scope
few_enough p e = by_right (has_any_right p.rights) e
  where
    by_right : (a : Bool) → (a || nat_lt 5 (count_of_men p)) ≡ false → count_of_men p ≤ 5
    by_right true h = absurd (true≢false h)
    by_right false h = ltb-false 5 (count_of_men p) h

has_key : FewMenHaveTables → (p : Parts) → IsPosition p → is_out_of_scope p ≡ false → 2 < count_of_men p → (key : ℕ) × (material_of p ≡ Some key)
has_key tables p position scope many =
    let few = few_enough p scope in
    let found = tables.0 p position (omega (arith, many)) few in
    (found.0, sym (material_found p found.0 found.1 found.2))

pub by_five_rules : FewMenHaveTables → DistanceByFiveRules
by_five_rules few tables p r filed position scope =
    let meets = in_scope tables p filed position scope in (
      (λ given. meets ∙ is_told tables (dtz_of tables) p r given),
      (λ e. subst (IsDistance tables (dtz_of tables) p) (sym meets ∙ e) (is_given tables (dtz_of tables) p (has_key few p position scope))),
    )
