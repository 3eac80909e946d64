-- Distances of a set that stay the same with more tables, unless they miss one of these.
use Rattle.std.proofs.Common.{◌≡◌, ◌∙◌, sym, ap, subst, refl, ℕ, zero, suc, ◌<◌, nat_le, Bool, true, false, ◌&&◌, List, [], ◌++◌, Option, Some, None, filter, if◌then◌else◌, Result, Ok, Err}
use Rattle.std.specs.List.{list_any}
use Rattle.std.proofs.lemmas.List.{append-nil}
use Rattle.board_core.specs.declared.parts.Parts.{Parts}
use Rattle.board_core.specs.declared.moves.Move.{Move}
use Rattle.board_core.specs.ComputedMoves.{legal_moves, count_of_men}
use Rattle.table_file.specs.declared.kind.TableKind.TheVariants.{Dtz}
use Rattle.table_file.specs.declared.outcome.Outcome.{Outcome}
use Rattle.table_file.specs.Tables.{Contents}
use Rattle.table_file.specs.Distances.{stores}
use Rattle.judge_core.specs.declared.distance.Distance.TheVariants.{Draw, Loss}
use Rattle.judge_core.specs.declared.wdl.Wdl.{Wdl as Value}
use Rattle.judge_core.specs.declared.fault.ValueFault.{ValueFault}
use Rattle.judge_core.specs.declared.fault.ValueFault.TheVariants.{NotCovered, Damaged}
use Rattle.judge_core.specs.declared.found.CaptureSearch.{CaptureSearch}
use Rattle.judge_core.specs.Values.{opposite_reading, outcome_of}
use Rattle.judge_core.specs.LookUp.{material_of, placed_of}
use Rattle.judge_core.specs.Tables.{Tables, table_at, table_value, part_asked}
use Rattle.judge_core.specs.Asked.{asked, not_covered, fault_in, unless}
use Rattle.judge_core.specs.Probing.{searched_by, wdl_of, worth}
use Rattle.board_core.specs.Ends.{is_checkmate}
use Rattle.judge_core.specs.Distances.{Reach, zeroing, towards, is_won, is_value, is_by_capture, is_pawn_step, is_quiet, is_odd, pawns_reach_where, pawns_reach, distance_before, move_counts, least, greatest_count, won_in, by_counts, by_quiet_moves, stored_distance, distance_in, by_table, by_material, by_own_table, unless_reached, by_moves, by_outcome, dtz_from_search, dtz_by, dtz_to, dtz_of}
use Rattle.judge_core.proofs.TwoSteps.{known_key}
use Rattle.judge_core.proofs.Firm.{OnlyWdl, Either, Under, IsFirm, under_map, under_both, firm_same, firm_const, firm_map, firm_bind, firm_unless, list_firm, agreed_all, turned, own_firm, searched_firm, wdl_firm}

no_missed_count : (key : ℕ) (outcome : Outcome) (counts : List (Result (Option ℕ) ValueFault)) → not_covered (by_counts key outcome counts) ≡ None
no_missed_count key outcome counts = by_end (is_won outcome) (list_any is_odd counts)
  where
    by_least : (o : Option ℕ) → not_covered (won_in key o) ≡ None
    by_least None = refl
    by_least (Some n) = refl

    by_end : (won odd : Bool) → not_covered (if won then won_in key (least counts) else if odd then Err (Damaged key) else Ok (Loss (greatest_count (zeroing outcome) counts))) ≡ None
    by_end true odd = by_least (least counts)
    by_end false true = refl
    by_end false false = refl

not_missed : (key : ℕ) (outcome : Outcome) (o : Option ℕ) → not_covered (stored_distance key outcome o) ≡ None
not_missed key outcome None = refl
not_missed key outcome (Some n) = refl

before_kept : (won : Bool) (r : Reach) → not_covered (distance_before won r) ≡ not_covered r
before_kept won (Ok d) = refl
before_kept won (Err (NotCovered key)) = refl
before_kept won (Err (Damaged key)) = refl

module _ (tables : Tables) where
  widened : (o : Option ℕ) (Claim : Tables → Type 0) → Under tables OnlyWdl o Claim → Under tables Either o Claim
  widened None Claim h = h
  widened (Some key) Claim h = record { kind = h.kind; asked = tt; known = h.known; lacks = h.lacks; stays = h.stays }

  wide_firm : {X : Type 0} (a : Tables → Result X ValueFault) → IsFirm tables OnlyWdl a → IsFirm tables Either a
  wide_firm a h = widened (not_covered (a tables)) (λ more. a more ≡ a tables) h

  pub value_firm : (p : Parts) → IsFirm tables Either (λ t. wdl_of t p)
  value_firm p = wide_firm (λ t. wdl_of t p) (wdl_firm tables p)

  pub after_firm : (p : Parts) → IsFirm tables Either (λ t. opposite_reading (wdl_of t p))
  after_firm p = firm_map tables Either opposite_reading (λ t. wdl_of t p) (turned (wdl_of tables p)) (value_firm p)

  -- what is made of the answers after some moves
  firm_all : {X Y : Type 0} (say : Tables → Parts → Result X ValueFault) (firm : (q : Parts) → IsFirm tables Either (λ t. say t q)) (p : Parts) (ms : List Move) (x : List (Result X ValueFault) → Result Y ValueFault)
      → not_covered (x (asked (say tables) p ms)) ≡ None → IsFirm tables Either (λ t. unless (fault_in (asked (say t) p ms)) (x (asked (say t) p ms)))
  firm_all {X = X} say firm p ms x none =
      let nothing : Tables → List (Result X ValueFault) = λ t. [] in
      firm_same tables Either (λ t. unless (fault_in (asked (say t) p ms ++ [])) (x (asked (say t) p ms))) (λ t. unless (fault_in (asked (say t) p ms)) (x (asked (say t) p ms)))
      (λ t. ap (λ (rs : List (Result X ValueFault)). unless (fault_in rs) (x (asked (say t) p ms))) (append-nil (asked (say t) p ms)))
      (firm_unless tables Either say firm p nothing ms (λ t. x (asked (say t) p ms)) (list_firm tables Either say firm p nothing (λ more all. (tt, refl)) ms) none (λ more agree last. ap x (agreed_all tables Either say firm p nothing more ms agree)))

  searched_by_firm : (p : Parts) → IsFirm tables Either (λ t. searched_by t (wdl_of t) p)
  unfolding searched_by
  searched_by_firm p = searched_firm tables Either (λ t. table_value t) (λ t. wdl_of t) p value_firm (wide_firm (λ t. table_value t p) (own_firm tables p))

  pawns_firm : (p : Parts) (v : Value) → IsFirm tables Either (λ t. pawns_reach t p v)
  unfolding pawns_reach_where
  pawns_firm p v = firm_all (λ t q. opposite_reading (wdl_of t q)) after_firm p (filter (is_pawn_step p) (legal_moves p)) (λ steps. Ok (list_any (is_value v) steps)) refl

  module _ (reach : Tables → Parts → Reach) (reaches : (q : Parts) → IsFirm tables Either (λ t. reach t q)) where
    counts_firm : (outcome : Outcome) (q : Parts) → IsFirm tables Either (λ t. move_counts outcome (reach t) q)
    unfolding move_counts
    counts_firm outcome q = by_mate (is_won outcome && is_checkmate q)
      where
        by_mate : (b : Bool) → IsFirm tables Either (λ t. if b then Ok (Some 1) else distance_before (is_won outcome) (reach t q))
        by_mate true = λ more all. refl
        by_mate false = firm_map tables Either (distance_before (is_won outcome)) (λ t. reach t q) (before_kept (is_won outcome) (reach tables q)) (reaches q)

    quiet_firm : (key : ℕ) (outcome : Outcome) (p : Parts) → IsFirm tables Either (λ t. by_quiet_moves key outcome (reach t) p)
    unfolding by_quiet_moves
    quiet_firm key outcome p =
        firm_all (λ t. move_counts outcome (reach t)) (counts_firm outcome) p (filter (is_quiet p) (legal_moves p)) (by_counts key outcome)
        (no_missed_count key outcome (asked (move_counts outcome (reach tables)) p (filter (is_quiet p) (legal_moves p))))

    module _ (p : Parts) (outcome : Outcome) where
      -- a table that is there
      there_firm : (key : ℕ) (t : Contents) → IsFirm tables Either (λ set. by_table (Some t) key (reach set) p outcome)
      there_firm key t = by_side (stores (part_asked t (placed_of key p)))
        where
          by_side : (b : Bool) → IsFirm tables Either (λ set. if b then stored_distance key outcome (distance_in t (placed_of key p) outcome) else by_quiet_moves key outcome (reach set) p)
          by_side true =
              let r = stored_distance key outcome (distance_in t (placed_of key p) outcome) in
              firm_const tables Either r (not_missed key outcome (distance_in t (placed_of key p) outcome))
          by_side false = quiet_firm key outcome p

      by_table_firm : (key : ℕ) → key < 145 → (o : Option Contents) → table_at tables Dtz key ≡ o → IsFirm tables Either (λ t. by_table (table_at t Dtz key) key (reach t) p outcome)
      by_table_firm key known None e =
          subst (λ (o : Option Contents). Under tables Either (not_covered (by_table o key (reach tables) p outcome)) (λ more. by_table (table_at more Dtz key) key (reach more) p outcome ≡ by_table o key (reach tables) p outcome)) (sym e) (record {
            kind = Dtz;
            asked = tt;
            known = known;
            lacks = e;
            stays = λ more all none. rw none refl;
          })
      by_table_firm key known (Some t) e =
          let said : Tables → Reach = λ set. by_table (Some t) key (reach set) p outcome in
          let i = not_covered (said tables) in
          subst (λ (o : Option Contents). Under tables Either (not_covered (by_table o key (reach tables) p outcome)) (λ more. by_table (table_at more Dtz key) key (reach more) p outcome ≡ by_table o key (reach tables) p outcome)) (sym e)
          (under_map tables Either i (λ more. (table_at more Dtz key ≡ Some t) × (said more ≡ said tables)) (λ more. by_table (table_at more Dtz key) key (reach more) p outcome ≡ said tables)
          (λ more both. ap (λ (o : Option Contents). by_table o key (reach more) p outcome) both.0 ∙ both.1)
          (under_both tables Either i (λ more. table_at more Dtz key ≡ Some t) (λ more. said more ≡ said tables) (λ more all. all Dtz key t e) (there_firm key t)))

      own_table_firm : IsFirm tables Either (λ t. by_own_table t (reach t) p outcome)
      unfolding by_own_table
      own_table_firm = by_key (material_of p) refl
        where
          by_key : (o : Option ℕ) → material_of p ≡ o → IsFirm tables Either (λ t. by_material t o (reach t) p outcome)
          by_key None e = λ more all. refl
          by_key (Some key) e = by_table_firm key (known_key p key e) (table_at tables Dtz key) refl

      moves_firm : (v : Value) → IsFirm tables Either (λ t. by_moves t (reach t) p v outcome)
      unfolding by_moves
      moves_firm v = by_side (is_won outcome)
        where
          reached : (b : Bool) → IsFirm tables Either (λ t. unless_reached (Ok b) outcome (by_own_table t (reach t) p outcome))
          reached true = λ more all. refl
          reached false = own_table_firm

          by_side : (b : Bool) → IsFirm tables Either (λ t. if b then unless_reached (pawns_reach t p v) outcome (by_own_table t (reach t) p outcome) else by_own_table t (reach t) p outcome)
          by_side true = firm_bind tables Either (λ t r. unless_reached r outcome (by_own_table t (reach t) p outcome)) (λ t. pawns_reach t p v) (λ t fault. refl) reached (pawns_firm p v)
          by_side false = own_table_firm

    outcome_firm : (p : Parts) (w : CaptureSearch) (o : Option Outcome) → IsFirm tables Either (λ t. by_outcome t (reach t) p w o)
    outcome_firm p w None = λ more all. refl
    outcome_firm p w (Some outcome) = by_case (is_by_capture w)
      where
        by_case : (b : Bool) → IsFirm tables Either (λ t. if b then Ok (towards outcome (zeroing outcome)) else by_moves t (reach t) p (worth w) outcome)
        by_case true = λ more all. refl
        by_case false = moves_firm p outcome (worth w)

    rules_firm : (p : Parts) → IsFirm tables Either (λ t. dtz_by t (reach t) p)
    rules_firm p = by_men (nat_le (count_of_men p) 2)
      where
        by_men : (b : Bool) → IsFirm tables Either (λ t. if b then Ok Draw else dtz_from_search t (reach t) p (searched_by t (wdl_of t) p))
        by_men true = λ more all. refl
        by_men false =
            firm_bind tables Either (λ t w. dtz_from_search t (reach t) p w) (λ t. searched_by t (wdl_of t) p) (λ t fault. refl) (λ w. outcome_firm p w (outcome_of (worth w))) (searched_by_firm p)

  reach_firm : (n : ℕ) (p : Parts) → IsFirm tables Either (λ t. dtz_to t n p)
  unfolding dtz_to
  reach_firm zero p = λ more all. refl
  reach_firm (suc n) p = rules_firm (λ t. dtz_to t n) (reach_firm n) p

  pub dtz_firm : (p : Parts) → IsFirm tables Either (λ t. dtz_of t p)
  unfolding dtz_of
  dtz_firm p = reach_firm 2 p
