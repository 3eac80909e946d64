-- A distance that the own table tells, where that alone is left.
use Rattle.std.proofs.Common.{◌≡◌, ◌∙◌, inl, inr, sym, ap, refl, nat_le, ◌<◌, ◌≤◌, Bool, true, false, not, ◌&&◌, ◌||◌, cond, Option, Some, None, Result, Ok, Err, arith}
use Rattle.std.specs.Result.{result_ok}
use Rattle.std.proofs.lemmas.Bool.{le-leb, lt-leb, leb-false, false≢true}
use Rattle.board_core.specs.declared.parts.Parts.{Parts}
use Rattle.board_core.specs.declared.moves.Move.{Move}
use Rattle.board_core.specs.Position.{IsPosition}
use Rattle.board_core.specs.ComputedMoves.{position_after, count_of_men}
use Rattle.table_file.specs.declared.outcome.Outcome.{Outcome}
use Rattle.judge_core.specs.declared.distance.Distance.{Distance}
use Rattle.judge_core.specs.declared.distance.Distance.TheVariants.{Draw as NoDistance}
use Rattle.judge_core.specs.declared.fault.ValueFault.{ValueFault}
use Rattle.judge_core.specs.declared.found.CaptureSearch.{CaptureSearch}
use Rattle.judge_core.specs.Values.{outcome_of}
use Rattle.judge_core.specs.Tables.{Tables, table_value}
use Rattle.judge_core.specs.Probing.{searched_by, wdl_of, worth}
use Rattle.judge_core.specs.Distances.{Reach, is_won, is_by_capture, is_quiet, pawns_reach_where, unless_reached, by_own_table, by_moves, dtz_by, dtz_to}
use Rattle.judge_core.specs.Determined.{IsCompletedBy, IsDeterminedDistance, IsOutOfReach, IsToldAfter, IsDistanceByOwnTable}
use Rattle.judge_core.specs.Inside.Determined.{distance_in_both, extreme_searched, or_agreed_distance, reach_after, pawns_reach_in_some, is_missed, outcome_left, outcome_left_in, by_table_told, distance_by_own_table}
use Rattle.judge_core.proofs.Rule.{still}
use Rattle.judge_core.proofs.Kept.{Keeps, own_table_kept, kept_in, searched_is, strict_searched}
use Rattle.judge_core.proofs.Zeroing.{IsMany, opened, told_by}
use Rattle.judge_core.proofs.ByValue.{by_value}
use Rattle.judge_core.proofs.ValueTold.{by_value_told}
use Rattle.judge_core.proofs.OutOfReach.{from_missed, to_missed}

-- ---- after a quiet move

-- one position is visited
visited : (tables : Tables) (q : Parts) → dtz_to tables 1 q ≡ dtz_by tables (dtz_to tables 0) q
unfolding dtz_to
visited tables q = refl

-- bare kings have a distance
never_few : (tables : Tables) (q : Parts) (fault : ValueFault) → dtz_to tables 1 q ≡ Err fault → IsMany q
never_few tables q fault e = step (nat_le (count_of_men q) 2) refl
  where
    step : (t : Bool) → nat_le (count_of_men q) 2 ≡ t → nat_le (count_of_men q) 2 ≡ false
    step true et = absurd (let none : Ok NoDistance ≡ Err fault = sym (visited tables q ∙ rw et refl) ∙ e in cc)
    step false et = et

pub told_after : (tables : Tables) (q : Parts) (d : Distance) → IsPosition q → reach_after tables q ≡ Ok d → IsToldAfter tables q d
unfolding reach_after
told_after tables q d position e = step (dtz_to tables 1 q) refl (distance_in_both tables q) refl e
  where
    step : (r : Reach) → dtz_to tables 1 q ≡ r → (o : Option Distance) → distance_in_both tables q ≡ o → or_agreed_distance r o ≡ Ok d → IsToldAfter tables q d
    step (Ok c) er o eo e = inl (er ∙ e)
    step (Err fault) er None eo e = absurd (cc)
    step (Err fault) er (Some c) eo e =
        let same : c ≡ d = cc in
        inr (by_value tables q position (never_few tables q fault er) (extreme_searched tables true q) (extreme_searched tables false q) refl refl d (eo ∙ ap (λ (y : Distance). Some y) same))

-- every set with more tables tells it too
after_kept : (tables more : Tables) → IsCompletedBy tables more → (q : Parts) → IsPosition q → Keeps (reach_after tables q) (dtz_to more 1 q)
unfolding reach_after
after_kept tables more c q position d e = step (dtz_to tables 1 q) refl (distance_in_both tables q) refl e
  where
    step : (r : Reach) → dtz_to tables 1 q ≡ r → (o : Option Distance) → distance_in_both tables q ≡ o → or_agreed_distance r o ≡ Ok d → dtz_to more 1 q ≡ Ok d
    step (Ok x) er o eo e = kept_in tables more c 1 q position d (er ∙ e)
    step (Err fault) er None eo e = absurd (cc)
    step (Err fault) er (Some x) eo e =
        let same : x ≡ d = cc in
        visited more q
        ∙ told_by tables q position (never_few tables q fault er) (extreme_searched tables true q) (extreme_searched tables false q) refl refl d (eo ∙ ap (λ (y : Distance). Some y) same) more c (dtz_to more 0)

told_there : (tables : Tables) (q : Parts) → IsPosition q → (d : Distance) → IsToldAfter tables q d → reach_after tables q ≡ Ok d
unfolding reach_after
told_there tables q position d (inl e) = rw e refl
told_there tables q position d (inr by) = ap (λ (r : Reach). or_agreed_distance r (distance_in_both tables q)) (visited tables q) ∙ by_value_told tables q position (dtz_to tables 0) d by

-- ---- what is left to the own table

ok_of : (r : Reach) (d : Distance) → result_ok r ≡ Some d → r ≡ Ok d
ok_of (Ok x) d e = (let same : x ≡ d = cc in ap (λ (y : Distance). Ok y) same)
ok_of (Err fault) d e = absurd (cc)

module _ (tables : Tables) (p : Parts) (position : IsPosition p) where
  module _ (d : Distance) (many : 2 < count_of_men p) (w : CaptureSearch) (there : searched_by tables (wdl_of tables) p ≡ Ok w) where
    left : (outcome : Outcome) → outcome_of (worth w) ≡ Some outcome → is_by_capture w ≡ false → (is_won outcome ≡ true → IsOutOfReach tables p (worth w)) → by_table_told tables p (Some outcome) ≡ Some d → IsDistanceByOwnTable tables p d
    left outcome eo ec none e = record {
      outcome = outcome;
      left = record { many = many; searched = w; there = there; decided = eo; no_capture = ec; no_pawn_move = none };
      reach = reach_after tables;
      told = λ m q c quiet leads e. told_after tables q c (still p q m position leads) e;
      is = ok_of (by_own_table tables (reach_after tables) p outcome) d e;
    }

    by_outcome_left : (outcome : Outcome) → outcome_of (worth w) ≡ Some outcome → (captures won missed : Bool) → is_by_capture w ≡ captures → is_won outcome ≡ won → is_missed (pawns_reach_in_some tables p (worth w)) ≡ missed
        → by_table_told tables p (cond (captures || (won && not missed)) None (Some outcome)) ≡ Some d → IsDistanceByOwnTable tables p d
    by_outcome_left outcome eo true won missed ec ew em e = absurd (cc)
    by_outcome_left outcome eo false true false ec ew em e = absurd (cc)
    by_outcome_left outcome eo false true true ec ew em e = left outcome eo ec (λ is. from_missed tables p position (worth w) em) e
    by_outcome_left outcome eo false false missed ec ew em e = left outcome eo ec (λ is. absurd (false≢true (sym ew ∙ is))) e

    by_kind : (o : Option Outcome) → outcome_of (worth w) ≡ o → by_table_told tables p (outcome_left tables p w o) ≡ Some d → IsDistanceByOwnTable tables p d
    by_kind None eo e = absurd (cc)
    by_kind (Some outcome) eo e = by_outcome_left outcome eo (is_by_capture w) (is_won outcome) (is_missed (pawns_reach_in_some tables p (worth w))) refl refl refl e

  pub from_own_table : (d : Distance) → distance_by_own_table tables p ≡ Some d → IsDistanceByOwnTable tables p d
  unfolding distance_by_own_table
  from_own_table d e = by_men (nat_le (count_of_men p) 2) refl e
    where
      by_search : 2 < count_of_men p → (r : Result CaptureSearch ValueFault) → searched_by tables (wdl_of tables) p ≡ r → by_table_told tables p (outcome_left_in tables p r) ≡ Some d → IsDistanceByOwnTable tables p d
      by_search many (Ok w) er e = by_kind d many w er (outcome_of (worth w)) refl e
      by_search many (Err fault) er e = absurd (cc)

      by_men : (t : Bool) → nat_le (count_of_men p) 2 ≡ t → cond t None (by_table_told tables p (outcome_left_in tables p (searched_by tables (wdl_of tables) p))) ≡ Some d → IsDistanceByOwnTable tables p d
      by_men true et e = absurd (cc)
      by_men false et e = (let above = leb-false (count_of_men p) 2 et in by_search (omega (arith, above)) (searched_by tables (wdl_of tables) p) refl e)

  module _ (d : Distance) (by : IsDistanceByOwnTable tables p d) where
    -- what the positions after quiet moves have, is told of them
    after_told : (m : Move) (q : Parts) → is_quiet p m ≡ true → position_after p m ≡ Some q → Keeps (by.reach q) (reach_after tables q)
    after_told m q quiet leads c e = told_there tables q (still p q m position leads) c (by.told m q c quiet leads e)

    pub to_own_table : distance_by_own_table tables p ≡ Some d
    unfolding distance_by_own_table
    to_own_table =
        rw (lt-leb (count_of_men p) 2 by.left.many, by.left.there, by.left.decided, by.left.no_capture) (step (is_won by.outcome) refl)
      where
        told : by_table_told tables p (Some by.outcome) ≡ Some d
        told = ap result_ok (own_table_kept by.reach (reach_after tables) p after_told tables tables (λ key t e. e) by.outcome d by.is)

        step : (b : Bool) → is_won by.outcome ≡ b → by_table_told tables p (cond (b && not (is_missed (pawns_reach_in_some tables p (worth by.left.searched)))) None (Some by.outcome)) ≡ Some d
        step true eb = rw (to_missed tables p position (worth by.left.searched) (by.left.no_pawn_move eb)) told
        step false eb = told

    -- every set with more tables asks its own table, which is the same
    module _ (more : Tables) (c : IsCompletedBy tables more) (reach : Parts → Reach) where
      no_pawn_move : is_won by.outcome ≡ true → pawns_reach_where (wdl_of more) p (worth by.left.searched) ≡ Ok false
      unfolding wdl_of
      no_pawn_move won = by.left.no_pawn_move won (table_value more) c.values

      rules_ask : dtz_by more reach p ≡ by_own_table more reach p by.outcome
      unfolding by_moves
      rules_ask =
          let there = searched_is more p ∙ strict_searched tables (table_value more) c.values p position by.left.searched by.left.there in
          rw (lt-leb (count_of_men p) 2 by.left.many, there, by.left.decided, by.left.no_capture) (step (is_won by.outcome) refl)
        where
          step : (b : Bool) → is_won by.outcome ≡ b → cond b (unless_reached (pawns_reach_where (wdl_of more) p (worth by.left.searched)) by.outcome (by_own_table more reach p by.outcome)) (by_own_table more reach p by.outcome) ≡ by_own_table more reach p by.outcome
          step true eb = ap (λ (r : Result Bool ValueFault). unless_reached r by.outcome (by_own_table more reach p by.outcome)) (no_pawn_move eb)
          step false eb = refl

    pub by_own_table_determined : IsDeterminedDistance tables p d
    by_own_table_determined more c =
        opened more p
        ∙ rules_ask more c (dtz_to more 1)
        ∙ own_table_kept by.reach (dtz_to more 1) p (λ m q quiet leads x e. after_kept tables more c q (still p q m position leads) x (after_told m q quiet leads x e)) tables more c.distances by.outcome d by.is

-- ---- the code's steps

pub bare_none : (tables : Tables) (p : Parts) → count_of_men p ≤ 2 → None ≡ distance_by_own_table tables p
unfolding distance_by_own_table
bare_none tables p few = rw (le-leb (count_of_men p) 2 few) refl

pub left_by : (tables : Tables) (p : Parts) (w : Result CaptureSearch ValueFault) (o : Option Outcome) (d : Option Distance) → 2 < count_of_men p → w ≡ searched_by tables (wdl_of tables) p → o ≡ outcome_left_in tables p w → d ≡ by_table_told tables p o → d ≡ distance_by_own_table tables p
unfolding distance_by_own_table
left_by tables p w o d many ew eo ed = rw (lt-leb (count_of_men p) 2 many) (ed ∙ ap (by_table_told tables p) (eo ∙ ap (outcome_left_in tables p) ew))
