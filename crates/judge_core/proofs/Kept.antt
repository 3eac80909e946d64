-- What a set of tables tells, every completion of it tells too.
use Rattle.std.proofs.Common.{◌≡◌, ◌∙◌, sym, ap, refl, ℕ, zero, suc, ◌≤◌, nat_le, Bool, true, false, not, ◌&&◌, cond, List, [], ◌∷◌, ◌++◌, Option, Some, None, option_map, filter, Result, Ok, Err, arith}
use Rattle.std.specs.List.{list_any}
use Rattle.board_core.specs.declared.parts.Parts.{Parts}
use Rattle.board_core.specs.declared.moves.Move.{Move}
use Rattle.board_core.specs.Position.{IsPosition}
use Rattle.board_core.specs.ComputedMoves.{position_after, legal_moves, legal_captures, is_capture, is_en_passant, count_of_men}
use Rattle.board_core.proofs.ComputedMen.{men_of_position}
use Rattle.table_file.specs.declared.kind.TableKind.TheVariants.{Dtz}
use Rattle.table_file.specs.declared.outcome.Outcome.{Outcome}
use Rattle.table_file.specs.Tables.{Contents}
use Rattle.table_file.specs.Distances.{stores}
use Rattle.judge_core.specs.declared.distance.Distance.TheVariants.{Draw as NoDistance}
use Rattle.judge_core.specs.declared.fault.ValueFault.{ValueFault}
use Rattle.judge_core.specs.declared.fault.ValueFault.TheVariants.{NotCovered, Damaged}
use Rattle.judge_core.specs.declared.found.CaptureSearch.{CaptureSearch}
use Rattle.judge_core.specs.declared.wdl.Wdl.{Wdl}
use Rattle.judge_core.specs.declared.wdl.Wdl.TheVariants.{Draw}
use Rattle.judge_core.specs.Values.{Reading, opposite_reading, outcome_of}
use Rattle.judge_core.specs.LookUp.{material_of, placed_of}
use Rattle.judge_core.specs.Tables.{Tables, table_at, table_value, part_asked}
use Rattle.judge_core.specs.Asked.{asked, first, not_covered, missing_or_damaged, fault_in, unless}
use Rattle.judge_core.specs.Probing.{values_after, greatest_value, value_or_loss, is_forced, searched_where, searched_by, wdl_from_search, wdl_where, wdl_of, worth, worth_in}
use Rattle.judge_core.specs.Distances.{Reach, is_won, is_value, is_quiet, is_pawn_step, is_by_capture, distance_before, move_counts, by_counts, by_quiet_moves, by_table, by_material, by_own_table, pawns_reach_where, unless_reached, by_moves, by_outcome, dtz_from_search, zeroing, towards, dtz_by, dtz_to, dtz_of}
use Rattle.board_core.specs.Ends.{is_checkmate}
use Rattle.judge_core.specs.Determined.{Completes, IsCompletion, IsCompletedBy}
use Rattle.judge_core.proofs.Captures.{falls}
use Rattle.judge_core.proofs.Rule.{where_meets_rule, still}

-- ---- answers without a fault

-- the second answers as the first, where that has an answer
abbrev pub Keeps : {X : Type 0} → Result X ValueFault → Result X ValueFault → Type 0
Keeps r s = (x : _) → r ≡ Ok x → s ≡ Ok x

pub unless_ok : {X : Type 0} (o : Option ValueFault) (r : Result X ValueFault) (x : X) → unless o r ≡ Ok x → (o ≡ None) × (r ≡ Ok x)
unless_ok None r x e = (refl, e)
unless_ok (Some fault) r x e = absurd (cc)

pub no_fault_more : {X : Type 0} (r : Result X ValueFault) (rs : List (Result X ValueFault)) → fault_in (r ∷ rs) ≡ None → ((x : X) × (r ≡ Ok x)) × (fault_in rs ≡ None)
no_fault_more (Ok x) rs e = ((x, refl), e)
no_fault_more (Err (NotCovered key)) rs e = absurd (cc)
no_fault_more (Err (Damaged key)) rs e = absurd (by_first (first not_covered rs) e)
  where
    by_first : (o : Option ℕ) → missing_or_damaged o (Some key) ≡ None → ⊥
    by_first None e = cc
    by_first (Some k) e = cc

with_ok : {X : Type 0} (r : Result X ValueFault) (x : X) (rs : List (Result X ValueFault)) → r ≡ Ok x → fault_in rs ≡ None → fault_in (r ∷ rs) ≡ None
with_ok r x rs e h = rw e h

pub last_there : {X : Type 0} (rs : List (Result X ValueFault)) (r : Result X ValueFault) → fault_in (rs ++ r ∷ []) ≡ None → (fault_in rs ≡ None) × ((x : X) × (r ≡ Ok x))
last_there [] r e = (refl, (no_fault_more r [] e).0)
last_there (x ∷ rs) r e =
    let there = no_fault_more x (rs ++ r ∷ []) e in
    let rest = last_there rs r there.1 in
    (with_ok x there.0.0 rs there.0.1 rest.0, rest.1)

module _ {X : Type 0} (say say' : Parts → Result X ValueFault) (p : Parts) (t : Move → Bool) (h : (m : Move) (q : Parts) → t m ≡ true → position_after p m ≡ Some q → Keeps (say q) (say' q)) where
  head_kept : (m : Move) (o : Option Parts) → t m ≡ true → position_after p m ≡ o → (xs : List Move) → fault_in (asked say p (m ∷ xs)) ≡ None → (option_map say o ≡ option_map say' o) × (fault_in (asked say p xs) ≡ None)
  head_kept m None et e xs none = (refl, rw e at none)
  head_kept m (Some q) et e xs none =
      let there = no_fault_more (say q) (asked say p xs) (rw e at none) in
      (ap (λ (r : Result X ValueFault). Some r) (there.0.1 ∙ sym (h m q et e there.0.0 there.0.1)), there.1)

  pub kept_all : (ms : List Move) → fault_in (asked say p (filter t ms)) ≡ None → asked say p (filter t ms) ≡ asked say' p (filter t ms)
  kept_all [] none = refl
  kept_all (m ∷ ms) none = step (kept_all ms) (t m) refl none
    where
      step : (fault_in (asked say p (filter t ms)) ≡ None → asked say p (filter t ms) ≡ asked say' p (filter t ms)) → (b : Bool) → t m ≡ b → fault_in (asked say p (filter t (m ∷ ms))) ≡ None → asked say p (filter t (m ∷ ms)) ≡ asked say' p (filter t (m ∷ ms))
      step rest true et none = (let head = head_kept m (position_after p m) et refl (filter t ms) (rw et at none) in rw (et, head.0, rest head.1) refl)
      step rest false et none = rw et (rest (rw et at none))

  pub kept_some : (test : Move → Bool) (ms : List Move) → fault_in (asked say p (filter t ms)) ≡ None → asked say p (filter test (filter t ms)) ≡ asked say' p (filter test (filter t ms))
  kept_some test [] none = refl
  kept_some test (m ∷ ms) none = step (kept_some test ms) (t m) (test m) refl refl none
    where
      step : (fault_in (asked say p (filter t ms)) ≡ None → asked say p (filter test (filter t ms)) ≡ asked say' p (filter test (filter t ms))) → (b c : Bool) → t m ≡ b → test m ≡ c → fault_in (asked say p (filter t (m ∷ ms))) ≡ None
          → asked say p (filter test (filter t (m ∷ ms))) ≡ asked say' p (filter test (filter t (m ∷ ms)))
      step rest true true et es none = (let head = head_kept m (position_after p m) et refl (filter t ms) (rw et at none) in rw (et, es, head.0, rest head.1) refl)
      step rest true false et es none = (let head = head_kept m (position_after p m) et refl (filter t ms) (rw et at none) in rw (et, es) (rest head.1))
      step rest false c et es none = rw et (rest (rw et at none))

-- ---- values

pub keeps-turned : (r s : Reading) → Keeps r s → Keeps (opposite_reading r) (opposite_reading s)
keeps-turned (Ok u) s k x e = rw (k u refl) e
keeps-turned (Err fault) s k x e = absurd (cc)

-- what is searched, by the readings after captures and by the own table's
abbrev made : Parts → List Reading → List Reading → List Reading → Reading → Result CaptureSearch ValueFault
made p all others passants own = unless (fault_in (all ++ own ∷ [])) (Ok (record {
  capture = greatest_value others;
  passant = greatest_value passants;
  own = value_or_loss own;
  forced = is_forced p;
}))

made_same : (p : Parts) (all all' others others' passants passants' : List Reading) (own own' : Reading) → all ≡ all' → others ≡ others' → passants ≡ passants' → own ≡ own' → made p all' others' passants' own' ≡ made p all others passants own
made_same p all all' others others' passants passants' own own' a b c d = rw (a, b, c, d) refl

pub searched_kept : (f g own own' : Parts → Reading) (p : Parts) → ((m : Move) (q : Parts) → is_capture p m ≡ true → position_after p m ≡ Some q → Keeps (f q) (g q)) → Keeps (own p) (own' p) → Keeps (searched_where own f p) (searched_where own' g p)
unfolding searched_where
searched_kept f g own own' p h k w e =
    let say : Parts → Reading = λ q. opposite_reading (f q) in
    let say' : Parts → Reading = λ q. opposite_reading (g q) in
    let after_each = λ (m : Move) (q : Parts) (c : is_capture p m ≡ true) (a : position_after p m ≡ Some q). keeps-turned (f q) (g q) (h m q c a) in
    let there = last_there (values_after f p (legal_captures p)) (own p) (unless_ok _ _ w e).0 in
    let all : values_after f p (legal_captures p) ≡ values_after g p (legal_captures p) = kept_all say say' p (is_capture p) after_each (legal_moves p) there.0 in
    let other : values_after f p (filter (λ m. not (is_en_passant p m)) (legal_captures p)) ≡ values_after g p (filter (λ m. not (is_en_passant p m)) (legal_captures p)) = kept_some say say' p (is_capture p) after_each (λ m. not (is_en_passant p m)) (legal_moves p) there.0 in
    let passant : values_after f p (filter (is_en_passant p) (legal_captures p)) ≡ values_after g p (filter (is_en_passant p) (legal_captures p)) = kept_some say say' p (is_capture p) after_each (is_en_passant p) (legal_moves p) there.0 in
    let same : own p ≡ own' p = there.1.1 ∙ sym (k there.1.0 there.1.1) in
    made_same p _ _ _ _ _ _ _ _ all other passant same ∙ e

dtz_from_search_kept : (p : Parts) (w w' : Result CaptureSearch ValueFault) → Keeps w w' → Keeps (wdl_from_search p w) (wdl_from_search p w')
dtz_from_search_kept p w w' k = step (nat_le (count_of_men p) 2)
  where
    worth_kept : (w : Result CaptureSearch ValueFault) → Keeps w w' → Keeps (worth_in w) (worth_in w')
    worth_kept (Ok a) k x e = rw (k a refl) e
    worth_kept (Err fault) k x e = absurd (cc)

    step : (b : Bool) → Keeps (cond b (Ok Draw) (worth_in w)) (cond b (Ok Draw) (worth_in w'))
    step true = λ x e. e
    step false = worth_kept w k

own_kept : (r own : Reading) → Completes r own → Keeps r own
own_kept (Ok u) own c x e = c ∙ e
own_kept (Err fault) own c x e = absurd (cc)

module _ (tables : Tables) (own : Parts → Reading) (completes : IsCompletion tables own) where
  kept_to : (n : ℕ) (p : Parts) → IsPosition p → count_of_men p ≤ n → Keeps (searched_where (table_value tables) (wdl_where (table_value tables)) p) (searched_where own (wdl_where own) p)
  kept_to zero p position few = absurd (let two = men_of_position p position in omega arith)
  kept_to (suc n) p position few =
      searched_kept (wdl_where (table_value tables)) (wdl_where own) (table_value tables) own p
      (λ m q c a. (let less = falls p q m position c a in let after = still p q m position a in values q after (kept_to n q after (omega arith))))
      (own_kept (table_value tables p) (own p) (completes p))
    where
      values : (q : Parts) → IsPosition q → Keeps (searched_where (table_value tables) (wdl_where (table_value tables)) q) (searched_where own (wdl_where own) q) → Keeps (wdl_where (table_value tables) q) (wdl_where own q)
      values q after k x e = where_meets_rule own q after ∙ dtz_from_search_kept q _ _ k x (sym (where_meets_rule (table_value tables) q after) ∙ e)

  pub strict_searched : (p : Parts) → IsPosition p → Keeps (searched_by tables (wdl_of tables) p) (searched_where own (wdl_where own) p)
  unfolding searched_by wdl_of
  strict_searched p position = kept_to (count_of_men p) p position (omega arith)

  pub strict_value : (p : Parts) → IsPosition p → Keeps (wdl_of tables p) (wdl_where own p)
  unfolding wdl_of
  strict_value p position x e = where_meets_rule own p position ∙ dtz_from_search_kept p _ _ (kept_to (count_of_men p) p position (omega arith)) x (sym (where_meets_rule (table_value tables) p position) ∙ e)

-- by the tables of a set
pub searched_is : (more : Tables) (p : Parts) → searched_by more (wdl_of more) p ≡ searched_where (table_value more) (wdl_where (table_value more)) p
unfolding searched_by wdl_of
searched_is more p = refl

pub value_is : (more : Tables) (p : Parts) → wdl_of more p ≡ wdl_where (table_value more) p
unfolding wdl_of
value_is more p = refl

-- ---- distances

counted_kept : (won : Bool) (r s : Reach) → Keeps r s → Keeps (distance_before won r) (distance_before won s)
counted_kept won (Ok d) s k x e = rw (k d refl) e
counted_kept won (Err fault) s k x e = absurd (cc)

count_kept : (outcome : Outcome) (f g : Parts → Reach) (q : Parts) → Keeps (f q) (g q) → Keeps (move_counts outcome f q) (move_counts outcome g q)
unfolding move_counts
count_kept outcome f g q k = step (is_won outcome && is_checkmate q)
  where
    step : (b : Bool) → Keeps (cond b (Ok (Some 1)) (distance_before (is_won outcome) (f q))) (cond b (Ok (Some 1)) (distance_before (is_won outcome) (g q)))
    step true = λ x e. e
    step false = counted_kept (is_won outcome) (f q) (g q) k

module _ (f g : Parts → Reach) (p : Parts) (h : (m : Move) (q : Parts) → is_quiet p m ≡ true → position_after p m ≡ Some q → Keeps (f q) (g q)) where
  pub quiet_kept : (key : ℕ) (outcome : Outcome) → Keeps (by_quiet_moves key outcome f p) (by_quiet_moves key outcome g p)
  unfolding by_quiet_moves
  quiet_kept key outcome d e =
      let counts = kept_all (move_counts outcome f) (move_counts outcome g) p (is_quiet p) (λ m q t a. count_kept outcome f g q (h m q t a)) (legal_moves p) (unless_ok _ _ d e).0 in
      ap (λ (cs : List (Result (Option ℕ) ValueFault)). unless (fault_in cs) (by_counts key outcome cs)) (sym counts) ∙ e

  table_kept : (key : ℕ) (outcome : Outcome) (o o' : Option Contents) → ((t : Contents) → o ≡ Some t → o' ≡ Some t) → Keeps (by_table o key f p outcome) (by_table o' key g p outcome)
  table_kept key outcome None o' there d e = absurd (cc)
  table_kept key outcome (Some t) o' there d e = rw (there t refl) (by_side (stores (part_asked t (placed_of key p))) refl e)
    where
      by_side : (b : Bool) → stores (part_asked t (placed_of key p)) ≡ b → by_table (Some t) key f p outcome ≡ Ok d → by_table (Some t) key g p outcome ≡ Ok d
      by_side true is e = rw is (rw is at e)
      by_side false is e = rw is (quiet_kept key outcome d (rw is at e))

  pub own_table_kept : (tables more : Tables) → ((key : ℕ) (t : Contents) → table_at tables Dtz key ≡ Some t → table_at more Dtz key ≡ Some t) → (outcome : Outcome) → Keeps (by_own_table tables f p outcome) (by_own_table more g p outcome)
  unfolding by_own_table
  own_table_kept tables more there outcome = by_key (material_of p)
    where
      by_key : (o : Option ℕ) → Keeps (by_material tables o f p outcome) (by_material more o g p outcome)
      by_key None d e = e
      by_key (Some key) d e = table_kept key outcome (table_at tables Dtz key) (table_at more Dtz key) (there key) d e

  module _ (tables more : Tables) (c : IsCompletedBy tables more) (position : IsPosition p) where
    pawns_kept : (v : Wdl) → Keeps (pawns_reach_where (wdl_of tables) p v) (pawns_reach_where (wdl_of more) p v)
    unfolding pawns_reach_where
    pawns_kept v b e =
        let steps : values_after (wdl_of tables) p (filter (is_pawn_step p) (legal_moves p)) ≡ values_after (wdl_of more) p (filter (is_pawn_step p) (legal_moves p)) =
        kept_all (λ q. opposite_reading (wdl_of tables q)) (λ q. opposite_reading (wdl_of more q)) p (is_pawn_step p)
        (λ m q t a. keeps-turned (wdl_of tables q) (wdl_of more q) (λ x ex. value_is more q ∙ strict_value tables (table_value more) c.values q (still p q m position a) x ex)) (legal_moves p) (unless_ok _ _ b e).0 in
        ap (λ (rs : List Reading). unless (fault_in rs) (Ok (list_any (is_value v) rs))) (sym steps) ∙ e

    moves_kept : (v : Wdl) (outcome : Outcome) → Keeps (by_moves tables f p v outcome) (by_moves more g p v outcome)
    unfolding by_moves
    moves_kept v outcome = step (is_won outcome)
      where
        by_pawns : (r s : Result Bool ValueFault) → Keeps r s → Keeps (unless_reached r outcome (by_own_table tables f p outcome)) (unless_reached s outcome (by_own_table more g p outcome))
        by_pawns (Err fault) s k d e = absurd (cc)
        by_pawns (Ok true) s k d e = rw (k true refl) e
        by_pawns (Ok false) s k d e = rw (k false refl) (own_table_kept tables more c.distances outcome d e)

        step : (b : Bool) → Keeps (cond b (unless_reached (pawns_reach_where (wdl_of tables) p v) outcome (by_own_table tables f p outcome)) (by_own_table tables f p outcome)) (cond b (unless_reached (pawns_reach_where (wdl_of more) p v) outcome (by_own_table more g p outcome)) (by_own_table more g p outcome))
        step true = by_pawns (pawns_reach_where (wdl_of tables) p v) (pawns_reach_where (wdl_of more) p v) (pawns_kept v)
        step false = own_table_kept tables more c.distances outcome

    outcome_kept : (w : CaptureSearch) (o : Option Outcome) → Keeps (by_outcome tables f p w o) (by_outcome more g p w o)
    outcome_kept w None d e = e
    outcome_kept w (Some outcome) d e = step (is_by_capture w) e
      where
        step : (b : Bool) → cond b (Ok (towards outcome (zeroing outcome))) (by_moves tables f p (worth w) outcome) ≡ Ok d → cond b (Ok (towards outcome (zeroing outcome))) (by_moves more g p (worth w) outcome) ≡ Ok d
        step true e = e
        step false e = moves_kept (worth w) outcome d e

    reach_kept : (w w' : Result CaptureSearch ValueFault) → Keeps w w' → Keeps (dtz_from_search tables f p w) (dtz_from_search more g p w')
    reach_kept (Ok w) w' k d e = rw (k w refl) (outcome_kept w (outcome_of (worth w)) d e)
    reach_kept (Err fault) w' k d e = absurd (cc)

    pub rules_kept : Keeps (dtz_by tables f p) (dtz_by more g p)
    rules_kept = step (nat_le (count_of_men p) 2)
      where
        all : Keeps (dtz_from_search tables f p (searched_by tables (wdl_of tables) p)) (dtz_from_search more g p (searched_by more (wdl_of more) p))
        all = reach_kept _ _ (λ w e. searched_is more p ∙ strict_searched tables (table_value more) c.values p position w e)

        step : (b : Bool) → Keeps (cond b (Ok NoDistance) (dtz_from_search tables f p (searched_by tables (wdl_of tables) p))) (cond b (Ok NoDistance) (dtz_from_search more g p (searched_by more (wdl_of more) p)))
        step true = λ d e. e
        step false = all

pub kept_in : (tables more : Tables) → IsCompletedBy tables more → (n : ℕ) (p : Parts) → IsPosition p → Keeps (dtz_to tables n p) (dtz_to more n p)
unfolding dtz_to
kept_in tables more c zero p position d e = e
kept_in tables more c (suc n) p position d e = rules_kept (dtz_to tables n) (dtz_to more n) p (λ m q t a. kept_in tables more c n q (still p q m position a)) tables more c position d e

pub strict_distance : (tables more : Tables) (p : Parts) → IsPosition p → IsCompletedBy tables more → Keeps (dtz_of tables p) (dtz_of more p)
unfolding dtz_of
strict_distance tables more p position c = kept_in tables more c 2 p position
