-- Which distances are precise, rule by rule and move by move.
use Rattle.std.proofs.Common.{◌≡◌, ◌∙◌, sym, ap, refl, ℕ, ◌<◌, ◌≤◌, Bool, true, false, ◌||◌, ◌&&◌, List, [], ◌∷◌, map, Option, Some, None, filter, filter_map, fold, Result, Ok, Err, if◌then◌else◌}
use Rattle.std.specs.Prelude.{OnErr, nat_le, ◌≢◌}
use Rattle.std.specs.List.{list_any, list_all}
use Rattle.std.proofs.lemmas.Bool.{le-leb, lt-leb, leb-false}
use Rattle.board_core.specs.declared.parts.Parts.{Parts}
use Rattle.board_core.specs.declared.moves.Move.{Move}
use Rattle.board_core.specs.ComputedMoves.{legal_moves, position_after, count_of_men}
use Rattle.board_core.specs.Ends.{is_checkmate}
use Rattle.place_index.specs.Placed.{Placement}
use Rattle.table_file.specs.declared.kind.TableKind.TheVariants.{Dtz}
use Rattle.table_file.specs.declared.outcome.Outcome.{Outcome}
use Rattle.table_file.specs.Tables.{Contents, PartAt}
use Rattle.table_file.specs.Distances.{counts_moves, file_flags, stores}
use Rattle.judge_core.specs.declared.precision.DistanceSource.{DistanceSource}
use Rattle.judge_core.specs.declared.precision.DistanceSource.TheVariants.{Value, Plies, Moves, NextMoves, Nowhere}
use Rattle.judge_core.specs.declared.precision.MovePrecision.{MovePrecision}
use Rattle.judge_core.specs.declared.wdl.Wdl.{Wdl}
use Rattle.judge_core.specs.declared.wdl.Wdl.TheVariants.{Draw}
use Rattle.judge_core.specs.declared.found.CaptureSearch.{CaptureSearch}
use Rattle.judge_core.specs.declared.fault.ValueFault.{ValueFault}
use Rattle.judge_core.specs.declared.distance.Distance.{Distance}
use Rattle.judge_core.specs.Values.{outcome_of}
use Rattle.judge_core.specs.LookUp.{material_of, placed_of}
use Rattle.judge_core.specs.Tables.{Tables, table_at, part_asked}
use Rattle.judge_core.specs.Asked.{asked}
use Rattle.judge_core.specs.Answers.{IsLeftOpen, ListsMoves}
use Rattle.judge_core.specs.Probing.{searched_by, wdl_of, worth}
use Rattle.judge_core.specs.Ruling.{is_out_of_scope}
use Rattle.judge_core.specs.Distances.{plies, is_won, is_by_capture, pawns_reach, is_quiet, move_counts, dtz_by, dtz_to, dtz_of}
use Rattle.judge_core.specs.Precision.{source_in_part, source_in_table, unless_pawn, source_by_moves, source_by_outcome, source_from_search, source_of, is_unrounded, is_precise_next, is_count, next_giving, is_precise_by_moves, is_precise}
use Rattle.judge_core.specs.Inside.Precision.{precise_in, no_moves, with_move, noted, precision_of_moves, by_outcome, is_precise_open}

-- ---- the own table

module _ (part : PartAt) (outcome : Outcome) (stored : Bool) (es : stored ≡ stores part) where
  pub other_side : stored ≡ false → NextMoves outcome ≡ source_in_part part outcome
  other_side no' = rw (sym es ∙ no') refl

  pub moves_stored : (moves : Bool) → stored ≡ true → moves ≡ counts_moves (file_flags part) outcome → moves ≡ true → Moves ≡ source_in_part part outcome
  moves_stored moves yes' em is = rw (sym es ∙ yes', sym em ∙ is) refl

  pub plies_stored : (moves : Bool) → stored ≡ true → moves ≡ counts_moves (file_flags part) outcome → moves ≡ false → Plies ≡ source_in_part part outcome
  plies_stored moves yes' em no' = rw (sym es ∙ yes', sym em ∙ no') refl

module _ (tables : Tables) (p : Parts) (outcome : Outcome) where
  pub bare_source : material_of p ≡ None → Value ≡ source_in_table tables p outcome
  unfolding source_in_table
  bare_source e = rw e refl

  module _ (key : ℕ) (m : material_of p ≡ Some key) where
    pub missing_source : table_at tables Dtz key ≡ None → Nowhere ≡ source_in_table tables p outcome
    unfolding source_in_table
    missing_source e = rw (m, e) refl

    pub part_source : (t : Contents) (placed : Placement) (s : DistanceSource) → table_at tables Dtz key ≡ Some t → placed ≡ placed_of key p → s ≡ source_in_part (part_asked t placed) outcome → s ≡ source_in_table tables p outcome
    unfolding source_in_table
    part_source t placed s at ep es = es ∙ ap (λ (x : Placement). source_in_part (part_asked t x) outcome) ep ∙ rw (m, at) refl

  -- ---- pawn moves

  pub won_source : (v : Wdl) (found : Result Bool ValueFault) → is_won outcome ≡ true → found ≡ pawns_reach tables p v → unless_pawn found (source_in_table tables p outcome) ≡ source_by_moves tables p v outcome
  unfolding source_by_moves
  won_source v found w e = rw (w, ← e) refl

  pub lost_source : (v : Wdl) → is_won outcome ≡ false → source_in_table tables p outcome ≡ source_by_moves tables p v outcome
  unfolding source_by_moves
  lost_source v w = rw w refl

-- ---- all rules

pub few_source : (tables : Tables) (p : Parts) → count_of_men p ≤ 2 → Value ≡ source_of tables p
unfolding source_of
few_source tables p few = rw (le-leb (count_of_men p) 2 few) refl

pub many_source : (tables : Tables) (p : Parts) (w : Result CaptureSearch ValueFault) → 2 < count_of_men p → w ≡ searched_by tables (wdl_of tables) p → source_from_search tables p w ≡ source_of tables p
unfolding source_of
many_source tables p w many e = rw (lt-leb (count_of_men p) 2 many, ← e) refl

-- ---- moves

or-assoc : (a b c : Bool) → ((a || b) || c) ≡ (a || (b || c))
or-assoc true b c = refl
or-assoc false b c = refl

or-false : (a : Bool) → (a || false) ≡ a
or-false true = refl
or-false false = refl

and-assoc : (a b c : Bool) → ((a && b) && c) ≡ (a && (b && c))
and-assoc true b c = refl
and-assoc false b c = refl

and-true : (a : Bool) → (a && true) ≡ a
and-true true = refl
and-true false = refl

-- with others
abbrev joined : MovePrecision → Bool → Bool → MovePrecision
joined s any all = record { some = s.some || any; all = s.all && all }

none_joined : (s : MovePrecision) → s ≡ joined s false true
none_joined s = rw (or-false s.some, and-true s.all) refl

more_joined : (s : MovePrecision) (b any all : Bool) → joined (with_move s (Some b)) any all ≡ joined s (b || any) (b && all)
more_joined s b any all = rw (or-assoc s.some b any, and-assoc s.all b all) refl

-- what moves with these positions come to
abbrev summed : MovePrecision → (Parts → Bool) → List Parts → MovePrecision
summed s sure qs = joined s (list_any sure qs) (list_all sure qs)

module _ (gives sure : Parts → Bool) where
  abbrev told : Parts → Option Bool
  told q = if gives q then Some (sure q) else None

  noted_one : (s : MovePrecision) (q : Parts) (qs : List Parts) (b : Bool) → gives q ≡ b → fold noted (with_move s (told q)) (map (λ x. Ok (told x)) qs) ≡ summed (with_move s (told q)) sure (filter gives qs) → fold noted s (map (λ x. Ok (told x)) (q ∷ qs)) ≡ summed s sure (filter gives (q ∷ qs))
  noted_one s q qs true e h = h ∙ rw e (more_joined s (sure q) (list_any sure (filter gives qs)) (list_all sure (filter gives qs)))
  noted_one s q qs false e h = h ∙ rw e refl

  noted_all : (s : MovePrecision) (qs : List Parts) → fold noted s (map (λ x. Ok (told x)) qs) ≡ summed s sure (filter gives qs)
  noted_all s [] = none_joined s
  noted_all s (q ∷ qs) = noted_one s q qs (gives q) refl (noted_all (with_move s (told q)) qs)

asked_one : {X : Type 0} (say : Parts → Result X ValueFault) (p : Parts) (m : Move) (ms : List Move) (o : Option Parts) → position_after p m ≡ o → asked say p ms ≡ map say (filter_map (position_after p) ms) → asked say p (m ∷ ms) ≡ map say (filter_map (position_after p) (m ∷ ms))
asked_one say p m ms None e h = rw e h
asked_one say p m ms (Some q) e h = rw e (ap (λ xs. say q ∷ xs) h)

asked_all : {X : Type 0} (say : Parts → Result X ValueFault) (p : Parts) (ms : List Move) → asked say p ms ≡ map say (filter_map (position_after p) ms)
asked_all say p [] = refl
asked_all say p (m ∷ ms) = asked_one say p m ms (position_after p m) refl (asked_all say p ms)

module _ (tables : Tables) (p : Parts) (outcome : Outcome) where
  moves_come_to : (n : ℕ) → precision_of_moves tables p outcome n ≡ summed no_moves (is_precise_next tables) (next_giving tables p outcome n)
  moves_come_to n =
      let gives : Parts → Bool = λ q. is_count n (move_counts outcome (dtz_to tables 1) q) in
      let ms = filter (is_quiet p) (legal_moves p) in
      ap (fold noted no_moves) (asked_all (λ q. Ok (precise_in tables outcome n q)) p ms) ∙ noted_all gives (is_precise_next tables) no_moves (filter_map (position_after p) ms)

  by_case : (won : Bool) (d : Distance) → is_won outcome ≡ won → by_outcome outcome (precision_of_moves tables p outcome (plies d)) ≡ is_precise_by_moves tables p outcome (Ok d)
  by_case true d e = rw (moves_come_to (plies d), e) refl
  by_case false d e = rw (moves_come_to (plies d), e) refl

  pub moves_decide : (d : Distance) (s : MovePrecision) (b : Bool) → s ≡ precision_of_moves tables p outcome (plies d) → b ≡ by_outcome outcome s → b ≡ is_precise_by_moves tables p outcome (Ok d)
  moves_decide d s b es eb = eb ∙ ap (by_outcome outcome) es ∙ by_case (is_won outcome) d refl

-- ---- the distance

-- two positions in a row
pub in_a_row : (tables : Tables) (p : Parts) → dtz_by tables (dtz_to tables 1) p ≡ dtz_of tables p
unfolding dtz_of dtz_to
in_a_row tables p = refl

-- ---- which are precise

module _ (tables : Tables) (p : Parts) where
  pub mate_next : is_checkmate p ≡ true → true ≡ is_precise_next tables p
  unfolding is_precise_next
  mate_next m = rw m refl

  pub open_next : (s : DistanceSource) (b : Bool) → is_checkmate p ≡ false → s ≡ source_of tables p → b ≡ is_unrounded s → b ≡ is_precise_next tables p
  unfolding is_precise_next
  open_next s b m es eb = eb ∙ ap is_unrounded es ∙ rw m refl

  pub mate_precise : is_checkmate p ≡ true → true ≡ is_precise tables p
  unfolding is_precise
  mate_precise m = rw m refl

  pub none_outside : is_checkmate p ≡ false → is_out_of_scope p ≡ true → false ≡ is_precise tables p
  unfolding is_precise
  none_outside m o = rw (m, o) refl

  pub open_precise : is_checkmate p ≡ false → is_out_of_scope p ≡ false → is_precise_open tables p ≡ is_precise tables p
  unfolding is_precise
  open_precise m o = rw (m, o) refl

  -- ---- where moves are listed

  left_by_outcome : (o : Outcome) (w : CaptureSearch) (k : Option Outcome) (b : Bool) → outcome_of (worth w) ≡ k → is_by_capture w ≡ b → source_by_outcome tables p w k ≡ NextMoves o → (worth w ≢ Draw) × (is_by_capture w ≡ false)
  left_by_outcome o w None b ek eb e = absurd (cc)
  left_by_outcome o w (Some k) true ek eb e = absurd (let f = rw eb at e in cc)
  left_by_outcome o w (Some k) false ek eb e = (λ d. (let f : outcome_of Draw ≡ Some k = ap outcome_of (sym d) ∙ ek in cc), eb)

  left_by : (o : Outcome) (w : Result CaptureSearch ValueFault) → source_from_search tables p w ≡ NextMoves o → IsLeftOpen w
  left_by o (Err fault) e = absurd (cc)
  left_by o (Ok w) e = left_by_outcome o w (outcome_of (worth w)) (is_by_capture w) refl refl e

  by_men : (o : Outcome) (b : Bool) → nat_le (count_of_men p) 2 ≡ b → (if b then Value else source_from_search tables p (searched_by tables (wdl_of tables) p)) ≡ NextMoves o → ListsMoves tables p
  by_men o true few e = absurd (cc)
  by_men o false many e = (leb-false (count_of_men p) 2 many, left_by o (searched_by tables (wdl_of tables) p) e)

  pub lists_moves : (o : Outcome) → source_of tables p ≡ NextMoves o → ListsMoves tables p
  unfolding source_of
  lists_moves o e = by_men o (nat_le (count_of_men p) 2) refl e

pub in_any_case : {X E : Type 0} (r : Result X E) (P : Type 0) → P → OnErr r P
in_any_case (Ok x) P h = tt
in_any_case (Err e) P h = h
