-- The nearest win by a move that neither takes a man nor moves a pawn.
use Rattle.std.proofs.Common.{◌≡◌, ◌∙◌, sym, ap, refl, ℕ, Bool, true, false, not, ◌&&◌, List, [], ◌∷◌, Option, Some, None, Ok, Err, filter, filter_map, fold, if◌then◌else◌}
use Rattle.std.specs.Prelude.{◌+◌, pos, neg_ℤ}
use native.Mathlib.Numerals.{unary_clauses}
use Rattle.board_core.specs.declared.parts.Parts.{Parts}
use Rattle.board_core.specs.declared.moves.Move.{Move}
use Rattle.board_core.specs.Computed.{is_in_check}
use Rattle.board_core.specs.ComputedMoves.{position_after, legal_moves, is_en_passant, is_capture}
use Rattle.table_file.specs.declared.outcome.Outcome.{Outcome}
use Rattle.judge_core.specs.declared.distance.Distance.TheVariants.{Draw, Win, Loss}
use Rattle.judge_core.specs.declared.fault.ValueFault.{ValueFault}
use Rattle.judge_core.specs.Tables.{Tables}
use Rattle.judge_core.specs.Asked.{asked, fault_in, unless}
use Rattle.judge_core.specs.Probing.{wdl_of}
use Rattle.judge_core.specs.Answers.{signed_in}
use Rattle.board_core.specs.Ends.{has_no_move, is_checkmate as is_mate}
use Rattle.judge_core.specs.Distances.{Reach, is_won, is_quiet, moves_pawn, distance_before, move_counts, known_count, lesser, least, won_in, by_counts, dtz_of}
use Rattle.judge_core.specs.FiveRules.{counts_after}
use Rattle.judge_core.specs.Root.{effect_of, zeroes_clock, state_of, state_by, is_checkmate, reach_one_ply_before, root_move_by, root_move_at, root_moves_by, root_moves}
use Rattle.judge_core.specs.RootLaws.{plies_won, quiet_win, NearestWinIsTheDistance}
use Rattle.judge_core.proofs.Captures.{passant_is_capture}
use Rattle.judge_core.proofs.Effects.{effect_by}
use Rattle.judge_core.proofs.FiveRules.{moves_are}
use Rattle.judge_core.proofs.TwoSteps.{in_scope}

zeroes_by : (a b c : Bool) → (a ≡ true → b ≡ true) → zeroes_clock (effect_by a b c) ≡ not (not c && not b)
zeroes_by true true true h = refl
zeroes_by true true false h = refl
zeroes_by true false c h = absurd (let e = h refl in cc)
zeroes_by false true true h = refl
zeroes_by false true false h = refl
zeroes_by false false true h = refl
zeroes_by false false false h = refl

zeroes_unless_quiet : (p : Parts) (m : Move) → zeroes_clock (effect_of p m) ≡ not (is_quiet p m)
unfolding effect_of is_quiet
zeroes_unless_quiet p m = zeroes_by (is_en_passant p m) (is_capture p m) (moves_pawn p m) (passant_is_capture p m)

mate_by : (check none : Bool) → is_checkmate (state_by check none) ≡ (check && none)
mate_by true true = refl
mate_by true false = refl
mate_by false true = refl
mate_by false false = refl

mated : (q : Parts) → is_checkmate (state_of q) ≡ is_mate q
unfolding state_of
mated q = mate_by (is_in_check q.men q.side) (has_no_move (legal_moves q))

-- the plies of a win before a move are one more than those after it
one_more_won : (r : Reach) → known_count (distance_before true r) ≡ plies_won (signed_in (reach_one_ply_before r))
one_more_won (Ok Draw) = refl
one_more_won (Ok (Win n)) = lost_is_none n
  where
    lost_is_none : (n : ℕ) → None ≡ plies_won (Ok (neg_ℤ (pos (n + 1))))
    lost_is_none n = simp unary_clauses refl
one_more_won (Ok (Loss n)) = won_is_some n
  where
    won_is_some : (n : ℕ) → Some (n + 1) ≡ plies_won (Ok (pos (n + 1)))
    won_is_some n = simp unary_clauses refl
one_more_won (Err fault) = refl

module _ (tables : Tables) (p : Parts) (outcome : Outcome) (wins : is_won outcome ≡ true) where
  counts_alike : (mate : Bool) (r : Reach) → known_count (if true && mate then Ok (Some 1) else distance_before true r) ≡ plies_won (signed_in (if mate then Ok (Win 1) else reach_one_ply_before r))
  counts_alike true r = refl
  counts_alike false r = one_more_won r

  quiet_alike : (m : Move) (q : Parts) → is_quiet p m ≡ true → known_count (move_counts outcome (dtz_of tables) q) ≡ quiet_win (root_move_by (wdl_of tables) (dtz_of tables) p m q)
  unfolding move_counts
  quiet_alike m q e = rw (zeroes_unless_quiet p m, e, mated q, wins) (counts_alike (is_mate q) (dtz_of tables q))

  other_alike : (m : Move) (q : Parts) → is_quiet p m ≡ false → quiet_win (root_move_by (wdl_of tables) (dtz_of tables) p m q) ≡ None
  other_alike m q e = rw (zeroes_unless_quiet p m, e) refl

  head_alike : {X Y : Type 0} (f : X → Option ℕ) (g : Y → Option ℕ) (x : X) (y : Y) (xs : List X) (ys : List Y) → f x ≡ g y → filter_map f xs ≡ filter_map g ys → filter_map f (x ∷ xs) ≡ filter_map g (y ∷ ys)
  head_alike f g x y xs ys e rest = rw (e, rest) refl

  wins_alike : (ms : List Move) → filter_map known_count (asked (move_counts outcome (dtz_of tables)) p (filter (is_quiet p) ms)) ≡ filter_map quiet_win (filter_map (root_move_at (wdl_of tables) (dtz_of tables) p) ms)
  wins_alike [] = refl
  wins_alike (m ∷ ms) = step (wins_alike ms) (is_quiet p m) (position_after p m) refl refl
    where
      step : filter_map known_count (asked (move_counts outcome (dtz_of tables)) p (filter (is_quiet p) ms)) ≡ filter_map quiet_win (filter_map (root_move_at (wdl_of tables) (dtz_of tables) p) ms) → (b : Bool) (o : Option Parts) → is_quiet p m ≡ b → position_after p m ≡ o → filter_map known_count (asked (move_counts outcome (dtz_of tables)) p (filter (is_quiet p) (m ∷ ms))) ≡ filter_map quiet_win (filter_map (root_move_at (wdl_of tables) (dtz_of tables) p) (m ∷ ms))
      step rest true None eb eo = rw (eb, eo) rest
      step rest false None eb eo = rw (eb, eo) rest
      step rest true (Some q) eb eo =
          rw (eb, eo) (head_alike known_count quiet_win (move_counts outcome (dtz_of tables) q) (root_move_by (wdl_of tables) (dtz_of tables) p m q) (asked (move_counts outcome (dtz_of tables)) p (filter (is_quiet p) ms)) (filter_map (root_move_at (wdl_of tables) (dtz_of tables) p) ms) (quiet_alike m q eb) rest)
      step rest false (Some q) eb eo = rw (eb, eo, other_alike m q eb) rest

  least_alike : least (counts_after (dtz_of tables) p outcome) ≡ fold lesser None (filter_map quiet_win (root_moves tables p))
  unfolding root_moves_by
  least_alike = ap (fold lesser None) (wins_alike (legal_moves p))

won_number : (key n : ℕ) (o : Option ℕ) → won_in key o ≡ Ok (Win n) → o ≡ Some n
won_number key n None e = absurd cc
won_number key n (Some m) e = cc

whole_number : (key n : ℕ) (o : Option ℕ) (f : Option ValueFault) → unless f (won_in key o) ≡ Ok (Win n) → o ≡ Some n
whole_number key n o None e = won_number key n o e
whole_number key n o (Some fault) e = absurd cc

pub nearest_win : NearestWinIsTheDistance
nearest_win tables p outcome key n filed position scope left wins e =
    let counts = counts_after (dtz_of tables) p outcome in
    let chosen : won_in key (least counts) ≡ by_counts key outcome counts = rw wins refl in
    let found = sym (moves_are tables (dtz_of tables) p outcome key (fault_in counts) left refl) ∙ sym (in_scope tables p filed position scope) ∙ e in
    sym (least_alike tables p outcome wins) ∙ whole_number key n (least counts) (fault_in counts) (ap (unless (fault_in counts)) chosen ∙ found)
