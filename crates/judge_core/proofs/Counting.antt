-- What the loops over moves have counted is what the definitions say.
use Rattle.std.proofs.Common.{◌≡◌, ◌∙◌, sym, ap, refl, ℕ, ◌<◌, ◌≤◌, max, Bool, true, false, ◌||◌, List, [], ◌∷◌, Option, Some, None, IfSome, filter, filter_map, fold, Result, Ok, Err, IfOk, arith}
use Rattle.std.specs.List.{list_any}
use Rattle.board_core.specs.declared.parts.Parts.{Parts}
use Rattle.board_core.specs.declared.moves.Move.{Move}
use Rattle.board_core.specs.ComputedMoves.{legal_moves, legal_pawn_moves, is_pawn_of}
use Rattle.board_core.specs.Attack.{man_at}
use Rattle.table_file.specs.declared.outcome.Outcome.{Outcome}
use Rattle.judge_core.specs.declared.fault.Faults.{Faults}
use Rattle.judge_core.specs.declared.fault.ValueFault.{ValueFault}
use Rattle.judge_core.specs.declared.counts.Counts.{Counts}
use Rattle.judge_core.specs.declared.counts.Steps.{Steps}
use Rattle.judge_core.specs.declared.wdl.Wdl.{Wdl}
use Rattle.judge_core.specs.Values.{Reading, opposite_reading}
use Rattle.judge_core.specs.Asked.{asked, fault_in, first_fault, unless, with_answer}
use Rattle.judge_core.specs.Distances.{Reach, is_value, is_pawn_step, pawns_reach_where, is_quiet, move_counts, known_count, lesser, is_odd, by_quiet_moves, by_counts}
use Rattle.judge_core.specs.Inside.Counts.{no_steps, with_reading, steps_result, no_counts, with_count, counts_result, AreWithin}
use Rattle.judge_core.proofs.Asking.{faults_more, faults_in-is, with_all}
use Rattle.judge_core.proofs.Quiet.{no_steps_listed, steps_of_pawns}

or-assoc : (a b c : Bool) → ((a || b) || c) ≡ (a || (b || c))
or-assoc true b c = refl
or-assoc false b c = refl

or-false : (a : Bool) → (a || false) ≡ a
or-false true = refl
or-false false = refl

-- ---- pawn moves

-- some readings more
abbrev steps_more : Wdl → Steps → List Reading → Steps
steps_more v s rs = record { faults = faults_more s.faults rs; reached = s.reached || list_any (is_value v) rs }

steps-is : (v : Wdl) (s : Steps) (rs : List Reading) → fold (with_reading v) s rs ≡ steps_more v s rs
steps-is v s [] = ap (λ (b : Bool). record { faults = s.faults; reached = b }) (sym (or-false s.reached))
steps-is v s (r ∷ rs) = steps-is v (with_reading v s r) rs ∙ ap (λ (b : Bool). record { faults = faults_more (with_answer s.faults r) rs; reached = b }) (or-assoc s.reached (is_value v r) (list_any (is_value v) rs))

pub steps_result-is : (value : Parts → Reading) (p : Parts) (v : Wdl) (steps : Steps) (moves : List Move) (r : Result Bool ValueFault) → moves ≡ legal_pawn_moves p → steps ≡ with_all (with_reading v) no_steps (λ q. opposite_reading (value q)) (is_pawn_step p) p moves → r ≡ steps_result steps → r ≡ pawns_reach_where value p v
unfolding pawns_reach_where
steps_result-is value p v steps moves r e f g =
    let rs = asked (λ q. opposite_reading (value q)) p (filter (is_pawn_step p) (legal_moves p)) in
    let h : steps ≡ fold (with_reading v) no_steps rs = f ∙ ap (λ ms. with_all (with_reading v) no_steps (λ q. opposite_reading (value q)) (is_pawn_step p) p ms) e ∙ ap (λ ms. fold (with_reading v) no_steps (asked (λ q. opposite_reading (value q)) p ms)) (steps_of_pawns p (legal_moves p)) in
    g ∙ ap steps_result (h ∙ steps-is v no_steps rs) ∙ ap (λ (x : Faults). unless (first_fault x) (Ok (list_any (is_value v) rs))) (sym (faults_in-is rs))

-- ---- quiet moves

-- some counts more
abbrev counts_more : Counts → List (Result (Option ℕ) ValueFault) → Counts
counts_more c cs = record {
  faults = faults_more c.faults cs;
  least = fold lesser c.least (filter_map known_count cs);
  greatest = fold max c.greatest (filter_map known_count cs);
  odd = c.odd || list_any is_odd cs;
}

counts-is : (c : Counts) (cs : List (Result (Option ℕ) ValueFault)) → fold with_count c cs ≡ counts_more c cs
counts-is c [] = ap (λ (b : Bool). record { faults = c.faults; least = c.least; greatest = c.greatest; odd = b }) (sym (or-false c.odd))
counts-is c (Ok None ∷ cs) = counts-is (with_count c (Ok None)) cs ∙ ap (λ (b : Bool). record {
  faults = faults_more c.faults cs;
  least = fold lesser c.least (filter_map known_count cs);
  greatest = fold max c.greatest (filter_map known_count cs);
  odd = b;
}) (or-true c.odd (list_any is_odd cs))
  where
    or-true : (a b : Bool) → true ≡ (a || (true || b))
    or-true true b = refl
    or-true false b = refl
counts-is c (Ok (Some n) ∷ cs) = counts-is (with_count c (Ok (Some n))) cs
counts-is c (Err fault ∷ cs) = counts-is (with_count c (Err fault)) cs

pub counts_result-is : (key : ℕ) (outcome : Outcome) (reach : Parts → Reach) (p : Parts) (counts : Counts) (moves : List Move) (r : Reach) → moves ≡ legal_moves p → counts ≡ with_all with_count (no_counts outcome) (move_counts outcome reach) (is_quiet p) p moves → r ≡ counts_result key outcome counts → r ≡ by_quiet_moves key outcome reach p
unfolding by_quiet_moves
counts_result-is key outcome reach p counts moves r e f g =
    let cs = asked (move_counts outcome reach) p (filter (is_quiet p) (legal_moves p)) in
    let h : counts ≡ fold with_count (no_counts outcome) cs = f ∙ ap (λ ms. with_all with_count (no_counts outcome) (move_counts outcome reach) (is_quiet p) p ms) e in
    g ∙ ap (counts_result key outcome) (h ∙ counts-is (no_counts outcome) cs) ∙ ap (λ (x : Faults). unless (first_fault x) (by_counts key outcome cs)) (sym (faults_in-is cs))

-- numbers that are counted stay within a bound
pub within-count : (n : ℕ) (c c' : Counts) (r : Result (Option ℕ) ValueFault) → AreWithin n c → IfOk r (λ o. IfSome o (λ m. m ≤ n)) → c' ≡ with_count c r → AreWithin n c'
within-count n c c' (Ok None) w b e = rw e w
within-count n c c' (Ok (Some m)) w b e = rw e (least_within c.least w.0, omega (arith, w.1, b))
  where
    least_within : (o : Option ℕ) → IfSome o (λ k. k ≤ n) → IfSome (lesser o m) (λ k. k ≤ n)
    least_within None h = b
    least_within (Some k) h = omega (arith, h, b)
within-count n c c' (Err fault) w b e = rw e w

-- without a pawn no pawn move comes anywhere
pub no_pawns_reach : (value : Parts → Reading) (p : Parts) (v : Wdl) → ((s : ℕ) → s < 64 → is_pawn_of p.side (man_at p.men s) ≡ false) → Ok false ≡ pawns_reach_where value p v
unfolding pawns_reach_where
no_pawns_reach value p v none = ap (λ ms. let rs = asked (λ q. opposite_reading (value q)) p ms in unless (fault_in rs) (Ok (list_any (is_value v) rs))) (sym (no_steps_listed p none))
