-- When moves are listed for a determined distance, in the words that callers see.
use Rattle.std.proofs.Common.{◌≡◌, ◌∙◌, sym, ap, refl, nat_le, Bool, true, false, ◌&&◌, inl, inr, Some, Result, Ok, Err}
use Rattle.std.proofs.lemmas.Bool.{false≢true}
use Rattle.board_core.specs.declared.parts.Parts.{Parts}
use Rattle.board_core.specs.Position.{IsPosition}
use Rattle.board_core.specs.ComputedMoves.{count_of_men}
use Rattle.table_file.specs.declared.outcome.Outcome.{Outcome}
use Rattle.table_file.specs.declared.outcome.Outcome.TheVariants.{BlessedLoss as LostBlessed, Loss as Lost}
use Rattle.judge_core.specs.declared.distance.Distance.{Distance}
use Rattle.judge_core.specs.declared.distance.Distance.TheVariants.{Draw as NoDistance}
use Rattle.judge_core.specs.declared.fault.ValueFault.{ValueFault}
use Rattle.judge_core.specs.declared.found.CaptureSearch.{CaptureSearch}
use Rattle.judge_core.specs.declared.wdl.Wdl.{Wdl}
use Rattle.judge_core.specs.declared.wdl.Wdl.TheVariants.{Loss, BlessedLoss, Draw, CursedWin, Win}
use Rattle.judge_core.specs.Values.{is_winning, outcome_of}
use Rattle.judge_core.specs.Tables.{Tables}
use Rattle.judge_core.specs.Probing.{worth, worth_in}
use Rattle.judge_core.specs.Distances.{is_by_capture, is_won, dtz_of}
use Rattle.judge_core.specs.Determined.{AsksPawnMoves, ListsMovesDetermined}
use Rattle.judge_core.specs.Inside.Determined.{extreme, extreme_value, extreme_searched, AgreedAskPawns, LackAndAsk, ListsMovesInside}
use Rattle.judge_core.proofs.Rule.{where_meets_rule}
use Rattle.judge_core.proofs.Completed.{extreme-completes, agreed-from, determined}
use Rattle.judge_core.proofs.Zeroing.{IsMany, opened}

winning : (v : Wdl) (outcome : Outcome) → outcome_of v ≡ Some outcome → is_won outcome ≡ true → is_winning v ≡ true
winning Loss outcome e won = absurd (let same : Lost ≡ outcome = cc in let f = rw (← same) at won in false≢true f)
winning BlessedLoss outcome e won = absurd (let same : LostBlessed ≡ outcome = cc in let f = rw (← same) at won in false≢true f)
winning Draw outcome e won = absurd (cc)
winning CursedWin outcome e won = refl
winning Win outcome e won = refl

not_both : (a b : Bool) → a ≡ true → b ≡ true → (a && b) ≡ false → ⊥
not_both a b ea eb e = (let f = rw (ea, eb) at e in false≢true (sym f))

module _ (tables : Tables) (p : Parts) (position : IsPosition p) where
  worth_there : IsMany p → (odd : Bool) (a : CaptureSearch) → extreme_searched tables odd p ≡ Ok a → extreme_value tables odd p ≡ Ok (worth a)
  worth_there many odd a e = where_meets_rule (extreme tables odd) p position ∙ rw many (ap worth_in e)

  pub asks : LackAndAsk tables p (dtz_of tables p) → AsksPawnMoves tables p
  asks h = step (extreme_searched tables true p) (extreme_searched tables false p) refl refl h.ask
    where
      lacking : (d : Distance) → dtz_of tables p ≡ Ok d → ⊥
      lacking d e = (let l = rw e at h.lacking in false≢true l)

      many : (t : Bool) → nat_le (count_of_men p) 2 ≡ t → nat_le (count_of_men p) 2 ≡ false
      many true e = absurd (lacking NoDistance (opened tables p ∙ rw e refl))
      many false e = e

      step : (r s : Result CaptureSearch ValueFault) → extreme_searched tables true p ≡ r → extreme_searched tables false p ≡ s → AgreedAskPawns r s → AsksPawnMoves tables p
      step (Ok a) (Ok b) ea eb ask =
          let more = many (nat_le (count_of_men p) 2) refl in
          let va = worth_there more true a ea in
          let vb = worth_there more false b eb ∙ ap (λ (v : Wdl). Ok v) (sym ask.0) in record {
            lacking = lacking;
            value = worth a;
            is = determined tables p (worth a) position (agreed-from (extreme_value tables true p) (extreme_value tables false p) (worth a) va vb);
            won = winning (worth a) ask.1.outcome ask.1.is ask.1.won;
            no_capture = λ by. not_both (is_by_capture a) (is_by_capture b) (by (extreme tables true) a (extreme-completes tables true) ea) (by (extreme tables false) b (extreme-completes tables false) eb) ask.1.no_capture;
          }
      step (Ok a) (Err fault) ea eb ask = absurd ask
      step (Err fault) s ea eb ask = absurd ask

  pub lists : ListsMovesInside tables p → ListsMovesDetermined tables p
  lists (inl l) = inl l
  lists (inr r) = inr (asks r)
