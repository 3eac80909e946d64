-- What the code has found on its way through the captures.
use Rattle.std.specs.Prelude.{Bool, true, false, not, List, is_none, Option, Some, None, Result, Ok, Err, filter, if◌then◌else◌}
use Rattle.board_core.specs.declared.parts.Parts.{Parts}
use Rattle.board_core.specs.declared.moves.Move.{Move}
use Rattle.board_core.specs.Attack.{man_at}
use Rattle.board_core.specs.ComputedMoves.{legal_captures}
use Rattle.judge_core.specs.declared.wdl.Wdl.{Wdl}
use Rattle.judge_core.specs.declared.wdl.Wdl.TheVariants.{Loss}
use Rattle.judge_core.specs.declared.fault.ValueFault.{ValueFault}
use Rattle.judge_core.specs.declared.found.Found.{Found}
use Rattle.judge_core.specs.declared.found.CaptureSearch.{CaptureSearch}
use Rattle.judge_core.specs.Values.{Reading, greater}
use Rattle.judge_core.specs.Asked.{faults_in, first_fault, unless, no_faults, with_fault, with_answer}
use Rattle.judge_core.specs.Known.{wins_by_capture}
use Rattle.judge_core.specs.Probing.{greatest_value, value_or_loss, values_after}

-- a move that goes to an empty square; a capture that does is en passant
unfoldable pub lands_empty : Parts → Move → Bool
lands_empty p m = is_none (man_at p.men m.to)

-- what these captures give
unfoldable pub found_by_captures : (Parts → Reading) → Parts → List Move → Found
found_by_captures value p moves = record {
  faults = faults_in (values_after value p moves);
  capture = greatest_value (values_after value p (filter (λ m. not (lands_empty p m)) moves));
  passant = greatest_value (values_after value p (filter (lands_empty p) moves));
}

-- what all captures give, or none where one of them wins
abbrev pub found_unless_won : (Parts → Reading) → Parts → Option Found
found_unless_won value p = if wins_by_capture value p then None else Some (found_by_captures value p (legal_captures p))

-- before the first of them
abbrev pub nothing_found : Found
nothing_found = record { faults = no_faults; capture = Loss; passant = Loss }

abbrev pub found_with_value : Found → Wdl → Bool → Found
found_with_value f v true = record { faults = f.faults; capture = f.capture; passant = greater f.passant v }
found_with_value f v false = record { faults = f.faults; capture = greater f.capture v; passant = f.passant }

-- one reading more
abbrev pub found_with : Found → Reading → Bool → Found
found_with f (Ok v) passant = found_with_value f v passant
found_with f (Err fault) passant = record { faults = with_fault f.faults fault; capture = f.capture; passant = f.passant }

-- with the own table last
abbrev pub closed : Found → Reading → Bool → Result CaptureSearch ValueFault
closed f own forced =
    unless (first_fault (with_answer f.faults own)) (Ok (record {
      capture = f.capture;
      passant = f.passant;
      own = value_or_loss own;
      forced = forced;
    }))
