-- Legal moves of a list; cited by private functions alone.
use Rattle.std.specs.Prelude.{◌≡◌, ◌++◌, ◌∷◌, ◌-ℤ◌, [], List, Some, false, ℤ, pos, negsuc, int_lt, if◌then◌else◌}
use Rattle.board_core.specs.declared.parts.Parts.{Parts}
use Rattle.board_core.specs.declared.moves.Move.{Move}
use Rattle.board_core.specs.ComputedMoves.{position_after}
use Rattle.judge_core.specs.declared.probe_result.ProbeResult.{ProbeResult}
use Rattle.judge_core.specs.declared.root_move.RootMove.{RootMove}
use Rattle.judge_core.specs.Distances.{dtz_of}
use Rattle.judge_core.specs.ProbeResult.{IsProbed}
use Rattle.judge_core.specs.Probing.{wdl_of}
use Rattle.judge_core.specs.Root.{is_checkmate, root_move_by, state_of}
use Rattle.judge_core.specs.Ruling.{is_out_of_scope}
use Rattle.judge_core.specs.Tables.{Tables}
use Rattle.json_lines.specs.declared.api_told.ApiMove.{ApiMove}
use Rattle.json_lines.specs.declared.told.MoveTold.{MoveTold}
use Rattle.json_lines.specs.ApiTold.{IsPrecisionAfter}

-- the move can be played
abbrev pub IsPlayable : Parts → Move → Type 0
IsPlayable p m = (q : Parts) × (position_after p m ≡ Some q)

-- the root move of a position by tables
abbrev pub IsRootMoveOf : Tables → Parts → RootMove → Type 0
IsRootMoveOf tables p root = (q : Parts) × (position_after p root.played ≡ Some q) × (root ≡ root_move_by (wdl_of tables) (dtz_of tables) p root.played q)

-- one ply nearer to the end, for the other side
abbrev pub distance_after : ℤ → ℤ
distance_after n = if int_lt (pos 0) n then pos 1 -ℤ n else if int_lt n (pos 0) then negsuc 0 -ℤ n else pos 0

-- the position after the move is no mate, and these are its values where it is in scope
abbrev pub TellsAfter : RootMove → ProbeResult → Type 0
TellsAfter root probed =
    (tables : Tables) (p q : Parts) → root ≡ root_move_by (wdl_of tables) (dtz_of tables) p root.played q → is_out_of_scope q ≡ false
    → (is_checkmate (state_of q) ≡ false) × IsProbed tables q probed

-- a move with the precision of the distance after it comes behind others
abbrev pub AddsMove : Tables → MoveTold → List ApiMove → List ApiMove → Type 0
AddsMove tables told old new = (t : ApiMove) × (t.told ≡ told) × IsPrecisionAfter tables t × (new ≡ old ++ t ∷ [])
