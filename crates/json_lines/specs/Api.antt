-- What is told of a position and of its legal moves as an object of the tablebase API of Lichess (its `/standard` and `/mainline`; RFC
-- 8259): the members of that API under its names, and behind them `wdl`, `verdict` and `error`, which are this project's own.
use Rattle.std.specs.Prelude.{ℕ, ℤ, Bool, true, false, List, Option, Some, None, Result, codes}
use Rattle.board_core.specs.declared.parts.Parts.{Parts}
use Rattle.board_core.specs.declared.piece.Side.{Side}
use Rattle.board_core.specs.declared.piece.Side.TheVariants.{White, Black}
use Rattle.board_core.specs.declared.verdict.Verdict.{Verdict}
use Rattle.board_core.specs.Ends.{has_insufficient_material}
use Rattle.fen_text.specs.Coordinates.{move_text}
use Rattle.judge_core.specs.declared.fault.ProbeFault.{ProbeFault}
use Rattle.judge_core.specs.declared.probe_result.ProbeResult.{ProbeResult}
use Rattle.judge_core.specs.declared.root_move.BoardState.{BoardState}
use Rattle.judge_core.specs.Categories.{category_name, category_of}
use Rattle.judge_core.specs.Root.{is_checkmate, state_of, zeroes_clock}
use Rattle.json.specs.Json.{Json, null, array, boolean, string, object, Members, no_members, member}
use Rattle.json_lines.specs.declared.api.MoveForm.{MoveForm}
use Rattle.json_lines.specs.declared.api.MoveForm.TheVariants as form
use Rattle.json_lines.specs.declared.api_told.ApiLine.{ApiLine}
use Rattle.json_lines.specs.declared.api_told.ApiLine.TheVariants as line
use Rattle.json_lines.specs.declared.api_told.ApiMove.{ApiMove}
use Rattle.json_lines.specs.declared.api_told.ApiPosition.{ApiPosition}
use Rattle.json_lines.specs.ApiTold.{winner_of}
use Rattle.json_lines.specs.Objects.{error_json, error_members, fault_json, followed_by, is_stalemate, moves_items, number_or_null, verdict_or_null}

-- the distance where it is precise, and else null
abbrev pub precise_or_null : Bool → Result ℤ ProbeFault → Json
precise_or_null true dtz = number_or_null dtz
precise_or_null false dtz = null

-- How a position stands, and then others. `dtm` isn't told; the rules have no other ways to win or to lose.
abbrev pub standing_and : BoardState → Parts → ProbeResult → Bool → Members → Members
standing_and state p probed precise others =
    member (codes "category") (string (category_name (category_of state p.halfmove probed precise)))
    (member (codes "dtz") (number_or_null probed.dtz)
    (member (codes "precise_dtz") (precise_or_null precise probed.dtz)
    (member (codes "dtm") null
    (member (codes "checkmate") (boolean (is_checkmate state))
    (member (codes "stalemate") (boolean (is_stalemate state))
    (member (codes "variant_win") (boolean false)
    (member (codes "variant_loss") (boolean false)
    (member (codes "insufficient_material") (boolean (has_insufficient_material p))
    (member (codes "wdl") (number_or_null probed.wdl) others)))))))))

abbrev pub values_members : Parts → ProbeResult → Option Verdict → Bool → Members
values_members p probed verdict precise =
    followed_by
    (standing_and (state_of p) p probed precise (member (codes "verdict") (verdict_or_null verdict) no_members))
    (error_members probed)

abbrev pub api_position_members : ApiPosition → Members
api_position_members t = values_members t.told.position t.told.columns.probed t.told.columns.verdict t.precise

-- how the position after a legal move stands, from the view of its side to move, and why a value of it is missing
abbrev pub api_standing_members : ApiMove → Members
api_standing_members t =
    followed_by
    (member (codes "zeroing") (boolean (zeroes_clock t.told.effect)) (standing_and t.told.state t.told.after t.told.probed t.precise no_members))
    (error_members t.told.probed)

-- its distance alone
abbrev pub distance_members : Result ℤ ProbeFault → Bool → Members → Members
distance_members dtz precise others = member (codes "dtz") (number_or_null dtz) (member (codes "precise_dtz") (precise_or_null precise dtz) others)

abbrev pub ply_members : ApiMove → Members
ply_members t = distance_members t.told.probed.dtz t.precise no_members

-- what is told of a move behind its notations: in the list of legal moves, and in a line of play
abbrev pub told_members : MoveForm → ApiMove → Members
told_members form.Legal t = api_standing_members t
told_members form.Ply t = ply_members t

abbrev pub api_move_members : MoveForm → ApiMove → Members
api_move_members form t = member (codes "uci") (string (move_text t.told.played)) (member (codes "san") (string t.told.san.bytes) (told_members form t))

abbrev pub api_move_json : MoveForm → ApiMove → Json
api_move_json form t = object (api_move_members form t)

-- the name of a list
abbrev pub list_name : MoveForm → List ℕ
list_name form.Legal = codes "moves"
list_name form.Ply = codes "mainline"

abbrev pub list_json : MoveForm → List ApiMove → Json
list_json form ts = array (moves_items (api_move_json form) ts)

abbrev pub list_members : MoveForm → List ApiMove → Members
list_members form ts = member (list_name form) (list_json form ts) no_members

abbrev pub api_values_json : ApiPosition → List ApiMove → Json
api_values_json t moves = object (followed_by (api_position_members t) (list_members form.Legal moves))

-- the letter of the side that wins
abbrev pub side_or_null : Option Side → Json
side_or_null None = null
side_or_null (Some White) = string (codes "w")
side_or_null (Some Black) = string (codes "b")

abbrev pub winner_json : ApiPosition → Json
winner_json t = side_or_null (winner_of t.told.position.side t.told.columns.probed.dtz)

abbrev pub mainline_members : ApiPosition → Members
mainline_members t =
    followed_by
    (distance_members t.told.columns.probed.dtz t.precise (member (codes "winner") (winner_json t) no_members))
    (error_members t.told.columns.probed)

abbrev pub mainline_json : ApiPosition → List ApiMove → Json
mainline_json t plies =
    object (followed_by (mainline_members t) (list_members form.Ply plies))

-- a line in this form; a fault, and the refusal of a file, as in the other
abbrev pub api_json : ApiLine → Json
api_json (line.Fault fault) = fault_json fault
api_json (line.Refused words) = error_json words.bytes
api_json (line.Values t moves) = api_values_json t moves.items
api_json (line.Mainline t plies) = mainline_json t plies.items
