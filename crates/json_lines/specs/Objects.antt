-- What is told of a position and of its legal moves, as JSON (RFC 8259; names and meanings as in the tablebase API of Lichess,
-- where it has them).
use Rattle.std.specs.Prelude.{ℕ, ℤ, pos, negsuc, Bool, true, false, List, [], ◌∷◌, ◌++◌, Option, Some, None, Result, Ok, Err, codes, if◌then◌else◌}
use Rattle.std.specs.Fmt.{signed_decimal}
use Rattle.std.specs.Ordering.{int_eq}
use Rattle.board_core.specs.declared.parts.Parts.{Parts}
use Rattle.board_core.specs.declared.verdict.Verdict.{Verdict}
use Rattle.board_core.specs.Computed.{is_in_check}
use Rattle.board_core.specs.Ends.{has_insufficient_material}
use Rattle.board_core.specs.Position.{fault_name as position_fault_name}
use Rattle.board_core.specs.Verdicts.{verdict_name}
use Rattle.fen_text.specs.declared.fault.FenFault.{FenFault}
use Rattle.fen_text.specs.declared.fault.FenFault.TheVariants as fen
use Rattle.fen_text.specs.Coordinates.{move_text}
use Rattle.fen_text.specs.Fen.{fen_fault_name}
use Rattle.fen_text.specs.Written.{fen_of}
use Rattle.judge_core.specs.declared.fault.ProbeFault.{ProbeFault}
use Rattle.judge_core.specs.declared.probe_result.ProbeResult.{ProbeResult}
use Rattle.judge_core.specs.declared.root_move.BoardState.{BoardState}
use Rattle.judge_core.specs.declared.root_move.BoardState.TheVariants.{Open, Check, Checkmate, Stalemate}
use Rattle.judge_core.specs.Root.{is_checkmate, state_of, zeroes_clock}
use Rattle.judge_core.specs.Words.{probe_fault_words}
use Rattle.json.specs.Json.{Json, null, boolean, number, string, array, object, Items, no_items, item, Members, no_members, member}
use Rattle.json.specs.Print.{print}
use Rattle.json.specs.Tree.{json_tokens}
use Rattle.json_lines.specs.declared.told.JsonLine.{JsonLine}
use Rattle.json_lines.specs.declared.told.JsonLine.TheVariants as line
use Rattle.json_lines.specs.declared.told.MoveTold.{MoveTold}
use Rattle.json_lines.specs.declared.told.PositionTold.{PositionTold}

-- the text of a value: no space, and the shortest escapes
abbrev pub json_text : Json → List ℕ
json_text j = print (json_tokens j)

-- members, and then others
abbrev pub followed_by : Members → Members → Members
followed_by no_members others = others
followed_by (member k j ms) others = member k j (followed_by ms others)

abbrev pub is_stalemate : BoardState → Bool
is_stalemate Open = false
is_stalemate Check = false
is_stalemate Checkmate = false
is_stalemate Stalemate = true

-- ---- values

-- a number of the tables, or null where there is none
abbrev pub number_or_null : Result ℤ ProbeFault → Json
number_or_null (Ok n) = number (signed_decimal n)
number_or_null (Err fault) = null

-- the verdict's name, or null where the game goes on
abbrev pub verdict_or_null : Option Verdict → Json
verdict_or_null None = null
verdict_or_null (Some v) = string (verdict_name v)

-- the WDL value in a word
abbrev pub category : Result ℤ ProbeFault → List ℕ
category (Ok n) =
    if int_eq n (pos 2) then codes "win"
    else if int_eq n (pos 1) then codes "cursed-win"
    else if int_eq n (pos 0) then codes "draw"
    else if int_eq n (negsuc 0) then codes "blessed-loss"
    else codes "loss"
category (Err fault) = codes "unknown"

-- a side that is mated has lost, and one in stalemate has a draw, whatever the tables say; else the WDL value
abbrev pub category_of : BoardState → Result ℤ ProbeFault → List ℕ
category_of Open wdl = category wdl
category_of Check wdl = category wdl
category_of Checkmate wdl = codes "loss"
category_of Stalemate wdl = codes "draw"

-- why a value is missing, the WDL value's fault first
abbrev pub first_probe_fault : Result ℤ ProbeFault → Result ℤ ProbeFault → Option ProbeFault
first_probe_fault (Ok wdl) (Ok dtz) = None
first_probe_fault (Ok wdl) (Err fault) = Some fault
first_probe_fault (Err fault) dtz = Some fault

abbrev pub fault_members : Option ProbeFault → Members
fault_members None = no_members
fault_members (Some fault) = member (codes "error") (string (probe_fault_words fault)) no_members

abbrev pub error_members : ProbeResult → Members
error_members probed = fault_members (first_probe_fault probed.wdl probed.dtz)

-- ---- objects

-- a position, and what both probes and the verdict tell of it
abbrev pub position_members : Parts → ProbeResult → Option Verdict → Members
position_members p probed verdict =
    followed_by
    (member (codes "fen") (string (fen_of p))
    (member (codes "wdl") (number_or_null probed.wdl)
    (member (codes "dtz") (number_or_null probed.dtz)
    (member (codes "verdict") (verdict_or_null verdict)
    (member (codes "category") (string (category_of (state_of p) probed.wdl))
    (member (codes "checkmate") (boolean (is_checkmate (state_of p)))
    (member (codes "stalemate") (boolean (is_stalemate (state_of p)))
    (member (codes "insufficient_material") (boolean (has_insufficient_material p)) no_members))))))))
    (error_members probed)

-- so it is of what is told of a position
abbrev pub members_told : PositionTold → Members
members_told told = position_members told.position told.columns.probed told.columns.verdict

-- the position after a legal move: what the probes tell of it, from the view of its side to move, and how it ends the game
abbrev pub value_members : MoveTold → Members
value_members t =
    member (codes "fen") (string (fen_of t.after))
    (member (codes "wdl") (number_or_null t.probed.wdl)
    (member (codes "dtz") (number_or_null t.probed.dtz)
    (member (codes "category") (string (category_of t.state t.probed.wdl))
    (member (codes "zeroing") (boolean (zeroes_clock t.effect))
    (member (codes "checkmate") (boolean (is_checkmate t.state))
    (member (codes "stalemate") (boolean (is_stalemate t.state)) no_members))))))

-- whether it is check, and whether no mate can come from it
abbrev pub standing_members : MoveTold → Members
standing_members t =
    member (codes "check") (boolean (is_in_check t.after.men t.after.side))
    (member (codes "insufficient_material") (boolean (has_insufficient_material t.after)) no_members)

-- these, and why a value is missing
abbrev pub standing_with_error : MoveTold → Members
standing_with_error t = followed_by (standing_members t) (error_members t.probed)

-- these, with the move in standard algebraic notation between, and why a value is missing
abbrev pub after_members : MoveTold → Members
after_members t =
    followed_by (value_members t)
    (member (codes "san") (string t.san.bytes) (standing_with_error t))

abbrev pub move_members : MoveTold → Members
move_members t = member (codes "uci") (string (move_text t.played)) (after_members t)

abbrev pub move_json : MoveTold → Json
move_json t = object (move_members t)

-- moves, each written so
abbrev pub moves_items : {T : Type 0} → (T → Json) → List T → Items
moves_items json [] = no_items
moves_items json (t ∷ ts) = item (json t) (moves_items json ts)

abbrev pub moves_members : (MoveTold → Json) → List MoveTold → Members
moves_members json ts = member (codes "moves") (array (moves_items json ts)) no_members

-- why a text is no position
abbrev pub fen_error : FenFault → List ℕ
fen_error (fen.BadPosition fault) = codes "FEN BadPosition " ++ position_fault_name fault
fen_error fen.FieldCount = codes "FEN " ++ fen_fault_name fen.FieldCount
fen_error fen.BadPlacement = codes "FEN " ++ fen_fault_name fen.BadPlacement
fen_error fen.BadSide = codes "FEN " ++ fen_fault_name fen.BadSide
fen_error fen.BadCastlingText = codes "FEN " ++ fen_fault_name fen.BadCastlingText
fen_error fen.BadSquare = codes "FEN " ++ fen_fault_name fen.BadSquare
fen_error fen.BadNumber = codes "FEN " ++ fen_fault_name fen.BadNumber

-- an object that says why there is no answer
abbrev pub error_json : List ℕ → Json
error_json words = object (member (codes "error") (string words) no_members)

abbrev pub fault_json : FenFault → Json
fault_json fault = error_json (fen_error fault)

abbrev pub position_json : PositionTold → Json
position_json t = object (position_members t.position t.columns.probed t.columns.verdict)

abbrev pub root_json : PositionTold → List MoveTold → Json
root_json t moves = object (followed_by (position_members t.position t.columns.probed t.columns.verdict) (moves_members move_json moves))

-- a line: why a text is no position, or why a table that it needs isn't read, or a position, or a position and its moves
abbrev pub line_json : JsonLine → Json
line_json (line.Fault fault) = fault_json fault
line_json (line.Refused words) = error_json words.bytes
line_json (line.Position t) = position_json t
line_json (line.Root t moves) = root_json t moves.items
