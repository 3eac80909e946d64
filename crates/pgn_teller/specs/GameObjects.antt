-- The lines of games as JSON objects (RFC 8259).
use Rattle.std.specs.Prelude.{ℕ, List, [], ◌∷◌, ◌++◌, Option, Some, None, codes}
use Rattle.std.specs.List.{fold}
use Rattle.std.specs.Fmt.{decimal}
use Rattle.std.specs.Str.Lossy.{utf8_lossy}
use Rattle.board_core.specs.declared.moves.Move.{Move}
use Rattle.board_core.specs.Verdicts.{verdict_name}
use Rattle.fen_text.specs.Coordinates.{move_text}
use Rattle.fen_text.specs.Written.{fen_of}
use Rattle.json.specs.Json.{Json, null, number, string, Members, no_members, member}
use Rattle.pgn_games.specs.declared.fault.Cause.{Cause}
use Rattle.pgn_games.specs.declared.fault.GameFault.{GameFault}
use Rattle.pgn_games.specs.declared.game.GameResult.{GameResult}
use Rattle.pgn_games.specs.declared.game.GameResult.TheVariants.{WhiteWins, BlackWins, Draw, Unknown, Missing}
use Rattle.pgn_games.specs.Games.{GameTold}
use Rattle.pgn_teller.specs.declared.finding.Finding.{Finding}
use Rattle.pgn_teller.specs.declared.finding.Finding.TheVariants.{Agrees, Differs, Uncompared}
use Rattle.pgn_teller.specs.declared.rating.Ruled.{Ruled}
use Rattle.pgn_teller.specs.declared.sums.Sums.{Sums}
use Rattle.table_folder.specs.declared.fault.FileRefusal.{FileRefusal}
use Rattle.pgn_teller.specs.GameLines.{cause_words, file_words}
use Rattle.pgn_teller.specs.Ratings.{finding_of, finding_word, result_word}

-- bytes as text: what is no UTF-8 in them stands as U+FFFD
abbrev pub lossy : List ℕ → List ℕ
lossy bytes = utf8_lossy bytes

abbrev pub text_or_null : Option (List ℕ) → Json
text_or_null None = null
text_or_null (Some text) = string text

abbrev pub tag_or_null : Option (List ℕ) → Json
tag_or_null None = null
tag_or_null (Some value) = string (lossy value)

-- a move behind others, with a space between
abbrev pub with_move : List ℕ → Move → List ℕ
with_move [] m = move_text m
with_move (byte ∷ bytes) m = (byte ∷ bytes) ++ codes " " ++ move_text m

-- moves in coordinates, with spaces between
unfoldable pub moves_text : List Move → List ℕ
moves_text moves = fold with_move [] moves

-- the ply of the first verdict, and its name
abbrev pub ply_or_null : Option Ruled → Json
ply_or_null None = null
ply_or_null (Some ruled) = number (decimal ruled.ply)

abbrev pub ruled_verdict_or_null : Option Ruled → Json
ruled_verdict_or_null None = null
ruled_verdict_or_null (Some ruled) = string (verdict_name ruled.verdict)

-- the result that stands in the file, and what it is beside the verdict
abbrev pub result_or_null : GameResult → Json
result_or_null WhiteWins = string (result_word WhiteWins)
result_or_null BlackWins = string (result_word BlackWins)
result_or_null Draw = string (result_word Draw)
result_or_null Unknown = string (result_word Unknown)
result_or_null Missing = null

abbrev pub finding_or_null : Finding → Json
finding_or_null Agrees = string (finding_word Agrees)
finding_or_null Differs = string (finding_word Differs)
finding_or_null Uncompared = null

-- a game: its number and its line, its tags, its start as FEN, its moves, its first verdict, and its result
abbrev pub game_members : ℕ → GameTold → Option Ruled → Members
game_members n game ruled =
    member (codes "game") (number (decimal n))
    (member (codes "line") (number (decimal game.line))
    (member (codes "event") (tag_or_null game.tags.event)
    (member (codes "white") (tag_or_null game.tags.white)
    (member (codes "black") (tag_or_null game.tags.black)
    (member (codes "round") (tag_or_null game.tags.round)
    (member (codes "result_tag") (tag_or_null game.tags.result)
    (member (codes "start") (string (fen_of game.start))
    (member (codes "moves") (string (moves_text game.moves))
    (member (codes "ply") (ply_or_null ruled)
    (member (codes "verdict") (ruled_verdict_or_null ruled)
    (member (codes "result") (result_or_null game.result)
    (member (codes "finding") (finding_or_null (finding_of ruled game.result)) no_members))))))))))))

abbrev pub cause_json : Cause → Json
cause_json cause = string (cause_words cause)

-- a game that isn't read: its line, why, the line at fault, and how many plies came before it
abbrev pub unread_game_members : ℕ → GameFault → Members
unread_game_members n fault =
    member (codes "game") (number (decimal n))
    (member (codes "line") (number (decimal fault.line))
    (member (codes "error") (cause_json fault.cause)
    (member (codes "at") (number (decimal fault.at))
    (member (codes "ply") (number (decimal fault.plies)) no_members))))

-- a game that needs a table whose file is refused: its line, and the file
abbrev pub refused_game_members : ℕ → ℕ → FileRefusal → Members
refused_game_members n line refusal =
    member (codes "game") (number (decimal n))
    (member (codes "line") (number (decimal line))
    (member (codes "error") (string (file_words refusal)) no_members))

-- how many games there are of each kind
abbrev pub sums_members : Sums → Members
sums_members s =
    member (codes "games") (number (decimal s.games))
    (member (codes "ruled") (number (decimal s.ruled))
    (member (codes "faults") (number (decimal s.faults))
    (member (codes "agree") (number (decimal s.agree))
    (member (codes "differ") (number (decimal s.differ)) no_members))))
