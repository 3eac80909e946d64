-- The lines of games as words (this project's own).
use Rattle.std.specs.Prelude.{ℕ, List, ◌++◌, Option, Some, None, codes}
use Rattle.std.specs.Fmt.{decimal}
use Rattle.board_core.specs.Position.{fault_name as position_fault_name}
use Rattle.board_core.specs.Verdicts.{verdict_name}
use Rattle.fen_text.specs.declared.fault.FenFault.{FenFault}
use Rattle.fen_text.specs.declared.fault.FenFault.TheVariants as fen
use Rattle.fen_text.specs.Fen.{fen_fault_name}
use Rattle.san_text.specs.San.{san_fault_name}
use Rattle.pgn_games.specs.declared.fault.Cause.{Cause}
use Rattle.pgn_games.specs.declared.fault.Cause.TheVariants.{BadTag, BadFen, BadMove, TooManyMoves, StrayToken, OpenVariation, EndlessComment, LongLine}
use Rattle.pgn_games.specs.declared.fault.GameFault.{GameFault}
use Rattle.pgn_games.specs.declared.game.GameResult.{GameResult}
use Rattle.table_folder.specs.declared.fault.FileRefusal.{FileRefusal}
use Rattle.table_folder.specs.Faults.{file_fault_name}
use Rattle.pgn_teller.specs.declared.rating.Ruled.{Ruled}
use Rattle.pgn_teller.specs.declared.sums.Sums.{Sums}
use Rattle.pgn_teller.specs.Ratings.{finding_of, finding_word, result_word}

-- the ply of the first verdict and the verdict, or that there is none
abbrev pub ruled_words : Option Ruled → List ℕ
ruled_words None = codes "- open"
ruled_words (Some ruled) = decimal ruled.ply ++ codes " " ++ verdict_name ruled.verdict

-- a game: its number, its plies, its verdict, the result that stands in the file, and whether that is the verdict's
abbrev pub game_words : ℕ → ℕ → Option Ruled → GameResult → List ℕ
game_words number plies ruled stands =
    decimal number ++ codes " " ++ decimal plies ++ codes " " ++ ruled_words ruled ++ codes " " ++ result_word stands ++ codes " " ++ finding_word (finding_of ruled stands)

-- why the value of a FEN tag is no position
abbrev pub fen_words : FenFault → List ℕ
fen_words (fen.BadPosition fault) = codes "BadPosition " ++ position_fault_name fault
fen_words fen.FieldCount = fen_fault_name fen.FieldCount
fen_words fen.BadPlacement = fen_fault_name fen.BadPlacement
fen_words fen.BadSide = fen_fault_name fen.BadSide
fen_words fen.BadCastlingText = fen_fault_name fen.BadCastlingText
fen_words fen.BadSquare = fen_fault_name fen.BadSquare
fen_words fen.BadNumber = fen_fault_name fen.BadNumber

-- why a game isn't read
abbrev pub cause_words : Cause → List ℕ
cause_words BadTag = codes "BadTag"
cause_words (BadFen fault) = codes "BadFen " ++ fen_words fault
cause_words (BadMove fault) = codes "BadMove " ++ san_fault_name fault
cause_words TooManyMoves = codes "TooManyMoves"
cause_words StrayToken = codes "StrayToken"
cause_words OpenVariation = codes "OpenVariation"
cause_words EndlessComment = codes "EndlessComment"
cause_words LongLine = codes "LongLine"

-- a game that isn't read: its number, the line at fault, the plies before it, and why
abbrev pub unread_game_words : ℕ → GameFault → List ℕ
unread_game_words number fault =
    decimal number ++ codes " refused line " ++ decimal fault.at ++ codes " ply " ++ decimal fault.plies ++ codes " " ++ cause_words fault.cause

-- the name of a table's file and what is wrong with it
abbrev pub file_words : FileRefusal → List ℕ
file_words refusal = refusal.name.bytes ++ codes " " ++ file_fault_name refusal.fault

-- a game that needs a table whose file is refused: its number, and the file
abbrev pub refused_game_words : ℕ → FileRefusal → List ℕ
refused_game_words number refusal = decimal number ++ codes " refused " ++ file_words refusal

-- how many games there are of each kind
abbrev pub pgn_sums_words : Sums → List ℕ
pgn_sums_words s =
    decimal s.games ++ codes " games, " ++ decimal s.ruled ++ codes " with a verdict, " ++ decimal s.faults ++ codes " at fault, " ++ decimal s.agree ++ codes " agree, " ++ decimal s.differ ++ codes " differ"
