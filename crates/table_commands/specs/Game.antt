-- `game [--tables DIR] [--manifest FILE] [--all-tables] [--delay N] [--san] FEN`: what the game of the input comes to (this project's own).
use Rattle.std.specs.Prelude.{◌≡◌, not, ℕ, Bool, true, false, List, [], length, Option, Some, None, Result, Ok, Err}
use Rattle.std.specs.Borrow.{Bor}
use Rattle.board_core.specs.declared.moves.Move.{Move}
use Rattle.board_core.specs.declared.parts.Parts.{Parts}
use Rattle.command_line.specs.LazyFolders.{read_when_asked}
use Rattle.command_line.specs.declared.commands.game.FollowGame.{FollowGame}
use Rattle.judge_core.specs.Tables.{Tables}
use Rattle.judge_core.specs.Words.{outcome_words}
use Rattle.judge_core.specs.declared.game.GameOutcome.{GameOutcome}
use Rattle.judge_core.specs.declared.game.GameOutcome.TheVariants.{Ruled, Illegal, Going}
use Rattle.move_msg.specs.GameTexts.{words_in}
use Rattle.move_msg.specs.TextLines.{ended}
use Rattle.move_notation.specs.Notations.{AreMovesIn, IsBadWordIn, notation_by}
use Rattle.system_io.specs.Disks.{DiskFacts}
use Rattle.system_io.specs.declared.reading.ReadFault.{ReadFault}
use Rattle.system_io.specs.declared.reading.ReadFault.TheVariants as read
use Rattle.task_files.specs.Given.{Given}
use Rattle.task_files.specs.InputReads.{Reading}
use Rattle.timeline.specs.Events.{Event}
use Rattle.answer_parts.specs.Lines.{refusal_words, refused_move}
use Rattle.answer_parts.specs.Looks.{gathered}
use Rattle.answer_parts.specs.Reply.{Reply, refusal_reply, status_if}
use Rattle.table_commands.specs.Courses.{GameAsked, IsOutcomeOf, in_play_of}
use Rattle.table_commands.specs.FolderReads.{MakesForText, MakesInFolder, MakesOfGiven, fen_refusal}

-- all moves of the game are legal, or those to its verdict
abbrev pub are_all_legal : GameOutcome → Bool
are_all_legal (Ruled ply verdict) = true
are_all_legal (Illegal place) = false
are_all_legal Going = true

abbrev pub outcome_reply : GameOutcome → List Move → Reply
outcome_reply outcome moves = record { text = ended (outcome_words outcome (length moves)); status = status_if (are_all_legal outcome) }

-- the line of what the game comes to by tables
abbrev pub IsOutcomeReply : GameAsked → Tables → Reply → Type 0
IsOutcomeReply g tables r = (outcome : GameOutcome) × IsOutcomeOf g tables outcome × (r ≡ outcome_reply outcome g.moves)

abbrev pub IsOutcomeOfGiven : GameAsked → Tables → Parts → Reply → Type 0
IsOutcomeOfGiven g tables start r = IsOutcomeReply g tables r

-- by the tables of a folder that are read when positions ask for them, or by those that were given
abbrev pub JudgesCourse : DiskFacts → Given → Option (Bor (List ℕ)) → GameAsked → Reading Reply
JudgesCourse disk given (Some path) g = MakesInFolder disk path.now given.told refusal_words (in_play_of g) (IsOutcomeReply g)
JudgesCourse disk given None g = MakesOfGiven (gathered given) (IsOutcomeOfGiven g) g.start

abbrev pub course_from : FollowGame → Parts → List Move → GameAsked
course_from t start moves = record { start = start; moves = moves; delay = t.delay }

-- The refusal of the first word that is no move, in algebraic notation no legal one in its turn; or else what the game comes to. Memory may be
-- refused for its moves.
pub data PlaysFrom (disk : DiskFacts) (t : FollowGame) (given : Given) (start : Parts) (result : Result Reply ReadFault) (events : List Event) : Type 0 where
  BadWord : (place : ℕ) → IsBadWordIn (notation_by t.san) start (words_in given.input) place → result ≡ Ok (refusal_reply (refused_move place)) → events ≡ [] → PlaysFrom disk t given start result events
  NoRoomForMoves : result ≡ Err read.OutOfMemory → events ≡ [] → PlaysFrom disk t given start result events
  Plays : (moves : List Move) → AreMovesIn (notation_by t.san) start (words_in given.input) moves → JudgesCourse disk given (read_when_asked (not t.all_tables) t.tables) (course_from t start moves) result events → PlaysFrom disk t given start result events

-- its reply after what it names was read, by what happens outside
abbrev pub PlaysGame : DiskFacts → FollowGame → Given → Reading Reply
PlaysGame disk t given = MakesForText t.fen.now fen_refusal (PlaysFrom disk t given)
