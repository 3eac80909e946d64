-- `games --tables DIR [--manifest FILE] [--all-tables] [--memory MB] [--delay N] [--progress]`: what the games of the input come to, a line each (this project's own).
use Rattle.std.specs.Prelude.{◌≡◌, ◌==◌, ◌+◌, not, ℕ, false, List, [], length, Option, Some, None, drop, position, take}
use Rattle.board_core.specs.declared.parts.Parts.{Parts}
use Rattle.board_core.specs.declared.moves.Move.{Move}
use Rattle.board_core.specs.Position.{IsPosition}
use Rattle.fen_text.specs.declared.fault.FenFault.{FenFault}
use Rattle.fen_text.specs.Fen.{SpellsPosition, IsFirstFenFault}
use Rattle.judge_core.specs.declared.game.GameOutcome.{GameOutcome}
use Rattle.judge_core.specs.Games.{IsOutcome}
use Rattle.judge_core.specs.Words.{outcome_words}
use Rattle.judge_core.specs.Tables.{Tables}
use Rattle.move_msg.specs.GameTexts.{IsBadWordAt, TellsMoves, words_in}
use Rattle.line_teller.specs.ToldLines.{LineTold}
use Rattle.system_io.specs.Disks.{DiskFacts}
use Rattle.system_io.specs.Inputs.{InputFacts}
use Rattle.table_folder.specs.Folders.{Folder}
use Rattle.line_events.specs.LineEvents.{Answering, AnswersInput}
use Rattle.line_events.specs.Writing.{at_once}
use Rattle.timeline.specs.Events.{Event}
use Rattle.table_commands.specs.Courses.{GameAsked, in_play_of}
use Rattle.table_commands.specs.FolderAnswers.{refused_table}
use Rattle.table_commands.specs.FolderReads.{AnswersByFolder, Doing, LacksRoomFor, by_folder_lines, no_tables}
use Rattle.command_line.specs.LazyFolders.{read_when_asked}
use Rattle.table_commands.specs.Game.{are_all_legal}
use Rattle.table_commands.specs.LineTasks.{LineAsking}
use Rattle.answer_parts.specs.Lines.{refused_fen, refused_move}
use Rattle.answer_parts.specs.Reply.{IsText}
use Rattle.command_line.specs.Commands.Games.{named}
use Rattle.command_line.specs.declared.commands.games.FollowGames.{FollowGames}

-- ---- a line: the FEN text of a start, and behind the first tab the moves from there

abbrev pub start_before : List ℕ → Option ℕ → List ℕ
start_before line None = line
start_before line (Some tab) = take tab line

abbrev pub moves_behind : List ℕ → Option ℕ → List ℕ
moves_behind line None = []
moves_behind line (Some tab) = drop (tab + 1) line

-- where the first tab of a line stands
abbrev pub tab_in : List ℕ → Option ℕ
tab_in line = position (λ b. b == 9) line

abbrev pub start_in : List ℕ → List ℕ
start_in line = start_before line (tab_in line)

abbrev pub moves_in : List ℕ → List ℕ
moves_in line = moves_behind line (tab_in line)

-- the start is a position
abbrev pub HasStartFen : List ℕ → Type 0
HasStartFen line = IsText (start_in line)

-- a line is told as `game` tells it: the refusal of its start; or else of its first word that is no move; or else what its game comes to
pub data TellsGameLine (delay : ℕ) (tables : Tables) (line : List ℕ) (told : LineTold) : Type 0 where
  NoStart : (fault : FenFault) → IsFirstFenFault (start_in line) fault → told ≡ record { words = refused_fen fault; done = false } → TellsGameLine delay tables line told
  NoMove : HasStartFen line → (place : ℕ) → IsBadWordAt (words_in (moves_in line)) place → told ≡ record { words = refused_move place; done = false } → TellsGameLine delay tables line told
  Played : (start : Parts) → SpellsPosition (start_in line) start → IsPosition start → (moves : List Move) → TellsMoves (moves_in line) moves → (outcome : GameOutcome) → IsOutcome (record { start = start; tables = tables; delay = delay }) moves outcome → told ≡ record { words = outcome_words outcome (length moves); done = are_all_legal outcome } → TellsGameLine delay tables line told

-- ---- by a folder whose tables are read when the positions of a game ask for them

-- the game that a line spells, for verdicts that hold for so many further plies
abbrev pub SpellsGame : ℕ → List ℕ → GameAsked → Type 0
SpellsGame delay line game = SpellsPosition (start_in line) game.start × IsPosition game.start × TellsMoves (moves_in line) game.moves × (game.delay ≡ delay)

abbrev pub AnswersGame : ℕ → DiskFacts → Folder → Tables → Tables → List ℕ → LineTold → List Event → Type 0
AnswersGame delay disk folder = AnswersByFolder disk folder (SpellsGame delay) in_play_of (TellsGameLine delay) refused_table

abbrev pub LacksRoomForGame : ℕ → DiskFacts → Folder → Tables → List ℕ → List Event → Type 0
LacksRoomForGame delay disk folder = LacksRoomFor disk folder (SpellsGame delay) in_play_of HasStartFen

abbrev pub game_lines_in : ℕ → DiskFacts → Folder → Answering Tables
game_lines_in delay disk folder = by_folder_lines disk folder (SpellsGame delay) in_play_of (TellsGameLine delay) refused_table HasStartFen

-- ---- the command

-- the lines of the input, where the tables of a folder are asked, of which none is open at first; or those that were given
abbrev pub JudgesInFolder : DiskFacts → InputFacts → FollowGames → Folder → Doing
JudgesInFolder disk input t folder = AnswersInput input (game_lines_in t.delay disk folder) no_tables t.progress

abbrev pub JudgesByTables : InputFacts → FollowGames → Tables → Doing
JudgesByTables input t tables = AnswersInput input (at_once (TellsGameLine t.delay tables) HasStartFen) tt t.progress

abbrev pub games_asking : FollowGames → LineAsking
games_asking t = record {
  named = named t;
  path = read_when_asked (not t.all_tables) (Some t.tables);
  InFolder = λ disk input folder. JudgesInFolder disk input t folder;
  ByTables = λ input tables. JudgesByTables input t tables;
}
