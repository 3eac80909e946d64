-- Answers as JSON (RFC 8259): one object a line, in place of the lines of a position.
use Rattle.std.specs.Prelude.{◌≡◌, ℕ, Bool, true, false, List}
use Rattle.board_core.specs.declared.parts.Parts.{Parts}
use Rattle.fen_text.specs.declared.fault.FenFault.{FenFault}
use Rattle.judge_core.specs.Tables.{Tables}
use Rattle.judge_core.specs.declared.ask.Ask.{Ask}
use Rattle.json_lines.specs.declared.told.JsonLine.{JsonLine}
use Rattle.json_lines.specs.declared.told.JsonLine.TheVariants as line
use Rattle.json_lines.specs.Objects.{json_text, line_json}
use Rattle.json_lines.specs.Told.{IsLineFor, IsLineOf, is_done}
use Rattle.line_teller.specs.ToldLines.{LineTold}
use Rattle.judge_core.specs.declared.ask.Ask.TheVariants.{Strict}
use Rattle.system_io.specs.Disks.{DiskFacts}
use Rattle.table_folder.specs.Folders.{Folder}
use Rattle.table_folder.specs.Settled.{IsAlone, IsWithMoves}
use Rattle.line_events.specs.LineEvents.{Answering}
use Rattle.timeline.specs.Events.{Event}
use Rattle.table_commands.specs.FolderAnswers.{IsSpelledBy, refused_table_in}
use Rattle.table_commands.specs.FolderReads.{AnswersByFolder, LacksRoomFor, by_folder_lines}
use Rattle.answer_parts.specs.Lines.{refused_fen}
use Rattle.answer_parts.specs.Reply.{IsText, Reply, refusal_reply}
use Rattle.answer_parts.specs.JsonAnswers.{json_reply}

-- a line of the input: one object for its position, with its moves or without, or one that has the fault of the text
abbrev pub TellsJson : Ask → Bool → Tables → List ℕ → LineTold → Type 0
TellsJson ask with_moves tables text told = (l : JsonLine) × IsLineFor text (IsLineOf ask with_moves tables) l × (told ≡ record { words = json_text (line_json l); done = is_done l })

-- what tables say of the positions after its moves is needed too where these are told
abbrev pub needed_by : Bool → Parts → Tables → Parts → Type 0
needed_by true = IsWithMoves
needed_by false = IsAlone

-- ---- by the tables of a folder that are read when a position asks for them

-- what an object tells
abbrev pub object_told : JsonLine → LineTold
object_told l = record { words = json_text (line_json l); done = is_done l }

abbrev pub AnswersJson : Bool → DiskFacts → Folder → Tables → Tables → List ℕ → JsonLine → List Event → Type 0
AnswersJson with_moves disk folder old new text l = AnswersByFolder disk folder IsSpelledBy (needed_by with_moves) (TellsJson Strict with_moves) (refused_table_in true) old new text (object_told l)

abbrev pub LacksRoomForJson : Bool → DiskFacts → Folder → Tables → List ℕ → List Event → Type 0
LacksRoomForJson with_moves disk folder = LacksRoomFor disk folder IsSpelledBy (needed_by with_moves) IsText

abbrev pub json_lines_in : Bool → DiskFacts → Folder → Answering Tables
json_lines_in with_moves disk folder = by_folder_lines disk folder IsSpelledBy (needed_by with_moves) (TellsJson Strict with_moves) (refused_table_in true) IsText

-- one object for a position and its moves
abbrev pub IsJsonTold : Ask → Tables → Parts → Reply → Type 0
IsJsonTold ask tables p r = (l : JsonLine) × IsLineOf ask true tables p l × (r ≡ json_reply l)

-- the refusal of a text that is no position, as JSON or as a line
abbrev pub refused_in : Bool → FenFault → Reply
refused_in true fault = json_reply (line.Fault fault)
refused_in false fault = refusal_reply (refused_fen fault)
