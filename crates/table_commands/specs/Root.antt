-- `root --tables DIR [--manifest FILE] [--all-tables] [--memory MB] [--json] [--determined] [FEN]`: what tables tell of the legal moves of a position, or of the positions of the input
-- (this project's own).
use Rattle.std.specs.Prelude.{◌≡◌, ◌⊎◌, ◌++◌, ◌&&◌, ◌==◌, ℕ, Bool, true, false, List, [], ◌∷◌, map, Option, Some, None}
use Rattle.std.specs.Borrow.{Bor}
use Rattle.std.specs.List.{list_all}
use Rattle.board_core.specs.declared.parts.Parts.{Parts}
use Rattle.command_line.specs.Commands.Root.{is_lazy, named}
use Rattle.command_line.specs.LazyFolders.{read_when_asked}
use Rattle.command_line.specs.declared.commands.root.Root.{Root}
use Rattle.judge_core.specs.Ask.{IsAnswered, IsRanked, ask_of}
use Rattle.judge_core.specs.ProbeResult.{has_both}
use Rattle.judge_core.specs.Ruling.{is_out_of_scope, ruling}
use Rattle.judge_core.specs.Tables.{Tables}
use Rattle.judge_core.specs.Words.{columns_words}
use Rattle.judge_core.specs.declared.ask.Ask.{Ask}
use Rattle.judge_core.specs.declared.ask.Ask.TheVariants.{Strict}
use Rattle.judge_core.specs.declared.probe_result.ProbeResult.{ProbeResult}
use Rattle.judge_core.specs.declared.root_move.RootMove.{RootMove}
use Rattle.line_events.specs.LineEvents.{Answering, AnswersInput}
use Rattle.line_events.specs.Writing.{at_once}
use Rattle.line_teller.specs.ToldLines.{LineTold}
use Rattle.move_msg.specs.TextLines.{ended, text_of}
use Rattle.system_io.specs.Disks.{DiskFacts}
use Rattle.system_io.specs.Inputs.{InputFacts}
use Rattle.table_folder.specs.Folders.{Folder}
use Rattle.table_folder.specs.Settled.{IsWithMoves}
use Rattle.table_folder.specs.declared.fault.FileRefusal.{FileRefusal}
use Rattle.task_files.specs.Given.{Given}
use Rattle.task_files.specs.InputReads.{Reading}
use Rattle.timeline.specs.Events.{Event}
use Rattle.answer_parts.specs.Lines.{probed_of, refusal_words, root_words}
use Rattle.answer_parts.specs.Looks.{gathered}
use Rattle.answer_parts.specs.Reply.{IsForText, IsText, Reply, status_if}
use Rattle.answer_parts.specs.declared.answers.refusals.Refusal.{Refusal}
use Rattle.answer_parts.specs.declared.answers.refusals.Refusal.TheVariants as refusal
use Rattle.table_commands.specs.FolderAnswers.{IsSpelledBy, refused_table, refused_table_in}
use Rattle.table_commands.specs.FolderReads.{AnswersByFolder, Doing, MakesForText, MakesInFolder, MakesOfGiven, by_folder_lines, no_tables}
use Rattle.table_commands.specs.LineTasks.{LineAsking}
use Rattle.table_commands.specs.JsonAnswers.{IsJsonTold, TellsJson, json_lines_in, refused_in}

-- A line for each legal move, the best first, and then what `probes` tells of the position. It is complete where nothing is refused.
abbrev pub root_reply : List RootMove → ProbeResult → List ℕ → Reply
root_reply moves probed columns = record {
  text = text_of (map root_words moves ++ columns ∷ []);
  status = status_if (has_both probed && list_all (λ m. has_both (probed_of m)) moves);
}

-- the legal moves by value, none where the position is out of scope
abbrev pub AreRootMoves : Ask → Tables → Parts → List RootMove → Type 0
AreRootMoves ask tables p moves = ((is_out_of_scope p ≡ true) × (moves ≡ [])) ⊎ ((is_out_of_scope p ≡ false) × IsRanked ask tables p moves)

abbrev pub IsRootReply : Ask → Tables → Parts → Reply → Type 0
IsRootReply ask tables p r =
    (moves : List RootMove) × AreRootMoves ask tables p moves × (probed : ProbeResult) × IsAnswered ask tables p probed
    × (r ≡ root_reply moves probed (columns_words probed.wdl probed.dtz (ruling tables p)))

-- a line of the input: what is told of its position, or the refusal of the text, and then an empty line
abbrev pub TellsLine : Ask → Tables → List ℕ → LineTold → Type 0
TellsLine ask tables text line = (r : Reply) × IsForText text (IsRootReply ask tables) r × (line ≡ record { words = r.text; done = r.status == 0 })

-- so it is told in lines or as JSON
abbrev pub IsToldIn : Bool → Ask → Tables → Parts → Reply → Type 0
IsToldIn true = IsJsonTold
IsToldIn false = IsRootReply

abbrev pub TellsLineIn : Bool → Ask → Tables → List ℕ → LineTold → Type 0
TellsLineIn true ask = TellsJson ask true
TellsLineIn false ask = TellsLine ask

-- ---- by a folder whose tables are read when positions ask for them: a position, and those after its moves

-- what is told, with its last line feed
abbrev pub reply_told : Reply → LineTold
reply_told r = record { words = r.text; done = r.status == 0 }

abbrev pub table_refused : FileRefusal → List ℕ
table_refused file = ended (refused_table file)

abbrev pub AnswersRoot : DiskFacts → Folder → Tables → Tables → List ℕ → Reply → List Event → Type 0
AnswersRoot disk folder old new text r = AnswersByFolder disk folder IsSpelledBy IsWithMoves (TellsLine Strict) table_refused old new text (reply_told r)

abbrev pub root_lines_in : DiskFacts → Folder → Answering Tables
root_lines_in disk folder = by_folder_lines disk folder IsSpelledBy IsWithMoves (TellsLine Strict) table_refused IsText

-- in lines or as JSON
abbrev pub lines_in : Bool → DiskFacts → Folder → Answering Tables
lines_in true = json_lines_in true
lines_in false = root_lines_in

-- ---- a position of the words

-- a refusal, that of a table's file as JSON or as a line
abbrev pub refused_words : Bool → Refusal → List ℕ
refused_words json (refusal.File name fault) = refused_table_in json (record { name = name; fault = fault })
refused_words json other = refusal_words other

-- by the tables of a folder that are read when the position or one after its moves asks for them, or by those that were given
abbrev pub RanksAt : DiskFacts → Root → Given → Parts → Option (Bor (List ℕ)) → Reading Reply
RanksAt disk t given p (Some path) = MakesInFolder disk path.now given.told (refused_words t.json) (IsWithMoves p) (λ tables. IsToldIn t.json Strict tables p)
RanksAt disk t given p None = MakesOfGiven (gathered given) (IsToldIn t.json (ask_of t.determined)) p

abbrev pub RanksGiven : DiskFacts → Root → Given → Parts → Reading Reply
RanksGiven disk t given p = RanksAt disk t given p (read_when_asked (is_lazy t) (Some t.tables))

-- its reply after what it names was read, by what happens outside
abbrev pub RanksText : List ℕ → DiskFacts → Root → Given → Reading Reply
RanksText text disk t given = MakesForText text (refused_in t.json) (RanksGiven disk t given)

-- ---- the positions of the input

-- the lines of the input, where the tables of a folder are asked, of which none is open at first; or those that were given
abbrev pub RanksInFolder : DiskFacts → InputFacts → Root → Folder → Doing
RanksInFolder disk input t folder = AnswersInput input (lines_in t.json disk folder) no_tables false

abbrev pub RanksByTables : InputFacts → Root → Tables → Doing
RanksByTables input t tables = AnswersInput input (at_once (TellsLineIn t.json (ask_of t.determined) tables) IsText) tt false

abbrev pub root_asking : Root → LineAsking
root_asking t = record {
  named = named t;
  path = read_when_asked (is_lazy t) (Some t.tables);
  InFolder = λ disk input folder. RanksInFolder disk input t folder;
  ByTables = λ input tables. RanksByTables input t tables;
}
