-- `probes --tables DIR [--manifest FILE] [--all-tables] [--memory MB] [--json] [--determined] [--soon] [--progress]`: what tables tell of the positions of the input (this project's own).
use Rattle.std.specs.Result.{is_ok}
use Rattle.std.specs.Prelude.{◌≡◌, ℕ, Bool, true, false, List, Some, Result}
use Rattle.system_io.specs.Disks.{DiskFacts}
use Rattle.system_io.specs.Inputs.{InputFacts}
use Rattle.table_folder.specs.Folders.{Folder}
use Rattle.table_folder.specs.Settled.{IsAlone}
use Rattle.line_events.specs.LineEvents.{Answering, AnswersInput}
use Rattle.line_events.specs.Writing.{at_once}
use Rattle.timeline.specs.Events.{Event}
use Rattle.table_commands.specs.FolderAnswers.{IsSpelledBy, refused_table}
use Rattle.table_commands.specs.FolderReads.{AnswersByFolder, Doing, by_folder_lines, no_tables}
use Rattle.command_line.specs.LazyFolders.{read_when_asked}
use Rattle.answer_parts.specs.Reply.{IsText}
use Rattle.board_core.specs.declared.parts.Parts.{Parts}
use Rattle.board_core.specs.Position.{IsPosition}
use Rattle.fen_text.specs.declared.fault.FenFault.{FenFault}
use Rattle.fen_text.specs.Fen.{SpellsPosition, IsFirstFenFault}
use Rattle.judge_core.specs.declared.fault.ProbeFault.{ProbeFault}
use Rattle.judge_core.specs.declared.probe_result.ProbeResult.{ProbeResult}
use Rattle.judge_core.specs.declared.wdl.Wdl.{Wdl}
use Rattle.judge_core.specs.Ruling.{ruling}
use Rattle.judge_core.specs.ProbeResult.{has_both, numbered}
use Rattle.judge_core.specs.Known.{IsKnownProbe}
use Rattle.judge_core.specs.Words.{column_words, columns_words}
use Rattle.judge_core.specs.Tables.{Tables}
use Rattle.table_commands.specs.JsonAnswers.{TellsJson, json_lines_in}
use Rattle.table_commands.specs.LineTasks.{LineAsking}
use Rattle.answer_parts.specs.Lines.{refused_fen}
use Rattle.judge_core.specs.Ask.{IsAnswered, ask_of}
use Rattle.judge_core.specs.declared.ask.Ask.{Ask}
use Rattle.judge_core.specs.declared.ask.Ask.TheVariants.{Strict}
use Rattle.line_teller.specs.ToldLines.{LineTold}
use Rattle.command_line.specs.declared.commands.probes.Probes.{Probes}
use Rattle.command_line.specs.Commands.Probes.{is_lazy, named}

-- a line: what `probe` and `judge` tell of its position, in columns, or the refusal of the text
pub data TellsLine (ask : Ask) (tables : Tables) (text : List ℕ) (told : LineTold) : Type 0 where
  OfPosition : (p : Parts) → SpellsPosition text p → IsPosition p → (probed : ProbeResult) → IsAnswered ask tables p probed → told ≡ record { words = columns_words probed.wdl probed.dtz (ruling tables p); done = has_both probed } → TellsLine ask tables text told
  OfNone : (fault : FenFault) → IsFirstFenFault text fault → told ≡ record { words = refused_fen fault; done = false } → TellsLine ask tables text told

-- a line: the value of its position as soon as it is known, or the refusal of the text
pub data TellsKnown (tables : Tables) (text : List ℕ) (told : LineTold) : Type 0 where
  OfKnown : (p : Parts) → SpellsPosition text p → IsPosition p → (wdl : Result Wdl ProbeFault) → IsKnownProbe tables p wdl → told ≡ record { words = column_words (numbered wdl); done = is_ok wdl } → TellsKnown tables text told
  OfNoText : (fault : FenFault) → IsFirstFenFault text fault → told ≡ record { words = refused_fen fault; done = false } → TellsKnown tables text told

-- values as they are asked for, in columns or as JSON
abbrev pub TellsAskedIn : Bool → Ask → Tables → List ℕ → LineTold → Type 0
TellsAskedIn true ask = TellsJson ask false
TellsAskedIn false ask = TellsLine ask

-- so a line is told, or the value as soon as it is known
abbrev pub TellsLineIn : Bool → Bool → Ask → Tables → List ℕ → LineTold → Type 0
TellsLineIn true json ask = TellsKnown
TellsLineIn false json ask = TellsAskedIn json ask

-- ---- by the tables of a folder that are read when a position asks for them

abbrev pub AnswersColumns : DiskFacts → Folder → Tables → Tables → List ℕ → LineTold → List Event → Type 0
AnswersColumns disk folder = AnswersByFolder disk folder IsSpelledBy IsAlone (TellsLine Strict) refused_table

abbrev pub column_lines_in : DiskFacts → Folder → Answering Tables
column_lines_in disk folder = by_folder_lines disk folder IsSpelledBy IsAlone (TellsLine Strict) refused_table IsText

-- in columns or as JSON
abbrev pub lines_in : Bool → DiskFacts → Folder → Answering Tables
lines_in true = json_lines_in false
lines_in false = column_lines_in

-- ---- the command

-- the lines of the input, where the tables of a folder are asked, of which none is open at first; or those that were given
abbrev pub ProbesInFolder : DiskFacts → InputFacts → Probes → Folder → Doing
ProbesInFolder disk input t folder = AnswersInput input (lines_in t.json disk folder) no_tables t.progress

abbrev pub ProbesByTables : InputFacts → Probes → Tables → Doing
ProbesByTables input t tables = AnswersInput input (at_once (TellsLineIn t.soon t.json (ask_of t.determined) tables) IsText) tt t.progress

abbrev pub probes_asking : Probes → LineAsking
probes_asking t = record {
  named = named t;
  path = read_when_asked (is_lazy t) (Some t.tables);
  InFolder = λ disk input folder. ProbesInFolder disk input t folder;
  ByTables = λ input tables. ProbesByTables input t tables;
}
