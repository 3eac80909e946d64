-- `judge [--tables DIR] [--manifest FILE] [--lazy] FEN`: the verdict on a position (this project's own).
use Rattle.std.specs.Prelude.{◌≡◌, ℕ, List, Option, Some, None}
use Rattle.board_core.specs.declared.parts.Parts.{Parts}
use Rattle.judge_core.specs.Ruling.{ruling}
use Rattle.judge_core.specs.Words.{verdict_words}
use Rattle.judge_core.specs.Tables.{Tables}
use Rattle.move_msg.specs.TextLines.{ended}
use Rattle.task_files.specs.Given.{Given}
use Rattle.std.specs.Borrow.{Bor}
use Rattle.system_io.specs.Disks.{DiskFacts}
use Rattle.table_folder.specs.Settled.{IsAlone}
use Rattle.table_commands.specs.FolderReads.{MakesForText, fen_refusal, MakesInFolder, MakesOfGiven}
use Rattle.task_files.specs.InputReads.{Reading}
use Rattle.command_line.specs.LazyFolders.{read_when_asked}
use Rattle.answer_parts.specs.Lines.{refusal_words}
use Rattle.answer_parts.specs.Looks.{gathered}
use Rattle.answer_parts.specs.Reply.{Reply}
use Rattle.command_line.specs.declared.commands.judge.Judge.{Judge}

-- the verdict's name, or that the game goes on
unfoldable pub judged : Tables → Parts → Reply
judged tables p = record { text = ended (verdict_words (ruling tables p)); status = 0 }

abbrev pub IsJudged : Tables → Parts → Reply → Type 0
IsJudged tables p r = r ≡ judged tables p

abbrev pub JudgedBy : Parts → Tables → Reply → Type 0
JudgedBy p tables r = IsJudged tables p r

-- by the tables of a folder that are read when the position asks for them, or by those that were given
abbrev pub JudgesAt : DiskFacts → Given → Option (Bor (List ℕ)) → Parts → Reading Reply
JudgesAt disk given (Some path) p = MakesInFolder disk path.now given.told refusal_words (IsAlone p) (JudgedBy p)
JudgesAt disk given None p = MakesOfGiven (gathered given) IsJudged p

abbrev pub JudgesGiven : DiskFacts → Judge → Given → Parts → Reading Reply
JudgesGiven disk t given = JudgesAt disk given (read_when_asked t.lazy t.tables)

-- its reply after what it names was read, by what happens outside
abbrev pub Judges : DiskFacts → Judge → Given → Reading Reply
Judges disk t given = MakesForText t.fen.now fen_refusal (JudgesGiven disk t given)
