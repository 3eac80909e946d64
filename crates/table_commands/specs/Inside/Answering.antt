-- Lines that are answered by an open folder; cited by private functions alone.
use Rattle.std.specs.Prelude.{◌==◌, Bool, IfOk, List, OnErr, Result, ℕ}
use Rattle.std.specs.declared.alloc.AllocError.{AllocError}
use Rattle.answer_parts.specs.Asked.{reply_of}
use Rattle.answer_parts.specs.Lines.{words_of}
use Rattle.answer_parts.specs.Reply.{IsText, Reply}
use Rattle.answer_parts.specs.declared.answers.Answer.{Answer}
use Rattle.answer_parts.specs.declared.answers.lines.Line.{Line}
use Rattle.judge_core.specs.Tables.{Tables}
use Rattle.json_lines.specs.declared.told.JsonLine.{JsonLine}
use Rattle.line_events.specs.Writing.{WritesAnswer}
use Rattle.line_teller.specs.declared.told_lines.TellFault.{TellFault}
use Rattle.move_msg.specs.TextLines.{ended}
use Rattle.system_io.specs.Disks.{DiskFacts}
use Rattle.table_folder.specs.Folders.{Folder}
use Rattle.table_folder.specs.Settled.{IsAlone, IsWithMoves}
use Rattle.timeline.specs.Events.{Event}
use Rattle.timeline.specs.Outsides.{AddsSome, Outside}
use Rattle.table_commands.specs.FolderAnswers.{IsSpelledBy, TablesOn}
use Rattle.table_commands.specs.FolderReads.{LacksRoomFor}
use Rattle.table_commands.specs.Games.{AnswersGame, LacksRoomForGame}
use Rattle.table_commands.specs.JsonAnswers.{AnswersJson, LacksRoomForJson}
use Rattle.table_commands.specs.Probes.{AnswersColumns}
use Rattle.table_commands.specs.Root.{AnswersRoot}
use Rattle.table_commands.specs.declared.games.FolderGameJudge.{FolderGameJudge}
use Rattle.table_commands.specs.declared.json_answers.FolderJsonAnswerer.{FolderJsonAnswerer}

-- an answer to a line, so made by an open folder over an outside, from one moment to a later one
abbrev pub IsMade : {T P F K S L D A : Type 0} → Outside T P F K S L → (DiskFacts → Folder → Tables → Tables → List ℕ → A → List Event → Type 0) → TablesOn D → TablesOn D → T → T → List ℕ → Result A AllocError → Type 0
IsMade o Answers old new begin end text made = IfOk made (λ a. AddsSome o begin end (Answers o.disk old.on.folder old.tables new.tables text a))

-- or memory was refused for it so
abbrev pub IsLacked : {T P F K S L D A : Type 0} → Outside T P F K S L → (DiskFacts → Folder → Tables → List ℕ → List Event → Type 0) → TablesOn D → T → T → List ℕ → Result A AllocError → Type 0
IsLacked o Lacks old begin end text made = OnErr made (AddsSome o begin end (Lacks o.disk old.on.folder old.tables text))

-- a line of `probes`: words, and whether they are complete
abbrev pub ColumnsMade : {T P F K S L D : Type 0} → Outside T P F K S L → TablesOn D → TablesOn D → T → T → List ℕ → Result (Line × Bool) AllocError → Type 0
ColumnsMade o old new begin end text made = IsMade o (λ disk folder known next line told. AnswersColumns disk folder known next line (record { words = words_of told.0; done = told.1 })) old new begin end text made

abbrev pub ColumnsLacked : {T P F K S L D A : Type 0} → Outside T P F K S L → TablesOn D → T → T → List ℕ → Result A AllocError → Type 0
ColumnsLacked o old begin end text made = IsLacked o (λ disk folder. LacksRoomFor disk folder IsSpelledBy IsAlone IsText) old begin end text made

-- of `games`
abbrev pub OutcomeMade : {T P F K S L J A B C D E G : Type 0} → Outside T P F K S L → FolderGameJudge J A B C D E G → FolderGameJudge J A B C D E G → T → T → List ℕ → Result (Line × Bool) AllocError → Type 0
OutcomeMade o old new begin end text made = IsMade o (λ disk folder known next line told. AnswersGame old.delay disk folder known next line (record { words = words_of told.0; done = told.1 })) old.folder new.folder begin end text made

abbrev pub OutcomeLacked : {T P F K S L J A B C D E G X : Type 0} → Outside T P F K S L → FolderGameJudge J A B C D E G → T → T → List ℕ → Result X AllocError → Type 0
OutcomeLacked o old begin end text made = IsLacked o (LacksRoomForGame old.delay) old.folder begin end text made

-- of `root`
abbrev pub MovesMade : {T P F K S L D : Type 0} → Outside T P F K S L → TablesOn D → TablesOn D → T → T → List ℕ → Result Answer AllocError → Type 0
MovesMade o old new begin end text made = IsMade o (λ disk folder known next line a. AnswersRoot disk folder known next line (reply_of a)) old new begin end text made

abbrev pub MovesLacked : {T P F K S L D A : Type 0} → Outside T P F K S L → TablesOn D → T → T → List ℕ → Result A AllocError → Type 0
MovesLacked o old begin end text made = IsLacked o (λ disk folder. LacksRoomFor disk folder IsSpelledBy IsWithMoves IsText) old begin end text made

-- an object
abbrev pub ObjectMade : {T P F K S L J A B C D E G : Type 0} → Outside T P F K S L → FolderJsonAnswerer J A B C D E G → FolderJsonAnswerer J A B C D E G → T → T → List ℕ → Result JsonLine AllocError → Type 0
ObjectMade o old new begin end text made = IsMade o (AnswersJson old.with_moves) old.folder new.folder begin end text made

abbrev pub ObjectLacked : {T P F K S L J A B C D E G X : Type 0} → Outside T P F K S L → FolderJsonAnswerer J A B C D E G → T → T → List ℕ → Result X AllocError → Type 0
ObjectLacked o old begin end text made = IsLacked o (LacksRoomForJson old.with_moves) old.folder begin end text made

-- a reply is written, and an empty line
abbrev pub WritesWithFeed : Reply → Result Bool TellFault → List Event → Type 0
WritesWithFeed reply result = WritesAnswer (ended reply.text) (reply.status == 0) result
