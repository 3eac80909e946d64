-- `run [--tables DIR] [--cache N] [--delay N]`: two arbiters under the schedule of the input (this project's own).
use Rattle.std.specs.Prelude.{◌≡◌, ◌++◌, ℕ, List, [], ◌∷◌, length, Option, Some, None, Result, Ok, Err, option_map, slice_get}
use Rattle.answer_parts.specs.Lines.{arbiter_words, refused_file, refused_line, sent_words}
use Rattle.answer_parts.specs.declared.answers.lines.KeptCount.{KeptCount}
use Rattle.arbiter_core.specs.Recording.{Recorded, move_count}
use Rattle.command_line.specs.declared.commands.run.RunSchedule.{RunSchedule}
use Rattle.line_teller.specs.ToldLines.{cut_words, refused_memory}
use Rattle.move_msg.specs.Files.{File}
use Rattle.move_msg.specs.declared.arbiter_id.ArbiterId.{ArbiterId}
use Rattle.move_msg.specs.declared.arbiter_id.ArbiterId.TheVariants.{A, B}
use Rattle.relay_world.specs.Gathering.{tables_of}
use Rattle.relay_world.specs.Runs.{GameView, Runs, WorldView, life_state}
use Rattle.relay_world.specs.Texts.{IsFirstBadScheduleLine, SpellsSchedule}
use Rattle.relay_world.specs.Worlds.{Side, World}
use Rattle.relay_world.specs.declared.fault.WorldFault.TheVariants.{BadTable}
use Rattle.relay_world.specs.declared.schedule.Schedule.{Schedule}
use Rattle.system_io.specs.Inputs.{InputFacts}
use Rattle.system_io.specs.declared.reading.ReadFault.{ReadFault}
use Rattle.table_file.specs.Faults.{table_fault_name}
use Rattle.table_file.specs.declared.fault.TableFault.{TableFault}
use Rattle.timeline.specs.Events.{Event, InputRead}
use Rattle.timeline.specs.Outsides.{Outside}
use Rattle.answer_commands.specs.Inputs.{IsInput, IsUnread, ReadsNamed}
use Rattle.answer_parts.specs.Printing.{printed}

-- the game of a schedule, where a verdict by tables must hold for so many further plies
abbrev pub scheduled_game : Schedule → ℕ → GameView
scheduled_game schedule delay = record { name = schedule.name.items; start = schedule.start; moves = schedule.moves.items; delay = delay }

-- how many moves are kept, and the verdict
abbrev pub counted_record : Option Recorded → Option KeptCount
counted_record None = None
counted_record (Some kept) = Some (record { count = move_count kept; verdict = kept.verdict })

abbrev pub side_words : ArbiterId → Side → List ℕ
side_words who side = arbiter_words who (life_state side.life) (counted_record side.kept)

-- the lines for a world: one for A, one for B, and how many messages were sent
abbrev pub world_words : World → List (List ℕ)
world_words world = side_words A world.a ∷ side_words B world.b ∷ sent_words (length world.log) ∷ []

-- the first file that is no table is refused by its name and its fault
pub record RefusesTable (files : List File) (words : List ℕ) : Type 0 where
  pub place : ℕ
  pub fault : TableFault
  pub file : File
  pub first : tables_of files ≡ Err (BadTable place fault)
  pub at : slice_get files place ≡ Some file
  pub told : words ≡ refused_file file.name (table_fault_name fault)

-- the refusal of the first line at fault; or else that of the first file that is no table; or else there are worlds of the
-- schedule, in each of which what both arbiters keep is true to the game, and these are the lines for the last of them
pub data IsRun (text : List ℕ) (files : List File) (delay : ℕ) (lines : List (List ℕ)) (status : ℕ) : Type 0 where
  BadLine : (number : ℕ) → IsFirstBadScheduleLine text number → lines ≡ refused_line number ∷ [] → status ≡ 1 → IsRun text files delay lines status
  NoTable : (schedule : Schedule) → SpellsSchedule text schedule → (words : List ℕ) → RefusesTable files words → lines ≡ words ∷ [] → status ≡ 1 → IsRun text files delay lines status
  Ran : (schedule : Schedule) → SpellsSchedule text schedule → (told : WorldView) (runs : Runs (scheduled_game schedule delay) files schedule.events.items told) (last : World) → slice_get runs.worlds (length schedule.events.items) ≡ Some last → lines ≡ world_words last → status ≡ 0 → IsRun text files delay lines status

-- the files of the folder are read, where one is named
abbrev pub ReadsFiles : {T P F K S L : Type 0} → Outside T P F K S L → RunSchedule → Result (List File) ReadFault → List Event → Type 0
ReadsFiles o t result events = ReadsNamed o.disk (option_map (λ s. s.now) t.tables) result events

-- the input is read, once, and then the lines are written; or why it couldn't be read; or memory was refused to the answer
pub data RunsInput (input : InputFacts) (t : RunSchedule) (files : List File) (events : List Event) (status : Option ℕ) : Type 0 where
  RunsAll : (text : List ℕ) (lines : List (List ℕ)) (done : ℕ) → IsInput input text → IsRun text files t.delay lines done → events ≡ InputRead (Ok text) ∷ printed lines → status ≡ Some done → RunsInput input t files events status
  NoRoomToRun : (text : List ℕ) → IsInput input text → events ≡ InputRead (Ok text) ∷ printed (refused_memory ∷ []) → status ≡ Some 1 → RunsInput input t files events status
  NoSchedule : (fault : ReadFault) → IsUnread input fault → events ≡ InputRead (Err fault) ∷ printed (cut_words fault ∷ []) → status ≡ Some 1 → RunsInput input t files events status

-- the files of the folder are read first, where one is named; or the first of these that can't be is told, and no more is read
pub data RunsSchedule {T P F K S L : Type 0} (o : Outside T P F K S L) (t : RunSchedule) (events : List Event) (status : Option ℕ) : Type 0 where
  ByTables : (files : List File) (reading then : List Event) → ReadsFiles o t (Ok files) reading → RunsInput o.input t files then status → events ≡ reading ++ then → RunsSchedule o t events status
  NoTables : (fault : ReadFault) (reading : List Event) → ReadsFiles o t (Err fault) reading → events ≡ reading ++ printed (cut_words fault ∷ []) → status ≡ Some 1 → RunsSchedule o t events status
