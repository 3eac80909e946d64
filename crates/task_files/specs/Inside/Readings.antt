-- What was read so far; cited by private functions alone.
use Rattle.std.specs.Global.{Global}
use Rattle.std.specs.Prelude.{map, List, Result, Ok, Err, Vec}
use Rattle.move_msg.specs.Files.{File, table_file_of}
use Rattle.system_io.specs.declared.reading.ReadFault.{ReadFault}
use Rattle.task_files.specs.InputReads.{Held, Reading, TextsRead}
use Rattle.task_files.specs.TableLooks.{AreKeptOf}
use Rattle.task_files.specs.declared.input_reading.Tables.{Tables}
use Rattle.task_files.specs.declared.sources.Texts.{Texts}
use Rattle.timeline.specs.Events.{Event}

-- the manifest and the files that it wants
abbrev pub held_by : Tables → Held
held_by tables = record { manifest = tables.manifest; files = map table_file_of tables.files.items }

abbrev pub held_taken : {E : Type 0} → Result Tables E → Result Held E
held_taken (Ok tables) = Ok (held_by tables)
held_taken (Err e) = Err e

-- the input and the kept files
abbrev pub texts_by : Texts → TextsRead
texts_by texts = record { input = texts.input.items; kept = texts.kept.items; other_kept = texts.other_kept.items }

abbrev pub texts_taken : {E : Type 0} → Result Texts E → Result TextsRead E
texts_taken (Ok texts) = Ok (texts_by texts)
texts_taken (Err e) = Err e

-- what was kept of files
abbrev pub looks_taken : {L E : Type 0} → Result (Vec L Global) E → Result (List L) E
looks_taken (Ok looks) = Ok looks.items
looks_taken (Err e) = Err e

-- of each file that was read this is kept
pub record Looks {L : Type 0} (IsMadeOf : L → File → Type 0) (Reads : Reading (List File)) (kept : Result (List L) ReadFault) (events : List Event) : Type 0 where
  pub files : Result (List File) ReadFault
  pub made : AreKeptOf IsMadeOf kept files
  pub reads : Reads files events
