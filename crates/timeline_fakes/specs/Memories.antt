-- The outside in memory, and what it has recorded (this project's own).
use Rattle.std.specs.Prelude.{◌≡◌, ℕ, List, Option, Some, None, Result, Ok, Err, Vec, cond, map, option_map}
use Rattle.std.specs.Global.{Global}
use Rattle.std.specs.Duration.{as_nanos}
use Rattle.std.specs.List.{flat_map}
use Rattle.system_io.specs.KeptFiles.{bytes_of}
use Rattle.system_io.specs.Outputs.{OutputFacts}
use Rattle.system_io.specs.Records.{AreSame, Records, StoredRecord, StoreFacts, StorePlaces, records_of}
use Rattle.system_fakes.specs.MemoryDisks.{disk_of}
use Rattle.system_fakes.specs.MemoryInputs.{input_of, memory_line_facts}
use Rattle.system_fakes.specs.PowerLosses.{disk_facts}
use Rattle.system_fakes.specs.declared.memory_input.MemoryLines.{MemoryLines}
use Rattle.system_fakes.specs.declared.disk_file.DiskFile.{DiskFile}
use Rattle.timeline.specs.Events.{Event, bytes_read, found_by, mode_read, stamped}
use Rattle.timeline.specs.Events as event
use Rattle.timeline.specs.Outsides.{Outside, PortState}
use Rattle.timeline.specs.declared.stream.Stream.{Stream}
use Rattle.timeline.specs.declared.stream.Stream.TheVariants as stream
use Rattle.timeline_fakes.specs.declared.memory_file.MemoryFile.{MemoryFile}
use Rattle.timeline_fakes.specs.declared.memory_port.MemoryPort.{MemoryPort}
use Rattle.timeline_fakes.specs.declared.memory_store.MemoryStore.{MemoryStore}
use Rattle.timeline_fakes.specs.declared.memory_system.MemoryLock.{MemoryLock}
use Rattle.timeline_fakes.specs.declared.memory_system.MemorySystem.{MemorySystem}
use Rattle.timeline_fakes.specs.declared.memory_timeline.MemoryTimeline.{MemoryTimeline}
use Rattle.timeline_fakes.specs.declared.memory_timeline.Outlet.{Outlet}
use Rattle.timeline_fakes.specs.declared.memory_timeline.Outlet.TheVariants.{Gone, Stuck}
use Rattle.timeline_fakes.specs.declared.recorded.Recorded.{Recorded}
use Rattle.timeline_fakes.specs.declared.recorded.Recorded.TheVariants as recorded

-- records that are put together, by their stamps
abbrev pub Batch : Type 0
Batch = List (List ℕ × StoredRecord)

-- names of a folder, as they are recorded
abbrev pub listed : {E : Type 0} → Result (Vec (Vec ℕ Global) Global) E → Result (List (List ℕ)) E
listed (Ok names) = Ok (map (λ name. name.items) names.items)
listed (Err e) = Err e

-- the event that is recorded so
abbrev pub event_of : Recorded → Event
event_of (recorded.FolderListed path names) = event.FolderListed path.items (listed names)
event_of (recorded.FileRead path bytes) = event.FileRead path.items (bytes_read bytes)
event_of (recorded.FileSought path bytes) = event.FileSought path.items (bytes_read bytes)
event_of (recorded.FileWithModeRead path got) = event.FileWithModeRead path.items (mode_read got)
event_of (recorded.InputRead bytes) = event.InputRead (bytes_read bytes)
event_of (recorded.FileLinesOpened path is_done) = event.LinesOpened (event.FromFile path.items) is_done
event_of (recorded.InputLinesOpened is_done) = event.LinesOpened event.FromInput is_done
event_of (recorded.LineRead line had_come) = event.LineRead (found_by line) had_come
event_of (recorded.Wrote to bytes) = event.Wrote to bytes.items
event_of (recorded.Flushed to) = event.Flushed to
event_of (recorded.Refused to) = event.Refused to
event_of (recorded.Noted line) = event.Noted line.items
event_of (recorded.PortBound address to done) = event.PortBound address.items (map (λ w. w.items) to.items) done
event_of (recorded.Came from bytes) = event.Came from bytes.items
event_of (recorded.Quiet wait) = event.Quiet (as_nanos wait)
event_of recorded.Missed = event.Missed
event_of (recorded.Sent to bytes) = event.Sent to bytes.items
event_of (recorded.Locked path done) = event.Locked path.items done
event_of (recorded.FileOpened path is_done) = event.FileOpened path.items is_done
event_of (recorded.Found path got) = event.Found path.items (found_by got)
event_of (recorded.Put path bytes is_done) = event.Put path.items bytes.items is_done
event_of (recorded.StoreOpened path done) = event.StoreOpened path.items done
event_of (recorded.RecordSought path stamp got) = event.RecordSought path.items stamp (bytes_of got)
event_of (recorded.Committed path entries is_done) = event.Committed path.items (map stamped entries.items) is_done

-- all that happened, where memory for it was never refused
abbrev pub events_in : MemoryTimeline → Option (List Event)
events_in t = cond t.is_whole (Some (map event_of t.events.items)) None

-- the disk on which a file is, and the path of that file
abbrev pub file_disk : MemoryFile → DiskFile
file_disk f = f.disk

abbrev pub file_path : MemoryFile → List ℕ
file_path f = f.path.items

-- how far the output, or the errors, have gone out
abbrev pub outlet_of : MemoryTimeline → Stream → Outlet
outlet_of t stream.Output = t.output
outlet_of t stream.Errors = t.errors

abbrev pub outlet_facts : Outlet → OutputFacts
outlet_facts outlet = record { gone = outlet ≡ Gone; stuck = outlet ≡ Stuck; refuses = Unit {0} }

abbrev pub port_state : MemoryPort → PortState
port_state p = record { address = p.address.items; own = p.own; to = p.to.items; sender = p.sender; faults = p.failures }

abbrev pub lock_path : MemoryLock → List ℕ
lock_path lock = lock.path.items

-- what a store has: all that was put, in turn
abbrev pub has_in : MemoryStore → Records
has_in s = records_of (flat_map (λ b. b.items) s.batches.items)

abbrev pub store_path : MemoryStore → List ℕ
store_path s = s.path.items

-- the bytes that are kept of a game
abbrev pub bytes_at : Records → List ℕ → Option (List ℕ)
bytes_at records stamp = option_map (λ r. r.bytes) (records stamp)

-- a start finds what it has
abbrev pub store_facts : MemoryStore → StoreFacts
store_facts s = record { has = has_in s; starts = AreSame (has_in s); trusted = Unit {0}; works = Unit {0} }

-- the store is at the path with which it was opened; any may be refused; which records two files hold isn't known
abbrev pub memory_places : StorePlaces MemoryStore
memory_places = record { is_at = λ path s. store_path s ≡ path; refuses = λ _ _. Unit {0}; holds = λ _ _ _. ⊥; withholds = λ _ _ _. Unit {0} }

abbrev pub memory_outside : MemorySystem → Outside MemoryTimeline MemoryPort MemoryFile MemoryLock MemoryStore MemoryLines
memory_outside s = record {
  events = events_in;
  written = λ _ _. None;
  output = λ t to. outlet_facts (outlet_of t to);
  disk = disk_of s.disk;
  input = input_of s.input;
  lines = memory_line_facts;
  port = port_state;
  refuses_port = λ _ _. Unit {0};
  path = file_path;
  file = λ f. disk_facts (file_disk f);
  takes_memory = λ _. Unit {0};
  gives_lock = λ _. Unit {0};
  lock_path = lock_path;
  bars_lock = λ _ _. Unit {0};
  store_path = store_path;
  store = store_facts;
  stores = memory_places;
}
