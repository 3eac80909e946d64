-- What happens outside of a program, one call after another (this project's own).
use Rattle.std.specs.Prelude.{◌≡◌, ◌++◌, ◌==◌, ℕ, Bool, true, false, List, [], ◌∷◌, Option, Some, None, Result, Ok, Err, Vec, String, map, option_map, string_bytes, take, if◌then◌else◌}
use Rattle.std.specs.Borrow.{Bor}
use Rattle.std.specs.Duration.{as_nanos}
use Rattle.std.specs.declared.alloc.Global.{Global}
use Rattle.std.specs.declared.time.Duration.{Duration}
use Rattle.std.specs.declared.net.socket_addr.SocketAddr.{SocketAddr}
use Rattle.system_io.specs.KeptFiles.{bytes_of}
use Rattle.system_io.specs.Recipients.{address_named}
use Rattle.system_io.specs.Records.{StoredRecord, entry_record}
use Rattle.system_io.specs.declared.disk.FileWithMode.{FileWithMode}
use Rattle.system_io.specs.declared.host.BindFault.{BindFault}
use Rattle.system_io.specs.declared.host.LockFault.{LockFault}
use Rattle.system_io.specs.declared.reading.ReadFault.{ReadFault}
use Rattle.system_io.specs.declared.recipient.Recipient.{Recipient}
use Rattle.system_io.specs.declared.record_store.Entry.{Entry}
use Rattle.system_io.specs.declared.record_store.StoreFault.{StoreFault}
use Rattle.timeline.specs.declared.stream.Stream.{Stream}
pub use Rattle.system_io.specs.Histories.{Passes}

-- where lines come from: the file at a path, or the input
pub data LineSource : Type 0 where
  FromFile : (path : List ℕ) → LineSource
  FromInput : LineSource

pub data Event : Type 0 where
  -- the folder at this path was listed: its names, or why it couldn't be
  FolderListed : (path : List ℕ) (names : Result (List (List ℕ)) ReadFault) → Event
  -- the file at this path was read: its bytes, or why it couldn't be, which is reported
  FileRead : (path : List ℕ) (bytes : Result (List ℕ) ReadFault) → Event
  -- the same of a file that need not be there, so that nothing is reported
  FileSought : (path : List ℕ) (bytes : Result (List ℕ) ReadFault) → Event
  -- a regular file was read: its bytes and its mode, or why it couldn't be
  FileWithModeRead : (path : List ℕ) (got : Result (List ℕ × ℕ) ReadFault) → Event
  -- the input was read to its end: its bytes, or why it couldn't be
  InputRead : (bytes : Result (List ℕ) ReadFault) → Event
  -- a file or the input was opened to be read line by line, or that failed
  LinesOpened : (from : LineSource) (is_done : Bool) → Event
  -- the next line was read, without its line feed, or there is none, or why it couldn't be; and whether all of it had come before
  LineRead : (line : Result (Option (List ℕ)) ReadFault) (had_come : Bool) → Event
  -- these bytes were written
  Wrote : (to : Stream) (bytes : List ℕ) → Event
  -- all that was written has gone out
  Flushed : (to : Stream) → Event
  -- a write was refused, or what was written can't go out
  Refused : (to : Stream) → Event
  -- a line was noted for whoever runs the program
  Noted : (line : List ℕ) → Event
  -- a port was bound to this address, and sends to those whom these words name; or why it wasn't
  PortBound : (address : List ℕ) (to : List (List ℕ)) (done : Result (Unit {0}) BindFault) → Event
  -- a datagram came from this address, where that is known; these are its first 64 bytes
  Came : (from : Option SocketAddr) (bytes : List ℕ) → Event
  -- no datagram came in time, of a wait of so many nanoseconds
  Quiet : (nanos : ℕ) → Event
  -- no datagram could be received
  Missed : Event
  -- a datagram was given to the system for this address, whether or not it went out
  Sent : (to : SocketAddr) (bytes : List ℕ) → Event
  -- the file at this path was locked, or why it wasn't
  Locked : (path : List ℕ) (done : Result (Unit {0}) LockFault) → Event
  -- a file in which something is kept was opened, or memory for that was refused
  FileOpened : (path : List ℕ) (is_done : Bool) → Event
  -- a start read it: its bytes, or that there are none, or why it couldn't be read
  Found : (path : List ℕ) (got : Result (Option (List ℕ)) ReadFault) → Event
  -- bytes took the place of what stood there, or that failed
  Put : (path bytes : List ℕ) (is_done : Bool) → Event
  -- the store at this path was opened, or why it wasn't
  StoreOpened : (path : List ℕ) (done : Result (Unit {0}) StoreFault) → Event
  -- the record of a game was looked for in the store at this path: its bytes, if it has one
  RecordSought : (path stamp : List ℕ) (got : Option (List ℕ)) → Event
  -- the records of these stamps were committed together to the store at this path, or none was
  Committed : (path : List ℕ) (records : List (List ℕ × StoredRecord)) (is_done : Bool) → Event

-- the line of these parts
abbrev pub line_of : List (List ℕ) → List ℕ
line_of [] = []
line_of (part ∷ []) = part
line_of (part ∷ next ∷ parts) = part ++ line_of (next ∷ parts)

-- ---- what a call's result says

-- a line feed is among these
abbrev pub has_line_feed : List ℕ → Bool
has_line_feed [] = false
has_line_feed (byte ∷ bytes) = if byte == 10 then true else has_line_feed bytes

abbrev pub is_done : {A E : Type 0} → Result A E → Bool
is_done (Ok a) = true
is_done (Err e) = false

-- that it was done, or why not
abbrev pub done_by : {A E : Type 0} → Result A E → Result (Unit {0}) E
done_by (Ok a) = Ok tt
done_by (Err e) = Err e

-- the event of a call that is done, and that of one that failed
abbrev pub by_result : {A E : Type 0} → Result A E → (A → Event) → Event → Event
by_result (Ok a) done failed = done a
by_result (Err e) done failed = failed

abbrev pub names_read : {E : Type 0} → Result (Vec (String Global) Global) E → Result (List (List ℕ)) E
names_read (Ok names) = Ok (map string_bytes names.items)
names_read (Err e) = Err e

abbrev pub bytes_read : {E : Type 0} → Result (Vec ℕ Global) E → Result (List ℕ) E
bytes_read (Ok bytes) = Ok bytes.items
bytes_read (Err e) = Err e

abbrev pub mode_read : {E : Type 0} → Result FileWithMode E → Result (List ℕ × ℕ) E
mode_read (Ok f) = Ok (f.bytes.items, f.mode)
mode_read (Err e) = Err e

-- the line in the buffer, where there was one; all of it had come before, if its line feed is among the bytes that had
abbrev pub line_read : {E : Type 0} → Result Bool E → List ℕ → Result (Option (List ℕ)) E
line_read (Ok true) line = Ok (Some line)
line_read (Ok false) line = Ok None
line_read (Err e) line = Err e

abbrev pub line_event : Result Bool ReadFault → List ℕ → List ℕ → Event
line_event result line ahead = LineRead (line_read result line) (has_line_feed ahead)

abbrev pub found_by : {E : Type 0} → Result (Option (Vec ℕ Global)) E → Result (Option (List ℕ)) E
found_by (Ok got) = Ok (bytes_of got)
found_by (Err e) = Err e

-- a datagram that came from this sender, at the front of a buffer, or that none could be received
abbrev pub came_or_missed : {E : Type 0} → Result ℕ E → Option SocketAddr → List ℕ → Event
came_or_missed (Ok n) from buffer = Came from (take n buffer)
came_or_missed (Err e) from buffer = Missed

-- the same within a time
abbrev pub came_in_time : {E : Type 0} → Result (Option ℕ) E → Option SocketAddr → List ℕ → Duration → Event
came_in_time (Ok (Some n)) from buffer wait = Came from (take n buffer)
came_in_time (Ok None) from buffer wait = Quiet (as_nanos wait)
came_in_time (Err e) from buffer wait = Missed

-- the bytes of a record that was found
abbrev pub bytes_found : Option (Bor (List ℕ)) → Option (List ℕ)
bytes_found got = option_map (λ bytes. bytes.now) got

-- an entry as its stamp and its record
abbrev pub stamped : Entry → List ℕ × StoredRecord
stamped e = (e.stamp, entry_record e)

abbrev pub commit_event : {A E : Type 0} → Result A E → List ℕ → List Entry → Event
commit_event result path entries = Committed path (map stamped entries) (is_done result)

-- ---- what some calls make in turn

-- bytes were written to their end; or a front of them was written, since a write was refused
abbrev pub IsWritten : {A E : Type 0} → Stream → List ℕ → Result A E → List Event → Type 0
IsWritten to bytes (Ok x) more = more ≡ Wrote to bytes ∷ []
IsWritten to bytes (Err e) more = (n : ℕ) × (more ≡ Wrote to (take n bytes) ∷ Refused to ∷ [])

-- bytes for this address, if there is one
abbrev pub sent_to : Option SocketAddr → List ℕ → List Event
sent_to None bytes = []
sent_to (Some address) bytes = Sent address bytes ∷ []

-- bytes for each recipient of a port, once and in their order, where the last datagram came from this sender
unfoldable pub sent_to_each : Option SocketAddr → List Recipient → List ℕ → List Event
sent_to_each sender [] bytes = []
sent_to_each sender (who ∷ others) bytes = sent_to (address_named sender who) bytes ++ sent_to_each sender others bytes
