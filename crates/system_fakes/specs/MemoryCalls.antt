-- The facts of the calls for a kept file in memory (this project's own).
use Rattle.std.specs.Prelude.{◌⊎◌, ◌≤◌, ℕ, List, Option, Some, None, cond, map}
use Rattle.system_fakes.specs.declared.memory_calls.MadeCall.{MadeCall}
use Rattle.system_fakes.specs.declared.memory_calls.MadeCall.TheVariants as made
use Rattle.system_fakes.specs.declared.memory_calls.MemoryCalls.{MemoryCalls}
use Rattle.system_io.specs.declared.reading.ReadFault.{ReadFault}
use Rattle.system_io.specs.declared.reading.ReadFault.TheVariants.{Unreadable, OutOfMemory}
use Rattle.system_io.specs.FileCalls.{Call, CallFacts, Read, Wrote, SyncedFile, Renamed, SyncedFolder, RenameFailed, Failed}
use Rattle.system_io.specs.KeptFiles.{HasAny, IsLong, bytes_of}

abbrev pub call_of : MadeCall → Call
call_of (made.Read got) = Read (bytes_of got)
call_of (made.Wrote bytes) = Wrote bytes.items
call_of made.SyncedFile = SyncedFile
call_of made.Renamed = Renamed
call_of made.SyncedFolder = SyncedFolder
call_of made.RenameFailed = RenameFailed
call_of made.Failed = Failed

-- the calls that were made, where memory for them was never refused
abbrev pub made_by : MemoryCalls → Option (List Call)
made_by c = cond c.is_whole (Some (map call_of c.made.items)) None

-- the call of this number is still to come
abbrev pub IsToCome : ℕ → Option ℕ → Type 0
IsToCome calls None = ⊥
IsToCome calls (Some number) = calls ≤ number

-- a call that is to come fails
abbrev pub WillFail : MemoryCalls → Type 0
WillFail c = IsToCome c.calls c.fails_at

-- a call that is to come fails, or what stands under the name is too long; memory is taken where bytes stand there
abbrev pub MayFail : MemoryCalls → ReadFault → Type 0
MayFail c Unreadable = WillFail c ⊎ IsLong (bytes_of c.stands)
MayFail c OutOfMemory = HasAny (bytes_of c.stands)

abbrev pub calls_of : MemoryCalls → CallFacts
calls_of c = record { made = made_by c; fails = MayFail c }
