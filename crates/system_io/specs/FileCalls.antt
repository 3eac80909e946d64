-- The calls of a system for a file under a name and a file beside it, in the order made (this project's own).
use Rattle.std.specs.Prelude.{◌≡◌, ◌⊎◌, ◌++◌, ℕ, List, [], ◌∷◌, Option, Some, Result, Ok, Err, Vec}
use Rattle.std.specs.declared.alloc.Global.{Global}
use Rattle.system_io.specs.declared.reading.ReadFault.{ReadFault}
use Rattle.system_io.specs.KeptFiles.{bytes_of}

pub data Call : Type 0 where
  -- what stands under the name was read: these bytes, or that there are none
  Read : (got : Option (List ℕ)) → Call
  -- these bytes were written to the file beside
  Wrote : (bytes : List ℕ) → Call
  -- the file beside was synced
  SyncedFile : Call
  -- the file beside got the name
  Renamed : Call
  -- the folder was synced
  SyncedFolder : Call
  -- a rename failed, and may have been made all the same
  RenameFailed : Call
  -- another call failed
  Failed : Call

-- what is known of such calls
pub record CallFacts : Type 1 where
  -- the calls made, in order; none where they aren't recorded
  pub made : Option (List Call)
  -- why a read, or a sync of the folder after it, may fail
  pub fails : ReadFault → Type 0

-- the call that was made, by its answer
abbrev pub call_by_answer : {T E : Type 0} → Result T E → Call → Call → Call
call_by_answer (Ok x) good bad = good
call_by_answer (Err e) good bad = bad

abbrev pub read_call : {E : Type 0} → Result (Option (Vec ℕ Global)) E → Call
read_call (Ok got) = Read (bytes_of got)
read_call (Err e) = Failed

-- the call gives no file the name
abbrev pub LeavesTheName : Call → Type 0
LeavesTheName (Read got) = Unit {0}
LeavesTheName (Wrote bytes) = Unit {0}
LeavesTheName SyncedFile = Unit {0}
LeavesTheName Renamed = ⊥
LeavesTheName SyncedFolder = Unit {0}
LeavesTheName RenameFailed = ⊥
LeavesTheName Failed = Unit {0}

-- this is the one or the other
abbrev pub IsEither : Option (List ℕ) → Option (List ℕ) → Option (List ℕ) → Type 0
IsEither a b found = (found ≡ a) ⊎ (found ≡ b)

-- by the calls that were made a start finds the one or the other under the name
pub data FindsBy (a b : Option (List ℕ)) : List Call → Type 0 where
  -- it was read, and then the folder was synced
  AtStart : (made before : List Call) (got : Option (List ℕ)) → made ≡ before ++ Read got ∷ SyncedFolder ∷ [] → IsEither a b got → FindsBy a b made
  -- it was written, synced and given the name, and then the folder was synced
  Replaced : (made before : List Call) (bytes : List ℕ) → made ≡ before ++ Wrote bytes ∷ SyncedFile ∷ Renamed ∷ SyncedFolder ∷ [] → IsEither a b (Some bytes) → FindsBy a b made
  -- so it was before a call that gives no file the name
  Kept : (made old : List Call) (call : Call) → made ≡ old ++ call ∷ [] → LeavesTheName call → FindsBy a b old → FindsBy a b made
  -- so it was before a rename, and the file that took the name has these bytes, which were written and synced just before
  Named : (made old before : List Call) (bytes : List ℕ) (call : Call) → made ≡ old ++ call ∷ [] → old ≡ before ++ Wrote bytes ∷ SyncedFile ∷ [] → IsEither a b (Some bytes) → FindsBy a b old → FindsBy a b made
