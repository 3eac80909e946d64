-- What happens to the records of a store, call by call as `System` has them, and that its looks find what they may (this project's own).
use Rattle.std.specs.Prelude.{◌≡◌, ◌≢◌, ◌⊎◌, ℕ, true, false, List, [], ◌∷◌, map, Option, Result, Ok, Err}
use Rattle.system_io.specs.Records.{AreSame, IsSettled, Records, with_all}
use Rattle.system_io.specs.declared.record_store.Entry.{Entry}
use Rattle.system_io.specs.declared.record_store.PutFault.{PutFault}
use Rattle.system_io.specs.declared.record_store.PutFault.TheVariants.{Failed, OutOfMemory}
use Rattle.system_io.specs.declared.record_store.StoreFault.{StoreFault}
use Rattle.timeline.specs.Events.{Committed, Event, RecordSought, StoreOpened, commit_event, stamped}
use Rattle.timeline.specs.Outsides.{LeavesBatchOrNot, Outside}
use Rattle.game_folder.specs.Places.{InStore}
use Rattle.game_folder.specs.StoreGames.{its_bytes}
use Rattle.served_games.specs.Durable.{IsDurable}

-- ---- a call

-- where a store is: nothing is known of it; it is open; this one was left so, when a commit had failed; or a process stopped in a commit of these
-- records to that
pub data StoreState (S : Type 0) : Type 0 where
  Unknown : StoreState S
  OpenAs : (store : S) → StoreState S
  LeftBy : (store : S) → StoreState S
  CutOff : (store : S) (entries : List Entry) → StoreState S

-- By what `find` and `commit` promise, a call at the store of a path leaves this: what was looked for is what it has; after a commit it has all
-- records of the batch; after one for which memory was refused, what it had; and after any other that failed a start finds that, or the whole
-- batch too.
pub data CallsStore {T P F K S L : Type 0} (o : Outside T P F K S L) (path : List ℕ) (old : S) (e : Event) (next : StoreState S) : Type 0 where
  Looks : (stamp : List ℕ) → e ≡ RecordSought path stamp (its_bytes ((o.store old).has stamp)) → next ≡ OpenAs old → CallsStore o path old e next
  Commits : (new : S) (entries : List Entry) → AreSame (o.store new).has (with_all (o.store old).has entries) → IsSettled (o.store new) → e ≡ Committed path (map stamped entries) true → next ≡ OpenAs new → CallsStore o path old e next
  LacksRoom : (new : S) (entries : List Entry) → AreSame (o.store new).has (o.store old).has → IsSettled (o.store new) → e ≡ Committed path (map stamped entries) false → next ≡ OpenAs new → CallsStore o path old e next
  Fails : (new : S) (entries : List Entry) → LeavesBatchOrNot (o.store old) (o.store new) entries → e ≡ Committed path (map stamped entries) false → next ≡ LeftBy new → CallsStore o path old e next

-- what a commit leaves open: behind a failure other than for memory no more is committed
abbrev pub state_after : {A S : Type 0} → Result A PutFault → S → StoreState S
state_after (Ok a) new = OpenAs new
state_after (Err (OutOfMemory batch)) new = OpenAs new
state_after (Err Failed) new = LeftBy new

-- a look at a store is such a call
abbrev pub LooksIn : {T P F K S L : Type 0} → Outside T P F K S L → S → List ℕ → Option (List ℕ) → Type 0
LooksIn o store stamp got = CallsStore o (o.store_path store) store (RecordSought (o.store_path store) stamp got) (OpenAs store)

-- and so is a commit
abbrev pub CommitsTo : {T P F K S L A : Type 0} → Outside T P F K S L → S → S → List Entry → Result A PutFault → Type 0
CommitsTo o old new entries result = CallsStore o (o.store_path old) old (commit_event result (o.store_path old) entries) (state_after result new)

-- a store that was opened at a path is at rest, where its disk returned what was written
pub record OpensStore {T P F K S L : Type 0} (o : Outside T P F K S L) (path : List ℕ) (new : S) (e : Event) : Type 0 where
  pub settled : IsSettled (o.store new)
  pub is : e ≡ StoreOpened path (Ok tt)

-- ---- a history

-- it is no call at this store
abbrev pub IsElsewhere : List ℕ → Event → Type 0
IsElsewhere path (Committed at records is_done) = at ≢ path
IsElsewhere path (RecordSought at stamp got) = at ≢ path
IsElsewhere path (StoreOpened at done) = at ≢ path
IsElsewhere path e = Unit {0}

module _ {T P F K S L : Type 0} (o : Outside T P F K S L) where
  -- PREMISE (the disk): it returned what was written
  abbrev pub IsTrusted : StoreState S → Type 0
  IsTrusted Unknown = Unit {0}
  IsTrusted (OpenAs store) = (o.store store).trusted
  IsTrusted (LeftBy store) = (o.store store).trusted
  IsTrusted (CutOff store entries) = Unit {0}

  -- a store that is opened there may have these records: what a start finds, or those with the whole batch of a commit in which a process stopped
  abbrev pub IsHeldThere : StoreState S → Records → Type 0
  IsHeldThere Unknown has = Unit {0}
  IsHeldThere (OpenAs store) has = (o.store store).starts has
  IsHeldThere (LeftBy store) has = (o.store store).starts has
  IsHeldThere (CutOff store entries) has = AreSame has (o.store store).has ⊎ AreSame has (with_all (o.store store).has entries)

  -- What happens next. PREMISE (who else writes the store, the disk): where the store was opened anew, by this process or another one, it has what
  -- it may have there (`OpenedAnew`).
  pub data GoesOnStore (path : List ℕ) (e : Event) : StoreState S → StoreState S → Type 0 where
    ByCall : (old : S) (next : StoreState S) → CallsStore o path old e next → IsTrusted next → GoesOnStore path e (OpenAs old) next
    StopsInCommit : (old : S) (entries : List Entry) → e ≡ Committed path (map stamped entries) false → GoesOnStore path e (OpenAs old) (CutOff old entries)
    OpenedAnew : (there : StoreState S) (new : S) → OpensStore o path new e → IsTrusted (OpenAs new) → IsHeldThere there (o.store new).has → GoesOnStore path e there (OpenAs new)
    OpenFails : (there : StoreState S) (fault : StoreFault) → e ≡ StoreOpened path (Err fault) → GoesOnStore path e there there
    Elsewhere : (there : StoreState S) → IsElsewhere path e → GoesOnStore path e there there

  -- one thing after another
  abbrev pub IsStoreHistory : List ℕ → StoreState S → List Event → Type 0
  IsStoreHistory path there [] = Unit {0}
  IsStoreHistory path there (e ∷ es) = (next : StoreState S) × GoesOnStore path e there next × IsStoreHistory path next es

-- THE LAW: a store is durable. Whatever happens to it, each look finds what may be found behind all that happened before: after a commit what that
-- put, after one that failed that or what was there.
abbrev pub StoresAreDurable : {T P F K S L : Type 0} → Outside T P F K S L → Type 0
StoresAreDurable o = (path stamp : List ℕ) (events : List Event) → IsStoreHistory o path Unknown events → IsDurable (InStore path) stamp events
