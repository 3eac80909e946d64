-- What the calls made for a file, and their results, say about it (this project's own). Nothing is claimed of the file.
use Rattle.std.specs.Prelude.{◌≡◌, ◌⊎◌, ℕ, true, false, List, [], ◌∷◌, Option, Some, IfSome, Vec}
use Rattle.std.specs.List.{AllByRecursion}
use Rattle.std.specs.declared.alloc.Global.{Global}
use Rattle.system_io.specs.declared.reading.ReadFault.{ReadFault}
use Rattle.system_io.specs.declared.reading.ReadFault.TheVariants.{Unreadable, OutOfMemory}
use Rattle.system_io.specs.declared.call_log.CallLog.{CallLog}
use Rattle.system_io.specs.declared.call_log.Reach.TheVariants as reach
use Rattle.system_io.specs.FileCalls.{CallFacts, FindsBy, IsEither, Wrote, SyncedFile}
use Rattle.system_io.specs.FileCalls as made
use Rattle.system_io.specs.Histories.{EndsWith}
use Rattle.system_io.specs.KeptFiles.{HasAny, IsLong, KeptFacts, Stage, Written, Synced, Renamed, bytes_of}

-- bytes that the file keeps
abbrev pub Bytes : Type 0
Bytes = Vec ℕ Global

-- the calls that a file makes
abbrev pub calls_in : {C : Type 0} → CallLog C → C
calls_in t = t.calls

-- nothing is known of it yet, and no call has failed
pub record IsFresh {C : Type 0} (t : CallLog C) : Type 0 where
  pub unknown : t.is_known ≡ false
  pub names : t.earlier.items ≡ []
  pub count : t.failures ≡ 0

-- what may stand there is the one or the other
abbrev pub IsOneOf : Option (List ℕ) → Option (List ℕ) → Option Bytes → Type 0
IsOneOf a b o = IsEither a b (bytes_of o)

-- all that may stand there is the one or the other
pub record AreOneOf (a b : Option (List ℕ)) (stands : Option Bytes) (earlier : List (Option Bytes)) : Type 0 where
  pub now : IsOneOf a b stands
  pub before : AllByRecursion (IsOneOf a b) earlier

-- by the calls and their answers it is known what may stand under the name, and that is the one or the other
pub record SaysOneOf {C : Type 0} (facts : C → CallFacts) (t : CallLog C) (a b : Option (List ℕ)) : Type 0 where
  pub known : t.is_known ≡ true
  pub names : AreOneOf a b t.stands t.earlier.items
  pub by_calls : IfSome (facts t.calls).made (FindsBy a b)

-- these bytes are there
pub record HasTheseBytes (o : Option Bytes) (bytes : List ℕ) : Type 0 where
  pub v : Bytes
  pub is : o ≡ Some v
  pub items : v.items ≡ bytes

-- where one content may stand under the name and these bytes were written, from now on one of the two may
abbrev pub MayTakeName : {C : Type 0} → CallLog C → CallLog C → Type 0
MayTakeName old new = (was : Option (List ℕ)) (bytes : List ℕ) → AreOneOf was was old.stands old.earlier.items → HasTheseBytes old.written bytes → AreOneOf was (Some bytes) new.stands new.earlier.items

-- by the calls and their results these bytes have come so far; where the calls are recorded, the last of them brought them
-- there
abbrev pub SaysReached : {C : Type 0} → (C → CallFacts) → CallLog C → Stage → List ℕ → Type 0
SaysReached facts t Written bytes = HasTheseBytes t.written bytes × (t.reach ≡ reach.Written) × EndsWith (facts t.calls).made (Wrote bytes ∷ [])
SaysReached facts t Synced bytes = HasTheseBytes t.written bytes × (t.reach ≡ reach.Synced) × EndsWith (facts t.calls).made (Wrote bytes ∷ SyncedFile ∷ [])
SaysReached facts t Renamed bytes = HasTheseBytes t.stands bytes × (t.reach ≡ reach.Renamed) × (t.is_known ≡ true) × EndsWith (facts t.calls).made (Wrote bytes ∷ SyncedFile ∷ made.Renamed ∷ [])

-- by the calls and their answers nothing but what was read may stand under the name
abbrev pub SaysSettled : {C : Type 0} → (C → CallFacts) → CallLog C → Type 0
SaysSettled facts t = SaysOneOf facts t (bytes_of t.stands) (bytes_of t.stands)

-- a file that took the name may not have it for good; or what stands there is another than what is known; or a call fails
abbrev pub CannotSettle : {C : Type 0} → (C → CallFacts) → CallLog C → ReadFault → Type 0
CannotSettle facts t Unreadable = ((t.earlier.items ≡ [] → ⊥) ⊎ (t.is_known ≡ true)) ⊎ (facts t.calls).fails Unreadable
CannotSettle facts t OutOfMemory = (facts t.calls).fails OutOfMemory

-- it has more bytes than are kept; memory is taken where bytes stand there, or may stand there
abbrev pub CannotCopy : {C : Type 0} → CallLog C → ReadFault → Type 0
CannotCopy t Unreadable = IsLong (bytes_of t.stands)
CannotCopy t OutOfMemory = HasAny (bytes_of t.stands) ⊎ (t.is_known ≡ false)

-- this was read, and it is one of these
abbrev pub IsAmong : Option (List ℕ) → List (Option Bytes) → Type 0
IsAmong read [] = ⊥
IsAmong read (o ∷ os) = (read ≡ bytes_of o) ⊎ IsAmong read os

-- the facts of a file by the calls and their results
abbrev pub traced_facts : {C : Type 0} → (C → CallFacts) → CallLog C → KeptFacts
traced_facts facts t = record { reached = SaysReached facts t; finds = SaysOneOf facts t; settled = SaysSettled facts t; cannot_settle = CannotSettle facts t; cannot_read = CannotCopy t; faults = t.failures }
