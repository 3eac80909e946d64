-- Games whose files are in a folder, and whose records are in one store (this project's own).
use Rattle.std.specs.Prelude.{◌≡◌, ◌≢◌, ◌⊎◌, ◌++◌, ℕ, Bool, true, false, List, [], ◌∷◌, Option, Some, None, Result, Ok, Err, IfOk, IsSome, OnErr, OnOk, codes, if◌then◌else◌, length, map, nat_lt, option_map}
use Rattle.std.specs.List.{Contains}
use Rattle.arbiter_server.specs.declared.fault.OpenGameError.{OpenGameError}
use Rattle.arbiter_server.specs.declared.fault.OpenGameError.TheVariants as unopened
use Rattle.arbiter_server.specs.declared.fault.Uncommitted.{Uncommitted}
use Rattle.arbiter_server.specs.declared.fault.Uncommitted.TheVariants as uncommitted
use Rattle.move_msg.specs.Records.{SpellsRecord}
use Rattle.move_msg.specs.declared.record_bytes.Record.{Record}
use Rattle.system_io.specs.Records.{AreSame, IsSettled, StoredRecord, records_of, with_all}
use Rattle.system_io.specs.declared.record_store.Entry.{Entry}
use Rattle.timeline.specs.Events.{Committed, Event, Noted, RecordSought, is_done, stamped}
use Rattle.timeline.specs.Outsides.{Outside}
use Rattle.game_folder.specs.FolderGames.{FindsInFolder, StandsOn}
use Rattle.game_folder.specs.Holdings.{GamesFacts, kept_of}
use Rattle.game_folder.specs.Places.{InStore}
use Rattle.game_folder.specs.declared.games.KeptGame.{KeptGame}
use Rattle.game_folder.specs.declared.store_games.Loss.{Loss}
use Rattle.game_folder.specs.declared.store_games.Loss.TheVariants.{OfMemory, OfStore}

-- where the files of games are, the store, what is noted since its last commit, the games that are left, and why no more can be committed,
-- if that is so
pub record StoredGames (S : Type 0) : Type 0 where
  pub folder : List ℕ
  pub store : S
  pub noted : List Entry
  pub left : List (List ℕ)
  pub loss : Option Loss

-- as it is told
abbrev pub loss_told : Loss → Uncommitted
loss_told OfStore = uncommitted.StoreLost
loss_told OfMemory = uncommitted.NotNoted

-- ---- what is noted

-- these bytes are noted of the game with this stamp, or no more can be committed
abbrev pub HasNoted : {S : Type 0} → StoredGames S → List ℕ → List ℕ → Type 0
HasNoted g stamp bytes = IsSome g.loss ⊎ ((e : Entry) × Contains g.noted e × (e.stamp ≡ stamp) × (e.record.items ≡ bytes))

abbrev pub its_bytes : Option StoredRecord → Option (List ℕ)
its_bytes = option_map (λ r. r.bytes)

-- the bytes that are noted last of the game with this stamp
abbrev pub last_noted : List Entry → List ℕ → Option (List ℕ)
last_noted noted stamp = its_bytes (records_of noted stamp)

-- so many moves has the record that the bytes spell; 0 where they spell none
pub record IsCountOf (bytes : List ℕ) (count : ℕ) : Type 0 where
  pub some : (r : Record) → SpellsRecord bytes r → count ≡ length r.moves
  pub none : ((r : Record) → SpellsRecord bytes r → ⊥) → count ≡ 0

-- these bytes of the game with this stamp, as they are put into a store
pub record IsEntryFor (stamp bytes : List ℕ) (e : Entry) : Type 0 where
  pub of : e.stamp ≡ stamp
  pub bytes_are : e.record.items ≡ bytes
  pub count : IsCountOf bytes e.count

-- bytes of a game are noted behind all else; where memory for that was refused, no more can be committed
abbrev pub NotesBytes : {S : Type 0} → StoredGames S → List ℕ → List ℕ → Bool → StoredGames S → Type 0
NotesBytes old stamp bytes true new = (e : Entry) × IsEntryFor stamp bytes e × (new ≡ record old { noted = old.noted ++ e ∷ [] })
NotesBytes old stamp bytes false new = new ≡ record old { loss = Some OfMemory }

-- so it is of what a game had to put, if anything
abbrev pub Notes : {S A E : Type 0} → StoredGames S → List ℕ → Option (List ℕ) → Result A E → StoredGames S → Type 0
Notes old stamp None (Ok a) new = new ≡ old
Notes old stamp None (Err e) new = ⊥
Notes old stamp (Some bytes) result new = NotesBytes old stamp bytes (is_done result) new

-- ---- how a record is taken

-- a record of at most 8217 bytes, or none
abbrev pub given_record : Option (List ℕ) → Result (Option (List ℕ)) OpenGameError
given_record None = Ok None
given_record (Some bytes) = if nat_lt 8217 (length bytes) then Err unopened.Keeper else Ok (Some bytes)

-- the record of the game with this stamp may be given: more can be committed, and the game isn't left
abbrev pub MayGive : {S : Type 0} → StoredGames S → List ℕ → Type 0
MayGive g stamp = (g.loss ≡ None) × (Contains g.left stamp → ⊥)

-- By these events a record is taken of the store at a path, with what comes of it: what is noted comes before what the store has.
pub data TakesFromStore {S : Type 0} (path : List ℕ) (g : StoredGames S) (stamp : List ℕ) (result : Result (Option (List ℕ)) OpenGameError) (events : List Event) : Type 0 where
  WasRefused : (MayGive g stamp → ⊥) → result ≡ Err unopened.Keeper → events ≡ [] → TakesFromStore path g stamp result events
  HadNoRoom : MayGive g stamp → result ≡ Err unopened.OutOfMemory → events ≡ [] → TakesFromStore path g stamp result events
  WasNoted : MayGive g stamp → (bytes : List ℕ) → last_noted g.noted stamp ≡ Some bytes → result ≡ given_record (Some bytes) → events ≡ [] → TakesFromStore path g stamp result events
  WasSought : MayGive g stamp → last_noted g.noted stamp ≡ None → (got : Option (List ℕ)) → result ≡ given_record got → events ≡ RecordSought path stamp got ∷ [] → TakesFromStore path g stamp result events

-- the record of the game with this stamp is kept in a store, and nothing is to be put
pub record IsInStore {F : Type 0} (stamp : List ℕ) (game : KeptGame F) : Type 0 where
  pub of : game.stamp ≡ stamp
  pub stored : game.file ≡ None
  pub clean : game.draft.to_put ≡ None

module _ {T P F K S L : Type 0} (o : Outside T P F K S L) where
  -- what is kept of the game with this stamp: what is noted, in place of what the store has
  abbrev pub kept_bytes : StoredGames S → List ℕ → Option (List ℕ)
  kept_bytes g stamp = its_bytes (with_all (o.store g.store).has g.noted stamp)

  -- the record of a game was looked for among what is noted, and then in the store
  pub record LooksUpRecord (g : StoredGames S) (stamp : List ℕ) (result : Result (KeptGame F) OpenGameError) (events : List Event) : Type 0 where
    pub taken : TakesFromStore (o.store_path g.store) g stamp (kept_of result) events
    pub ok : IfOk result (IsInStore stamp)
    pub gives : IfOk result (λ game. game.draft.kept ≡ kept_bytes g stamp)

-- ---- how what is noted is committed

-- the line that is noted where the store failed
abbrev pub store_lost : List ℕ
store_lost = codes "the store can't be written: the run ends"

-- nothing keeps some entries from being committed
abbrev pub MayCommit : {S : Type 0} → StoredGames S → Type 0
MayCommit g = (g.loss ≡ None) × (g.noted ≢ [])

-- by these events all that is noted is committed to the store at a path, or that fails, as is told
pub data CommitsNoted {S : Type 0} (path : List ℕ) (g : StoredGames S) (told : Result (Unit {0}) Uncommitted) (events : List Event) : Type 0 where
  CouldNot : (loss : Loss) → g.loss ≡ Some loss → told ≡ Err (loss_told loss) → events ≡ [] → CommitsNoted path g told events
  HadNone : g.loss ≡ None → g.noted ≡ [] → told ≡ Ok tt → events ≡ [] → CommitsNoted path g told events
  HasAll : MayCommit g → told ≡ Ok tt → events ≡ Committed path (map stamped g.noted) true ∷ [] → CommitsNoted path g told events
  LacksMemory : MayCommit g → told ≡ Err uncommitted.OutOfMemory → events ≡ Committed path (map stamped g.noted) false ∷ [] → CommitsNoted path g told events
  LosesStore : MayCommit g → told ≡ Err uncommitted.StoreLost → events ≡ Committed path (map stamped g.noted) false ∷ Noted store_lost ∷ [] → CommitsNoted path g told events

-- What a commit leaves. Where memory was refused for it, all stays noted; after any other error no more can be committed, for the reason that
-- is told.
abbrev pub LeavesNoted : {S A : Type 0} → Result A Uncommitted → StoredGames S → StoredGames S → Type 0
LeavesNoted (Ok a) old new = new ≡ record old { store = new.store; noted = [] }
LeavesNoted (Err uncommitted.OutOfMemory) old new = (old.loss ≡ None) × (new ≡ record old { store = new.store })
LeavesNoted (Err uncommitted.StoreLost) old new = new.loss ≡ Some OfStore
LeavesNoted (Err uncommitted.NotNoted) old new = (old.loss ≡ Some OfMemory) × (new ≡ old)

-- what the store has after a commit: all that was noted, or just what it had; unless no more can be committed, a start finds that
pub record Stores {T P F K S L A E : Type 0} (o : Outside T P F K S L) (result : Result A E) (old new : StoredGames S) : Type 0 where
  pub all : OnOk result (AreSame (o.store new.store).has (with_all (o.store old.store).has old.noted))
  pub same : OnErr result (AreSame (o.store new.store).has (o.store old.store).has)
  pub settled : new.loss ≡ None → IsSettled (o.store old.store) → IsSettled (o.store new.store)

-- ---- all that is known

-- what no call changes
pub record StoredPlace : Type 0 where
  pub folder : List ℕ
  pub store_path : List ℕ

abbrev pub store_games_facts : {T P F K S L : Type 0} → Outside T P F K S L → GamesFacts (StoredGames S)
store_games_facts o = record {
  Place = StoredPlace;
  place = λ g. record { folder = g.folder; store_path = o.store_path g.store };
  places = λ at stamp. InStore at.store_path;
  noted = HasNoted;
  finds = λ at stamp result events. FindsInFolder at.folder stamp result events × StandsOn o.disk at.folder stamp result;
  takes = λ g stamp result events new. TakesFromStore (o.store_path g.store) g stamp result events × (new ≡ g) × IfOk result (λ kept. kept ≡ kept_bytes o g stamp);
  keeps = λ g stamp bytes done events new. (events ≡ []) × NotesBytes g stamp bytes done new;
  commits = λ g told events new. CommitsNoted (o.store_path g.store) g told events × LeavesNoted told g new × Stores o told g new;
}
