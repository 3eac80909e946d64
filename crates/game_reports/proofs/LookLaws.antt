-- What is read of one game, one file after another.
use Rattle.std.proofs.Common.{◌≡◌, ◌∙◌, ◌≤◌, ◌<◌, ◌⊎◌, ◌++◌, ◌∷◌, [], ℕ, List, Option, Some, None, ap, length, refl, subst, sym}
use Rattle.std.specs.Global.{Global}
use Rattle.std.specs.List.{Contains}
use Rattle.std.specs.Prelude.{Result, Ok, Err, IfOk, IfSome, IsErrOf, Vec, option_map}
use Rattle.arbiter_server.specs.GameFiles.{IsFirstGameFault, SpellsGame}
use Rattle.arbiter_server.specs.GameFolders.{game_path, kept_path, most_game_bytes}
use Rattle.arbiter_server.specs.declared.game_lines.GameFileFault.{GameFileFault}
use Rattle.arbiter_server.specs.declared.game_file.Game.{Game}
use Rattle.board_core.specs.Delays.{most_delay}
use Rattle.game_status.specs.Entries.{game_told, most_kept}
use Rattle.game_status.specs.GameAudits.{AreFewDelays}
use Rattle.game_status.specs.Inside.Decoding.{AreSides, IsNoSide}
use Rattle.game_status.specs.Sides.{IsRecorded}
use Rattle.game_status.specs.StatusObjects.{AreNamed, IsNamed}
use Rattle.game_status.specs.Statuses.{IsLookAtBoth}
use Rattle.game_status.specs.declared.entry.Entry.{Entry}
use Rattle.game_status.specs.declared.entry.EntryFault.{EntryFault}
use Rattle.game_status.specs.declared.entry.EntryFault.TheVariants.{BadGame, Keeper, NoGame}
use Rattle.game_status.specs.declared.side.Side.{Side}
use Rattle.game_status.specs.declared.status_lines.Look.{Look}
use Rattle.game_status.specs.declared.status_lines.Look.TheVariants as look
use Rattle.move_msg.specs.Stamps.{IsGameName}
use Rattle.move_msg.specs.declared.record_bytes.Record.{Record as Records}
use Rattle.system_io.specs.Disks.{AtFile, DiskFacts, HasMore}
use Rattle.system_io.specs.declared.reading.ReadFault.{ReadFault}
use Rattle.system_io.specs.declared.reading.ReadFault.TheVariants.{OutOfMemory, Unreadable}
use Rattle.timeline.proofs.EventLaws.{adds_more, adds_none}
use Rattle.timeline.specs.Events.{Event, FileSought, bytes_read}
use Rattle.timeline.specs.Outsides.{Adds, AddsSome, Outside}
use Rattle.game_reports.specs.Folders.{KnownFolder, KnownFolders}
use Rattle.game_reports.specs.GameLooks.{BadFile, HasBeside, HasBoth, InBoth, InFile, InNone, InOne, InStore, IsNone, IsNotThere, IsSide, IsThere, LacksBeside, LacksEntry, LooksBeside, NoFile, NoRecord, NoRoomBeside, NoRoomForOne, NoRoomForPath, NoRoomForSide, NotFromFile, NotFromStore, NotKept, ReadsEntry, ReadsLook, ReadsRecord, ReadsSide, Seeks, lack_of}
use Rattle.game_reports.specs.Inside.Looking.{found_lacking, found_or_none}
use Rattle.game_reports.specs.declared.looking.Lack.{Lack}
use Rattle.game_reports.specs.declared.looking.Lack.TheVariants.{AtFault, NoRoom}

module _ {T P F K S L : Type 0} (o : Outside T P F K S L) where
  -- ---- a file

  pub no_path : (a : T) (path : List ℕ) (most : ℕ) → AddsSome o a a (Seeks o.disk path most (Err OutOfMemory))
  no_path a path most = ([], adds_none o a, NoRoomForPath refl refl)

  pub sought : (a b : T) (at path : List ℕ) (most : ℕ) (r : Result (Vec ℕ Global) ReadFault) → at ≡ path → IfOk r (λ bytes. o.disk.holds at bytes.items) → IfOk r (λ bytes. length bytes.items ≤ most) → (IsErrOf r Unreadable → o.disk.fails (AtFile at) ⊎ HasMore o.disk at most)
      → Adds o a b (FileSought at (bytes_read r) ∷ []) → AddsSome o a b (Seeks o.disk path most (bytes_read r))
  sought a b at path most (Ok bytes) is holds short cause p = (FileSought at (Ok bytes.items) ∷ [], p, subst (λ (x : List ℕ). Seeks o.disk x most (Ok bytes.items) (FileSought at (Ok bytes.items) ∷ [])) is (IsThere bytes.items holds short refl refl))
  sought a b at path most (Err fault) is holds short cause p = (FileSought at (Err fault) ∷ [], p, subst (λ (x : List ℕ). Seeks o.disk x most (Err fault) (FileSought at (Err fault) ∷ [])) is (IsNotThere fault (λ e. cause (ap Err e)) refl refl))

  -- ---- a record

  pub not_kept : (a : T) (f : KnownFolder) (stamp : List ℕ) → f.records stamp ≡ None → (Contains f.kept stamp → ⊥) → AddsSome o a a (ReadsRecord o.disk f stamp (Ok None))
  not_kept a f stamp none not = ([], adds_none o a, NotKept none not refl refl)

  pub in_file : (a b : T) (f : KnownFolder) (stamp bytes : List ℕ) → f.records stamp ≡ None → Contains f.kept stamp → AddsSome o a b (Seeks o.disk (kept_path f.path stamp) most_kept (Ok bytes)) → AddsSome o a b (ReadsRecord o.disk f stamp (Ok (Some bytes)))
  in_file a b f stamp bytes none has p = (p.0, p.1, InFile bytes none has p.2 refl)

  pub not_from_file : (a b : T) (f : KnownFolder) (stamp : List ℕ) (fault : ReadFault) → f.records stamp ≡ None → Contains f.kept stamp → AddsSome o a b (Seeks o.disk (kept_path f.path stamp) most_kept (Err fault)) → AddsSome o a b (ReadsRecord o.disk f stamp (Err fault))
  not_from_file a b f stamp fault none has p = (p.0, p.1, NotFromFile fault none has p.2 refl)

  pub in_store : (a : T) (f : KnownFolder) (stamp bytes copy : List ℕ) → f.records stamp ≡ Some bytes → copy ≡ bytes → length copy ≤ most_kept → AddsSome o a a (ReadsRecord o.disk f stamp (Ok (Some copy)))
  in_store a f stamp bytes copy some same short = ([], adds_none o a, InStore copy (some ∙ ap Some (sym same)) short refl refl)

  pub not_from_store : (a : T) (f : KnownFolder) (stamp bytes : List ℕ) (fault : ReadFault) → f.records stamp ≡ Some bytes → (fault ≡ Unreadable → most_kept < length bytes) → AddsSome o a a (ReadsRecord o.disk f stamp (Err fault))
  not_from_store a f stamp bytes fault some long = ([], adds_none o a, NotFromStore bytes fault some long refl refl)

  -- ---- a folder

  pub has_both : (a b c : T) (f : KnownFolder) (stamp text : List ℕ) (e : Entry) → SpellsGame text (game_told e.game) → AddsSome o a b (Seeks o.disk (game_path f.path stamp) most_game_bytes (Ok text)) → AddsSome o b c (ReadsRecord o.disk f stamp (Ok (option_map (λ v. v.items) e.kept))) → AddsSome o a c (ReadsEntry o.disk f stamp (Ok e))
  has_both a b c f stamp text e spells p q = (p.0 ++ q.0, adds_more o a b c p.0 q.0 p.1 q.1, HasBoth text e p.0 q.0 p.2 spells q.2 refl refl)

  pub no_file : (a b : T) (f : KnownFolder) (stamp : List ℕ) (fault : ReadFault) (lack : Lack) → lack ≡ lack_of NoGame fault → AddsSome o a b (Seeks o.disk (game_path f.path stamp) most_game_bytes (Err fault)) → AddsSome o a b (ReadsEntry o.disk f stamp (Err lack))
  no_file a b f stamp fault lack is p = (p.0, p.1, NoFile fault p.2 (ap Err is))

  pub bad_file : (a b : T) (f : KnownFolder) (stamp text : List ℕ) (fault : GameFileFault) → IsFirstGameFault text fault → AddsSome o a b (Seeks o.disk (game_path f.path stamp) most_game_bytes (Ok text)) → AddsSome o a b (ReadsEntry o.disk f stamp (Err (AtFault (BadGame fault))))
  bad_file a b f stamp text fault first p = (p.0, p.1, BadFile text fault p.2 first refl)

  pub no_record : (a b c : T) (f : KnownFolder) (stamp text : List ℕ) (fault : ReadFault) (lack : Lack) → lack ≡ lack_of Keeper fault → AddsSome o a b (Seeks o.disk (game_path f.path stamp) most_game_bytes (Ok text)) → AddsSome o b c (ReadsRecord o.disk f stamp (Err fault)) → AddsSome o a c (ReadsEntry o.disk f stamp (Err lack))
  no_record a b c f stamp text fault lack is p q = (p.0 ++ q.0, adds_more o a b c p.0 q.0 p.1 q.1, NoRecord text fault p.0 q.0 p.2 q.2 (ap Err is) refl)

  pub is_side : (a b : T) (f : KnownFolder) (stamp : List ℕ) (e : Entry) (side : Side) → AreSides e stamp side → AddsSome o a b (ReadsEntry o.disk f stamp (Ok e)) → AddsSome o a b (ReadsSide o.disk f stamp (Ok side))
  is_side a b f stamp e side are p = (p.0, p.1, IsSide e side p.2 are refl)

  pub is_none : (a b : T) (f : KnownFolder) (stamp : List ℕ) (e : Entry) (fault : EntryFault) → IsNoSide e stamp fault → AddsSome o a b (ReadsEntry o.disk f stamp (Ok e)) → AddsSome o a b (ReadsSide o.disk f stamp (Err (AtFault fault)))
  is_none a b f stamp e fault none p = (p.0, p.1, IsNone e fault p.2 none refl)

  pub no_room_for_side : (a b : T) (f : KnownFolder) (stamp : List ℕ) (e : Entry) → AddsSome o a b (ReadsEntry o.disk f stamp (Ok e)) → AddsSome o a b (ReadsSide o.disk f stamp (Err NoRoom))
  no_room_for_side a b f stamp e p = (p.0, p.1, NoRoomForSide e p.2 refl)

  pub lacks_entry : (a b : T) (f : KnownFolder) (stamp : List ℕ) (lack : Lack) → AddsSome o a b (ReadsEntry o.disk f stamp (Err lack)) → AddsSome o a b (ReadsSide o.disk f stamp (Err lack))
  lacks_entry a b f stamp lack p = (p.0, p.1, LacksEntry lack p.2 refl)

  -- ---- one or two

  pub has_beside : (a b : T) (one other : Side) (f : KnownFolder) (stamp : List ℕ) (l : Look) → IsLookAtBoth one other l → AddsSome o a b (ReadsSide o.disk f stamp (Ok other)) → AddsSome o a b (LooksBeside o.disk one f stamp (Some l))
  has_beside a b one other f stamp l both p = (p.0, p.1, HasBeside other l p.2 both refl)

  pub lacks_beside : (a b : T) (one : Side) (f : KnownFolder) (stamp : List ℕ) (fault : EntryFault) → AddsSome o a b (ReadsSide o.disk f stamp (Err (AtFault fault))) → AddsSome o a b (LooksBeside o.disk one f stamp (Some (look.OtherAtFault fault)))
  lacks_beside a b one f stamp fault p = (p.0, p.1, LacksBeside fault p.2 refl)

  pub no_room_beside : (a b : T) (one : Side) (f : KnownFolder) (stamp : List ℕ) → AddsSome o a b (ReadsSide o.disk f stamp (Err NoRoom)) → AddsSome o a b (LooksBeside o.disk one f stamp None)
  no_room_beside a b one f stamp p = (p.0, p.1, NoRoomBeside p.2 refl)

  pub in_one : (a b : T) (f : KnownFolders) (stamp : List ℕ) (side : Side) → f.other ≡ None → AddsSome o a b (ReadsSide o.disk f.one stamp (Ok side)) → AddsSome o a b (ReadsLook o.disk f stamp (Some (look.One side)))
  in_one a b f stamp side none p = (p.0, p.1, InOne side none p.2 refl)

  pub in_both : (a b c : T) (f : KnownFolders) (stamp : List ℕ) (side : Side) (second : KnownFolder) (found : Option Look) → f.other ≡ Some second → AddsSome o a b (ReadsSide o.disk f.one stamp (Ok side)) → AddsSome o b c (LooksBeside o.disk side second stamp found) → AddsSome o a c (ReadsLook o.disk f stamp found)
  in_both a b c f stamp side second found some p q = (p.0 ++ q.0, adds_more o a b c p.0 q.0 p.1 q.1, InBoth side second p.0 q.0 some p.2 q.2 refl)

  pub in_lack : (a b : T) (f : KnownFolders) (stamp : List ℕ) (lack : Lack) (found : Option Look) → found ≡ found_lacking lack → AddsSome o a b (ReadsSide o.disk f.one stamp (Err lack)) → AddsSome o a b (ReadsLook o.disk f stamp found)
  in_lack a b f stamp (AtFault fault) found is p = (p.0, p.1, InNone fault p.2 is)
  in_lack a b f stamp NoRoom found is p = (p.0, p.1, NoRoomForOne p.2 is)

-- ---- what is so of all that is found

-- the name is a game's, and the delay of the record is in its range
record IsSound (s : Side) : Type 0 where
  named : IsNamed s
  few : IfSome s.kept (λ r. r.delay ≤ most_delay)

record AreSound (l : Look) : Type 0 where
  named : AreNamed l
  few : AreFewDelays l

few_kept : (stamp : List ℕ) (delay : ℕ) (bytes : Option (List ℕ)) (kept : Option Records) → IsRecorded stamp delay bytes kept → IfSome kept (λ r. r.delay ≤ most_delay)
few_kept stamp delay bytes None h = tt
few_kept stamp delay None (Some r) h = absurd h
few_kept stamp delay (Some bytes) (Some r) h = h.0.in_range.0

ok_same : {A E : Type 0} (x y : A) → ◌≡◌ {A = Result A E} (Ok x) (Ok y) → x ≡ y
ok_same x y e = cc

some_same : {A : Type 0} (x y : A) → ◌≡◌ {A = Option A} (Some x) (Some y) → x ≡ y
some_same x y e = cc

module _ (disk : DiskFacts) where
  entry_named : (f : KnownFolder) (stamp : List ℕ) (e : Entry) (events : List Event) → ReadsEntry disk f stamp (Ok e) events → IsGameName e.game.name.items
  entry_named f stamp e events (HasBoth text x before after p spells q is all) = subst (λ (y : Entry). IsGameName y.game.name.items) (sym (ok_same e x is)) spells.0.name
  entry_named f stamp e events (NoFile fault p is) = absurd cc
  entry_named f stamp e events (BadFile text fault p first is) = absurd cc
  entry_named f stamp e events (NoRecord text fault before after p q is all) = absurd cc

  side_sound : (f : KnownFolder) (stamp : List ℕ) (side : Side) (events : List Event) → ReadsSide disk f stamp (Ok side) events → IsSound side
  side_sound f stamp side events (IsSide e s p are is) = subst IsSound (sym (ok_same side s is)) (record {
    named = subst (λ (x : Game). IsGameName x.name.items) (sym are.game) (entry_named f stamp e events p);
    few = few_kept stamp e.game.delay (option_map (λ v. v.items) e.kept) s.kept are.recorded;
  })
  side_sound f stamp side events (IsNone e fault p none is) = absurd cc
  side_sound f stamp side events (NoRoomForSide e p is) = absurd cc
  side_sound f stamp side events (LacksEntry lack p is) = absurd cc

  both_sound : (one other : Side) (l : Look) → IsSound one → IsSound other → IsLookAtBoth one other l → AreSound l
  both_sound one other (look.One side) a b h = absurd h
  both_sound one other (look.Both side beside compared) a b h =
      let first = subst IsSound (sym h.0) a in
      let second = subst IsSound (sym h.1) b in
      record { named = (first.named, second.named); few = (first.few, second.few) }
  both_sound one other (look.AtFault fault) a b h = absurd h
  both_sound one other (look.OtherAtFault fault) a b h = record { named = tt; few = tt }

  beside_sound : (one : Side) (f : KnownFolder) (stamp : List ℕ) (l : Look) (events : List Event) → IsSound one → LooksBeside disk one f stamp (Some l) events → AreSound l
  beside_sound one f stamp l events a (HasBeside other x p both is) = subst AreSound (sym (some_same l x is)) (both_sound one other x a (side_sound f stamp other events p) both)
  beside_sound one f stamp l events a (LacksBeside fault p is) = subst AreSound (sym (some_same l (look.OtherAtFault fault) is)) (record { named = tt; few = tt })
  beside_sound one f stamp l events a (NoRoomBeside p is) = absurd cc

  look_sound : (f : KnownFolders) (stamp : List ℕ) (l : Look) (events : List Event) → ReadsLook disk f stamp (Some l) events → AreSound l
  look_sound f stamp l events (InOne side none p is) =
      let s = side_sound f.one stamp side events p in
      subst AreSound (sym (some_same l (look.One side) is)) (record { named = s.named; few = s.few })
  look_sound f stamp l events (InBoth side second before after some p q is) = beside_sound side second stamp l after (side_sound f.one stamp side before p) q
  look_sound f stamp l events (InNone fault p is) = subst AreSound (sym (some_same l (look.AtFault fault) is)) (record { named = tt; few = tt })
  look_sound f stamp l events (NoRoomForOne p is) = absurd cc

  pub look_named : (f : KnownFolders) (stamp : List ℕ) (l : Look) (events : List Event) → ReadsLook disk f stamp (Some l) events → AreNamed l
  look_named f stamp l events h = (look_sound f stamp l events h).named

  pub look_few : (f : KnownFolders) (stamp : List ℕ) (l : Look) (events : List Event) → ReadsLook disk f stamp (Some l) events → AreFewDelays l
  look_few f stamp l events h = (look_sound f stamp l events h).few

  pub by_look : {E : Type 0} (f : KnownFolders) (stamp : List ℕ) (P : Look → Type 0) → ((l : Look) (events : List Event) → ReadsLook disk f stamp (Some l) events → P l) → (r : Result Look E) → (events : List Event) × ReadsLook disk f stamp (found_or_none r) events → IfOk r P
  by_look f stamp P so (Ok l) (events, h) = so l events h
  by_look f stamp P so (Err e) h = tt
