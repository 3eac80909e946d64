-- Records that are put in files are put at once, each in its own.
use Rattle.std.proofs.Common.{◌≡◌, ◌≢◌, ◌⊎◌, inl, inr, ◌∙◌, ℕ, Bool, false, true, List, [], ◌∷◌, Option, Some, refl, sym, ap, subst}
use Rattle.std.specs.Prelude.{Result, Ok, Err}
use Rattle.std.specs.Str.{bytes_eq}
use Rattle.arbiter_server.specs.GameFolders.{kept_path}
use Rattle.arbiter_server.specs.declared.fault.OpenGameError.{OpenGameError}
use Rattle.arbiter_server.specs.declared.fault.OpenGameError.TheVariants as unopened
use Rattle.arbiter_server.specs.declared.games.GameConfig.{GameConfig}
use Rattle.system_io.specs.declared.reading.ReadFault.{ReadFault}
use Rattle.system_io.specs.declared.reading.ReadFault.TheVariants as read
use Rattle.timeline.specs.Events.{Event, FileOpened, Found, Put}
use Rattle.timeline.specs.Outsides.{Outside}
use Rattle.game_folder.specs.FolderGames.{FindsInFolder, HadNoPath, Sought, folder_games_facts}
use Rattle.game_folder.specs.OneGame.{OneGameView, OnePlace, one_game_facts}
use Rattle.game_folder.specs.Places.{InFile}
use Rattle.game_folder.specs.declared.folder_games.FolderGames.{FolderGames}
use Rattle.game_folder.specs.RecordFiles.{HadNoRoom, NotOpened, Started, TakesFromFile, puts_in_file, started}
use Rattle.served_games.specs.Durable.{IfSame, IsDurableAfter, IsToldAt, KeepsAtOnce, MayFind, StaysFound, behind}
use Rattle.served_games.specs.PlaceKeepers.{AtPlace, BehindPut, BehindTake, IsThere}
use Rattle.served_games.proofs.Finding.{stays_none}
use Rattle.served_games.proofs.Stamping.{paths_apart, stamp_fits, stamps_apart}

-- ---- a file

pub if_same : (path : List ℕ) (so otherwise : Type 0) → IfSame path path so otherwise → so
if_same path so otherwise (inl h) = h.1
if_same path so otherwise (inr h) = absurd (h.0 refl)

pub if_other : (a b : List ℕ) (so otherwise : Type 0) → a ≢ b → IfSame a b so otherwise → otherwise
if_other a b so otherwise apart (inl h) = absurd (apart h.0)
if_other a b so otherwise apart (inr h) = h.1

abbrev Got : Type 0
Got = Result (Option (List ℕ)) ReadFault

module _ (path stamp : List ℕ) where
  abbrev May : List Event → Option (List ℕ) → Type 0
  May past found = MayFind (InFile path) stamp past found

  -- a start that reads no record changes nothing
  unread_stays : (at : List ℕ) (fault : ReadFault) (past : List Event) → StaysFound (InFile path) stamp past (Found at (Err fault) ∷ [])
  unread_stays at fault past found m = m

  -- ---- what is taken

  taken_got : (got : Option (List ℕ)) (r : Got) → Ok got ≡ started r → r ≡ Ok got
  taken_got got (Ok other) is = let f : ◌≡◌ {A = Result (Option (List ℕ)) OpenGameError} (Ok got) (Ok other) = is in let same : other ≡ got = cc in ap Ok same
  taken_got got (Err read.Unreadable) is = absurd (let f : ◌≡◌ {A = Result (Option (List ℕ)) OpenGameError} (Ok got) (Err unopened.Keeper) = is in cc)
  taken_got got (Err read.OutOfMemory) is = absurd (let f : ◌≡◌ {A = Result (Option (List ℕ)) OpenGameError} (Ok got) (Err unopened.OutOfMemory) = is in cc)

  withheld_got : (why : OpenGameError) (r : Got) → Err why ≡ started r → (fault : ReadFault) × (r ≡ Err fault)
  withheld_got why (Ok other) is = absurd (let f : ◌≡◌ {A = Result (Option (List ℕ)) OpenGameError} (Err why) (Ok other) = is in cc)
  withheld_got why (Err fault) is = (fault, refl)

  -- it may be found, and is found then
  TakenSo : (past : List Event) (got : Option (List ℕ)) → List Event → Type 0
  TakenSo past got events = May past got × ((found : Option (List ℕ)) → May (behind past events) found → found ≡ got)

  taken_so : (past : List Event) (got : Option (List ℕ)) (events : List Event) → events ≡ FileOpened path true ∷ Found path (Ok got) ∷ [] → IsDurableAfter (InFile path) stamp past events → TakenSo past got events
  unfolding TakenSo
  taken_so past got events are durable =
      let d = subst (IsDurableAfter (InFile path) stamp past) are durable in
      (d.1.0 refl, λ found m. if_same path (found ≡ got) (May (FileOpened path true ∷ past) found) (subst (λ (l : List Event). May (behind past l) found) are m))

  file_takes : (got : Option (List ℕ)) (events past : List Event) → TakesFromFile path (Ok got) events → IsDurableAfter (InFile path) stamp past events → May past got × ((found : Option (List ℕ)) → May (behind past events) found → found ≡ got)
  unfolding TakenSo
  file_takes got events past (HadNoRoom why none) durable = absurd (let f : ◌≡◌ {A = Result (Option (List ℕ)) OpenGameError} (Ok got) (Err unopened.OutOfMemory) = why in cc)
  file_takes got events past (NotOpened why one) durable = absurd (let f : ◌≡◌ {A = Result (Option (List ℕ)) OpenGameError} (Ok got) (Err unopened.OutOfMemory) = why in cc)
  file_takes got events past (Started r why two) durable =
      taken_so past got events (two ∙ ap (λ (x : Got). FileOpened path true ∷ Found path x ∷ []) (taken_got got r why)) durable

  file_withholds : (why : OpenGameError) (events past : List Event) → TakesFromFile path (Err why) events → StaysFound (InFile path) stamp past events
  file_withholds why events past (HadNoRoom is none) = stays_none (InFile path) stamp past events none
  file_withholds why events past (NotOpened is one) = λ found m. subst (λ (l : List Event). May (behind past l) found) one m
  file_withholds why events past (Started r is two) = λ found m.
      let g = withheld_got why r is in
      subst (λ (l : List Event). May (behind past l) found) (two ∙ ap (λ (x : Got). FileOpened path true ∷ Found path x ∷ []) g.1) m

  -- ---- what is put

  file_keeps : (bytes : List ℕ) (events past : List Event) → events ≡ puts_in_file path bytes true → (found : Option (List ℕ)) → May (behind past events) found → found ≡ Some bytes
  file_keeps bytes events past are found m = if_same path (found ≡ Some bytes) (May past found) (subst (λ (l : List Event). May (behind past l) found) are m)

  file_fails : (bytes : List ℕ) (events past : List Event) → events ≡ puts_in_file path bytes false → (found : Option (List ℕ)) → May (behind past events) found → (found ≡ Some bytes) ⊎ May past found
  file_fails bytes events past are found m = if_same path ((found ≡ Some bytes) ⊎ May past found) (May past found) (subst (λ (l : List Event). May (behind past l) found) are m)

  -- ---- another file

  module _ (other : List ℕ) (apart : other ≢ path) where
    found_apart : (r : Got) (past : List Event) (found : Option (List ℕ)) → May (Found other r ∷ past) found → May past found
    found_apart (Ok got) past found m = if_other other path (found ≡ got) (May past found) apart m
    found_apart (Err fault) past found m = m

    file_takes_apart : (result : Result (Option (List ℕ)) OpenGameError) (events past : List Event) → TakesFromFile other result events → StaysFound (InFile path) stamp past events
    file_takes_apart result events past (HadNoRoom why none) = stays_none (InFile path) stamp past events none
    file_takes_apart result events past (NotOpened why one) = λ found m. subst (λ (l : List Event). May (behind past l) found) one m
    file_takes_apart result events past (Started r why two) = λ found m. found_apart r past found (subst (λ (l : List Event). May (behind past l) found) two m)

    put_apart : (is_done : Bool) (bytes : List ℕ) (past : List Event) (found : Option (List ℕ)) → May (Put other bytes is_done ∷ past) found → May past found
    put_apart true bytes past found m = if_other other path (found ≡ Some bytes) (May past found) apart m
    put_apart false bytes past found m = if_other other path ((found ≡ Some bytes) ⊎ May past found) (May past found) apart m

    file_keeps_apart : (bytes : List ℕ) (is_done : Bool) (events past : List Event) → events ≡ puts_in_file other bytes is_done → StaysFound (InFile path) stamp past events
    file_keeps_apart bytes is_done events past are found m = put_apart is_done bytes past found (subst (λ (l : List Event). May (behind past l) found) are m)

-- ---- a folder

folder_finds : (folder stamp other : List ℕ) (result : Result GameConfig OpenGameError) (events past : List Event) → FindsInFolder folder other result events → StaysFound (InFile (kept_path folder stamp)) stamp past events
folder_finds folder stamp other result events past (HadNoPath why none) = stays_none (InFile (kept_path folder stamp)) stamp past events none
folder_finds folder stamp other result events past (Sought got short told one) = λ found m. subst (λ (l : List Event). MayFind (InFile (kept_path folder stamp)) stamp (behind past l) found) one m

module _ {T P F K S L : Type 0} (o : Outside T P F K S L) where
  folder_apart : (folder stamp other : List ℕ) → IsToldAt (folder_games_facts o) folder stamp → IsToldAt (folder_games_facts o) folder other → bytes_eq other stamp ≡ false → kept_path folder other ≢ kept_path folder stamp
  folder_apart folder stamp other mine its apart =
      paths_apart folder stamp other
      (stamp_fits mine.manifest stamp mine.game.name.items mine.game.start mine.game.delay mine.is)
      (stamp_fits its.manifest other its.game.name.items its.game.start its.game.delay its.is) apart

  -- no call changes where the folder is
  folder_there : (folder : List ℕ) (g : FolderGames) → IsThere (folder_games_facts o) folder g → g.folder.now ≡ folder
  folder_there folder g (AtPlace is) = is
  folder_there folder g (BehindTake old stamp result events there takes) = ap (λ (x : FolderGames). x.folder.now) takes.1 ∙ folder_there folder old there
  folder_there folder g (BehindPut old stamp bytes is_done events there keeps) = ap (λ (x : FolderGames). x.folder.now) keeps.1 ∙ folder_there folder old there

  puts_there : (folder stamp bytes : List ℕ) (is_done : Bool) (events : List Event) (g : FolderGames) → IsThere (folder_games_facts o) folder g → events ≡ puts_in_file (kept_path g.folder.now stamp) bytes is_done → events ≡ puts_in_file (kept_path folder stamp) bytes is_done
  puts_there folder stamp bytes is_done events g there are = subst (λ (x : List ℕ). events ≡ puts_in_file (kept_path x stamp) bytes is_done) (folder_there folder g there) are

  pub folder_games_keep_at_once : KeepsAtOnce (folder_games_facts o)
  folder_games_keep_at_once = record {
    finds = λ folder stamp other result events past finds. folder_finds folder stamp other result events past finds.0;
    takes = λ folder g now there stamp got events past takes durable.
        file_takes (kept_path folder stamp) stamp got events past (subst (λ (x : List ℕ). TakesFromFile (kept_path x stamp) (Ok got) events) (folder_there folder g there) takes.0) durable;
    withholds = λ folder g now there stamp why events past takes.
        file_withholds (kept_path folder stamp) stamp why events past (subst (λ (x : List ℕ). TakesFromFile (kept_path x stamp) (Err why) events) (folder_there folder g there) takes.0);
    keeps = λ folder g now there stamp bytes events past keeps. file_keeps (kept_path folder stamp) stamp bytes events past (puts_there folder stamp bytes true events g there keeps.0);
    fails = λ folder g now there stamp bytes events past keeps. file_fails (kept_path folder stamp) stamp bytes events past (puts_there folder stamp bytes false events g there keeps.0);
    takes_apart = λ folder g now there stamp other mine its apart result events past takes.
        file_takes_apart (kept_path folder stamp) stamp (kept_path folder other) (folder_apart folder stamp other mine its apart) result events past (subst (λ (x : List ℕ). TakesFromFile (kept_path x other) result events) (folder_there folder g there) takes.0);
    keeps_apart = λ folder g now there stamp other bytes mine its apart is_done events past keeps.
        file_keeps_apart (kept_path folder stamp) stamp (kept_path folder other) (folder_apart folder stamp other mine its apart) bytes is_done events past (puts_there folder other bytes is_done events g there keeps.0);
    commits = λ folder g now there stamp told events past done. stays_none (InFile (kept_path folder stamp)) stamp past events done.1;
  }

  -- ---- one game

  one_there : (at : OnePlace) (g : OneGameView) → IsThere (one_game_facts o) at g → g.at ≡ at
  one_there at g (AtPlace is) = is
  one_there at g (BehindTake old stamp result events there takes) = ap (λ (x : OneGameView). x.at) takes.1 ∙ one_there at old there
  one_there at g (BehindPut old stamp bytes is_done events there keeps) = ap (λ (x : OneGameView). x.at) keeps.1 ∙ one_there at old there

  one_puts : (at : OnePlace) (bytes : List ℕ) (is_done : Bool) (events : List Event) (g : OneGameView) → IsThere (one_game_facts o) at g → events ≡ puts_in_file g.at.path bytes is_done → events ≡ puts_in_file at.path bytes is_done
  one_puts at bytes is_done events g there are = subst (λ (x : OnePlace). events ≡ puts_in_file x.path bytes is_done) (one_there at g there) are

  -- no other one is found there
  pub one_game_keeps_at_once : KeepsAtOnce (one_game_facts o)
  one_game_keeps_at_once = record {
    finds = λ at stamp other result events past finds. stays_none (InFile at.path) stamp past events finds.1;
    takes = λ at g now there stamp got events past takes durable.
        file_takes at.path stamp got events past (subst (λ (x : OnePlace). TakesFromFile x.path (Ok got) events) (one_there at g there) takes.0) durable;
    withholds = λ at g now there stamp why events past takes.
        file_withholds at.path stamp why events past (subst (λ (x : OnePlace). TakesFromFile x.path (Err why) events) (one_there at g there) takes.0);
    keeps = λ at g now there stamp bytes events past keeps. file_keeps at.path stamp bytes events past (one_puts at bytes true events g there keeps.0);
    fails = λ at g now there stamp bytes events past keeps. file_fails at.path stamp bytes events past (one_puts at bytes false events g there keeps.0);
    takes_apart = λ at g now there stamp other mine its apart. absurd (stamps_apart stamp other apart (its.finds.0.0 ∙ sym mine.finds.0.0));
    keeps_apart = λ at g now there stamp other bytes mine its apart. absurd (stamps_apart stamp other apart (its.finds.0.0 ∙ sym mine.finds.0.0));
    commits = λ at g now there stamp told events past done. stays_none (InFile at.path) stamp past events done.1;
  }
