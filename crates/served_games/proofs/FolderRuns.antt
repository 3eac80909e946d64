-- What a game of a folder told lasts.
use Rattle.std.proofs.Common.{◌≡◌, ◌∙◌, inl, ℕ, List, [], ◌∷◌, refl, ap, subst}
use Rattle.std.specs.Prelude.{Result, Ok, Err}
use Rattle.std.specs.List.{AllByRecursion, Contains}
use Rattle.std.proofs.lemmas.List.Elements.{All-contains, All-from_recursion}
use Rattle.arbiter_core.specs.Setups.{SetupView}
use Rattle.arbiter_server.proofs.GameLaws.{one_game}
use Rattle.arbiter_server.specs.GameFiles.{GameContents, SpellsGame, game_as_told}
use Rattle.arbiter_server.specs.GameFolders.{game_path, kept_path}
use Rattle.arbiter_server.specs.Games.{CommonView, setup_of}
use Rattle.arbiter_server.specs.declared.fault.OpenGameError.{OpenGameError}
use Rattle.arbiter_server.specs.declared.fault.OpenGameError.TheVariants as unopened
use Rattle.arbiter_server.specs.declared.games.GameConfig.{GameConfig}
use Rattle.system_io.specs.declared.reading.ReadFault.{ReadFault}
use Rattle.system_io.specs.declared.reading.ReadFault.TheVariants as read
use Rattle.timeline.specs.Events.{Event, FileSought, Found}
use Rattle.timeline.specs.Outsides.{Outside}
use Rattle.game_folder.specs.FolderGames.{FindsInFolder, HadNoPath, IsToldBy, Sought, folder_games_facts}
use Rattle.game_folder.specs.declared.folder_games.FolderGames.{FolderGames}
use Rattle.game_server.specs.Seats.{common}
use Rattle.served_games.specs.Durable.{AreServedRuns, IsServedRun, ServedRun, behind, events_of, work_of}
use Rattle.served_games.specs.FolderRuns.{AreRunsOfFolder, FolderGamesKeepWhatTheyTold, IsRunOfFolder, ReadsAs}
use Rattle.served_games.specs.PlaceKeepers.{found_keeper}
use Rattle.served_games.proofs.AtOnce.{folder_games_keep_at_once, if_same}
use Rattle.served_games.proofs.Enduring.{runs_last}
use Rattle.served_games.proofs.OneGames.{begun_hears, same_setup}

-- ---- the game that was found is the one that the file's text spells

module _ (path text : List ℕ) (work : List Event) (reads : AllByRecursion (ReadsAs path text) work) where
  read_so : (got : List ℕ) → Contains work (FileSought path (Ok got)) → got ≡ text
  read_so got is = All-contains (ReadsAs path text) work (FileSought path (Ok got)) (All-from_recursion (ReadsAs path text) work reads) is refl

  told_so : (told : GameContents) (spells : SpellsGame text told) (got : Result (List ℕ) ReadFault) (other : GameConfig) → IsToldBy got (Ok other) → Contains work (FileSought path got) → game_as_told other.name.items other.start other.delay ≡ told
  told_so told spells (Ok bytes) other is happened =
      one_game text (game_as_told other.name.items other.start other.delay) told (subst (λ (x : List ℕ). SpellsGame x (game_as_told other.name.items other.start other.delay)) (read_so bytes happened) is) spells
  told_so told spells (Err read.Unreadable) other is happened = absurd (let f : ◌≡◌ {A = Result GameConfig OpenGameError} (Ok other) (Err unopened.NoGame) = is in cc)
  told_so told spells (Err read.OutOfMemory) other is happened = absurd (let f : ◌≡◌ {A = Result GameConfig OpenGameError} (Ok other) (Err unopened.OutOfMemory) = is in cc)

module _ (folder stamp text : List ℕ) (work : List Event) (reads : AllByRecursion (ReadsAs (game_path folder stamp) text) work) where
  pub found_so : (told : GameContents) (spells : SpellsGame text told) (other : GameConfig) (events : List Event) → FindsInFolder folder stamp (Ok other) events → AllByRecursion (Contains work) events → game_as_told other.name.items other.start other.delay ≡ told
  found_so told spells other events (HadNoPath why none) happened = absurd (let f : ◌≡◌ {A = Result GameConfig OpenGameError} (Ok other) (Err unopened.OutOfMemory) = why in cc)
  found_so told spells other events (Sought got short is one) happened =
      told_so (game_path folder stamp) text work reads told spells got other is (subst (AllByRecursion (Contains work)) one happened).0

-- ---- runs

module _ {T P F K S L : Type 0} (o : Outside T P F K S L) (t : CommonView) (game : GameConfig) (text folder stamp : List ℕ) (spells : SpellsGame text (game_as_told game.name.items game.start game.delay)) where
  abbrev setup : SetupView
  setup = setup_of t game.name.items game.start game.delay

  is_served : (past : List Event) (r : ServedRun FolderGames F) → IsRunOfFolder o t text folder stamp past r → IsServedRun o (folder_games_facts o) folder stamp setup past r
  is_served past r h = record {
    there = ap (λ (g : FolderGames). g.folder.now) h.new.games_are ∙ h.there;
    closed = h.new.none;
    one = λ other events finds happened.
        same_setup o t game stamp text (common r.old) other h.new.common_is (found_so folder stamp text (work_of r) h.text_is (game_as_told game.name.items game.start game.delay) spells other events finds.0 happened);
    form = h.form;
    texts = h.texts;
    opens = begun_hears o (folder_games_facts o) r.old r.begun r.unasked h.begins;
    in_turns = h.in_turns;
    hears = h.hears;
    first_stays = h.first_stays;
    asked_stays = h.asked_stays;
    tail_stays = h.tail_stays;
  }

  are_served : (past : List Event) (runs : List (ServedRun FolderGames F)) → AreRunsOfFolder o t text folder stamp past runs → AreServedRuns o (folder_games_facts o) folder stamp setup past runs
  are_served past [] h = tt
  are_served past (r ∷ rs) h = (is_served past r h.0, are_served (behind past (events_of r)) rs h.1)

pub folder_games_keep_what_they_told : {T P F K S L : Type 0} (o : Outside T P F K S L) → FolderGamesKeepWhatTheyTold o
folder_games_keep_what_they_told o t game text folder stamp there runs is spells short held are durable =
    let path = kept_path folder stamp in
    runs_last o (folder_games_facts o) (folder_games_keep_at_once o) folder stamp (setup_of t game.name.items game.start game.delay) (Found path (Ok there) ∷ []) (found_keeper there) runs
    (record { game = game; events = FileSought (game_path folder stamp) (Ok text) ∷ []; finds = (Sought (Ok text) short spells refl, record { text = text; held = held; spells = spells }); manifest = t.manifest; is = is })
    (λ found m. inl (if_same path (found ≡ there) (Unit {0}) m))
    (are_served o t game text folder stamp spells (Found path (Ok there) ∷ []) runs are)
    durable.1
