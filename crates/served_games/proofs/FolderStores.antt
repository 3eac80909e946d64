-- What a game of a folder told over a store lasts.
use Rattle.std.proofs.Common.{◌∙◌, ℕ, List, [], ◌∷◌, ap}
use Rattle.std.specs.List.{AllByRecursion}
use Rattle.arbiter_core.specs.Setups.{SetupView}
use Rattle.arbiter_server.specs.GameFiles.{SpellsGame, game_as_told}
use Rattle.arbiter_server.specs.Games.{CommonView, setup_of}
use Rattle.arbiter_server.specs.declared.games.GameConfig.{GameConfig}
use Rattle.timeline.specs.Outsides.{Outside}
use Rattle.game_folder.specs.StoreGames.{StoredGames, store_games_facts}
use Rattle.game_server.specs.Seats.{common}
use Rattle.served_games.specs.Durable.{ServedRun, work_of}
use Rattle.served_games.specs.FolderStores.{IsRunOfStore, StoreGamesAreLed, StoreGamesKeepWhatTheyTold, stored_place}
use Rattle.served_games.specs.StoreRuns.{IsRunOver}
use Rattle.served_games.proofs.FolderRuns.{found_so}
use Rattle.served_games.proofs.OneGames.{begun_hears, same_setup}
use Rattle.served_games.proofs.StoreRuns.{runs_are_led, runs_are_told}

module _ {T P F K S L : Type 0} (o : Outside T P F K S L) (t : CommonView) (game : GameConfig) (text folder path stamp : List ℕ) (spells : SpellsGame text (game_as_told game.name.items game.start game.delay)) where
  abbrev setup : SetupView
  setup = setup_of t game.name.items game.start game.delay

  is_over : (r : ServedRun (StoredGames S) F) → IsRunOfStore o t text folder path stamp r → IsRunOver o (stored_place folder path) stamp setup r
  is_over r h = record {
    folder = ap (λ (g : StoredGames S). g.folder) h.new.games_are ∙ h.there;
    store = ap (λ (g : StoredGames S). o.store_path g.store) h.new.games_are ∙ h.store;
    none_noted = ap (λ (g : StoredGames S). g.noted) h.new.games_are ∙ h.none_noted;
    closed = h.new.none;
    one = λ other events finds happened.
        same_setup o t game stamp text (common r.old) other h.new.common_is (found_so folder stamp text (work_of r) h.text_is (game_as_told game.name.items game.start game.delay) spells other events finds.0 happened);
    form = h.form;
    texts = h.texts;
    opens = begun_hears o (store_games_facts o) r.old r.begun r.unasked h.begins;
    in_turns = h.in_turns;
    hears = h.hears;
    imports = h.imports;
    asked_none = h.asked_none;
    stops = h.stops;
  }

  are_over : (runs : List (ServedRun (StoredGames S) F)) → AllByRecursion (IsRunOfStore o t text folder path stamp) runs → AllByRecursion (IsRunOver o (stored_place folder path) stamp setup) runs
  are_over [] h = tt
  are_over (r ∷ rs) h = (is_over r h.0, are_over rs h.1)

pub store_games_keep_what_they_told : {T P F K S L : Type 0} (o : Outside T P F K S L) → StoreGamesKeepWhatTheyTold o
store_games_keep_what_they_told o t game text folder path stamp past found runs spells are durable m =
    runs_are_told o (stored_place folder path) stamp (setup_of t game.name.items game.start game.delay) past runs found (are_over o t game text folder path stamp spells runs are) durable m

pub store_games_are_led : {T P F K S L : Type 0} (o : Outside T P F K S L) → StoreGamesAreLed o
store_games_are_led o t game text folder path stamp past found runs spells are durable m =
    runs_are_led o (stored_place folder path) stamp (setup_of t game.name.items game.start game.delay) past runs found (are_over o t game text folder path stamp spells runs are) durable m
