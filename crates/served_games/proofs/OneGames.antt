-- What one game told lasts.
use Rattle.std.proofs.Common.{◌≡◌, ◌∙◌, inl, ℕ, List, [], ◌∷◌, refl, sym, ap, subst}
use Rattle.std.specs.Prelude.{Ok}
use Rattle.arbiter_core.specs.Setups.{SetupView}
use Rattle.arbiter_server.specs.GameFiles.{GameContents, game_as_told}
use Rattle.arbiter_server.specs.Games.{CommonView, setup_of}
use Rattle.arbiter_server.specs.declared.games.GameConfig.{GameConfig}
use Rattle.timeline.specs.Events.{Event, Found}
use Rattle.timeline.specs.Outsides.{Outside}
use Rattle.game_folder.specs.Holdings.{GamesFacts}
use Rattle.game_folder.specs.OneGame.{OneGameView, one_game_facts}
use Rattle.game_server.specs.Rounds.{Heard, HearsAll}
use Rattle.game_server.specs.Seats.{common}
use Rattle.game_server.specs.declared.server.Server.{Server}
use Rattle.served_games.specs.Durable.{AreServedRuns, IsServedRun, ServedRun, behind, events_of}
use Rattle.served_games.specs.OneGames.{AreRunsOfOne, IsRunOfOne, OneGameKeepsWhatItTold, one_place}
use Rattle.served_games.specs.PlaceKeepers.{found_keeper}
use Rattle.served_games.specs.Unasked.{Begins, WithNone, WithOne}
use Rattle.served_games.proofs.AtOnce.{if_same, one_game_keeps_at_once}
use Rattle.served_games.proofs.Enduring.{runs_last}

pub begun_hears : {T P F K S L G : Type 0} (o : Outside T P F K S L) (facts : GamesFacts G) (first old : Server G F) (unasked : List Heard) → Begins o facts first unasked old → HearsAll o facts first unasked old
unfolding HearsAll
begun_hears o facts first old unasked (WithNone same none) = subst (λ (l : List Heard). HearsAll o facts first l old) (sym none) same
begun_hears o facts first old unasked (WithOne stamp result events size u is) = subst (λ (l : List Heard). HearsAll o facts first l old) (sym is) (old, u.hears, refl)

module _ {T P F K S L : Type 0} (o : Outside T P F K S L) (t : CommonView) (game : GameConfig) (stamp path : List ℕ) where
  abbrev setup : SetupView
  setup = setup_of t game.name.items game.start game.delay

  pub same_setup : (c : CommonView) (other : GameConfig) → c ≡ t → game_as_told other.name.items other.start other.delay ≡ game_as_told game.name.items game.start game.delay → setup_of c other.name.items other.start other.delay ≡ setup
  same_setup c other common_is told =
      ap (λ (x : CommonView). setup_of x other.name.items other.start other.delay) common_is ∙ ap (λ (g : GameContents). setup_of t g.name g.start g.delay) told

  is_served : (past : List Event) (r : ServedRun OneGameView F) → IsRunOfOne o t game stamp path past r → IsServedRun o (one_game_facts o) (one_place game stamp path) stamp setup past r
  is_served past r h = record {
    there = ap (λ (g : OneGameView). g.at) h.new.games_are;
    closed = h.new.none;
    one = λ other events finds happened. same_setup (common r.old) other h.new.common_is finds.0.1;
    form = h.form;
    texts = h.texts;
    opens = begun_hears o (one_game_facts o) r.old r.begun r.unasked h.begins;
    in_turns = h.in_turns;
    hears = h.hears;
    first_stays = h.first_stays;
    asked_stays = h.asked_stays;
    tail_stays = h.tail_stays;
  }

  are_served : (past : List Event) (runs : List (ServedRun OneGameView F)) → AreRunsOfOne o t game stamp path past runs → AreServedRuns o (one_game_facts o) (one_place game stamp path) stamp setup past runs
  are_served past [] h = tt
  are_served past (r ∷ rs) h = (is_served past r h.0, are_served (behind past (events_of r)) rs h.1)

pub one_game_keeps_what_it_told : {T P F K S L : Type 0} (o : Outside T P F K S L) → OneGameKeepsWhatItTold o
one_game_keeps_what_it_told o t game stamp path there runs is are durable =
    runs_last o (one_game_facts o) (one_game_keeps_at_once o) (one_place game stamp path) stamp (setup_of t game.name.items game.start game.delay) (Found path (Ok there) ∷ []) (found_keeper there) runs
    (record { game = game; events = []; finds = ((refl, refl), refl); manifest = t.manifest; is = is })
    (λ found m. inl (if_same path (found ≡ there) (Unit {0}) m))
    (are_served o t game stamp path (Found path (Ok there) ∷ []) runs are)
    durable.1
