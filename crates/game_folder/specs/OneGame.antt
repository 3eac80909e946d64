-- One game, whose record is kept in a file (this project's own).
use Rattle.std.specs.Prelude.{◌≡◌, ◌≢◌, ◌||◌, ℕ, Bool, true, not, cond, List, [], Result, Ok, Err}
use Rattle.arbiter_server.specs.GameFiles.{GameContents, game_as_told}
use Rattle.arbiter_server.specs.declared.fault.OpenGameError.{OpenGameError}
use Rattle.arbiter_server.specs.declared.fault.OpenGameError.TheVariants as unopened
use Rattle.arbiter_server.specs.declared.fault.Uncommitted.TheVariants as uncommitted
use Rattle.arbiter_server.specs.declared.games.GameConfig.{GameConfig}
use Rattle.game_folder.specs.Holdings.{GamesFacts}
use Rattle.game_folder.specs.Places.{one_file}
use Rattle.timeline.specs.Outsides.{Outside}
use Rattle.game_folder.specs.RecordFiles.{IsKnownOfFile, TakesFromFile, puts_in_file}

-- the game, its stamp, and the path of the file of its record
pub record OnePlace : Type 0 where
  pub stamp : List ℕ
  pub game : GameContents
  pub path : List ℕ

-- that, and whether a put has failed, so that no more can be committed
pub record OneGameView : Type 0 where
  pub at : OnePlace
  pub is_lost : Bool

-- the game is found by its stamp, and no other is
abbrev pub FindsByStamp : OnePlace → List ℕ → Result GameConfig OpenGameError → Type 0
FindsByStamp at stamp (Ok game) = (stamp ≡ at.stamp) × (game_as_told game.name.items game.start game.delay ≡ at.game)
FindsByStamp at stamp (Err why) = (stamp ≢ at.stamp) × (why ≡ unopened.NoGame)

-- all that is known of it: after a put that failed no commit succeeds
abbrev pub one_game_facts : {T P F K S L : Type 0} → Outside T P F K S L → GamesFacts OneGameView
one_game_facts o = record {
  Place = OnePlace;
  place = λ g. g.at;
  places = λ at. one_file at.path;
  noted = λ g stamp bytes. g.is_lost ≡ true;
  finds = λ at stamp result events. FindsByStamp at stamp result × (events ≡ []);
  takes = λ g stamp result events new. TakesFromFile g.at.path result events × (new ≡ g) × IsKnownOfFile o g.at.path events;
  keeps = λ g stamp bytes done events new. (events ≡ puts_in_file g.at.path bytes done) × (new ≡ record g { is_lost = g.is_lost || not done });
  commits = λ g told events new. (told ≡ cond g.is_lost (Err uncommitted.StoreLost) (Ok tt)) × (events ≡ []) × (new ≡ g);
}
