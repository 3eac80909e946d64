-- Games whose files are in a folder, each with a file of its record beside it (this project's own).
use Rattle.std.specs.Prelude.{◌≡◌, ◌≤◌, ◌⊎◌, ℕ, List, [], ◌∷◌, Result, Ok, Err, IfOk, length}
use Rattle.arbiter_server.specs.GameFiles.{IsFirstGameFault, SpellsGame, game_as_told, line_number}
use Rattle.arbiter_server.specs.GameFolders.{HasGame, game_path, kept_path, most_game_bytes}
use Rattle.arbiter_server.specs.declared.fault.OpenGameError.{OpenGameError}
use Rattle.arbiter_server.specs.declared.fault.OpenGameError.TheVariants as unopened
use Rattle.arbiter_server.specs.declared.game_lines.GameFileFault.{GameFileFault}
use Rattle.arbiter_server.specs.declared.games.GameConfig.{GameConfig}
use Rattle.system_io.specs.Disks.{AtFile, DiskFacts, HasMore}
use Rattle.system_io.specs.declared.reading.ReadFault.{ReadFault}
use Rattle.system_io.specs.declared.reading.ReadFault.TheVariants as read
use Rattle.timeline.specs.Events.{Event, FileSought}
use Rattle.timeline.specs.Outsides.{Outside}
use Rattle.game_folder.specs.Holdings.{GamesFacts}
use Rattle.game_folder.specs.Places.{InFile}
use Rattle.game_folder.specs.RecordFiles.{IsKnownOfFile, TakesFromFile, puts_in_file}
use Rattle.game_folder.specs.declared.folder_games.FolderGames.{FolderGames}

-- what is told of a game by what was read of its file: the game that the bytes spell, or the first line at fault
abbrev pub IsToldBy : Result (List ℕ) ReadFault → Result GameConfig OpenGameError → Type 0
IsToldBy (Ok text) (Ok game) = SpellsGame text (game_as_told game.name.items game.start game.delay)
IsToldBy (Ok text) (Err why) = (fault : GameFileFault) × IsFirstGameFault text fault × (why ≡ unopened.BadGame (line_number fault))
IsToldBy (Err read.Unreadable) result = result ≡ Err unopened.NoGame
IsToldBy (Err read.OutOfMemory) result = result ≡ Err unopened.OutOfMemory

-- By these events a game is looked for in a folder, with what comes of it: memory for the path of its file was refused, or the file was
-- read, of at most 192 bytes.
pub data FindsInFolder (folder stamp : List ℕ) (result : Result GameConfig OpenGameError) (events : List Event) : Type 0 where
  HadNoPath : result ≡ Err unopened.OutOfMemory → events ≡ [] → FindsInFolder folder stamp result events
  Sought : (got : Result (List ℕ) ReadFault) → IfOk got (λ text. length text ≤ most_game_bytes) → IsToldBy got result → events ≡ FileSought (game_path folder stamp) got ∷ [] → FindsInFolder folder stamp result events

-- On this disk the folder tells no game with the stamp, for this reason: its file can't be read, or has more than 192 bytes; a line of it is
-- at fault, the first one of which is told by its number; or memory was refused.
abbrev pub LacksFile : DiskFacts → List ℕ → List ℕ → OpenGameError → Type 0
LacksFile disk folder stamp unopened.NoGame = disk.fails (AtFile (game_path folder stamp)) ⊎ HasMore disk (game_path folder stamp) most_game_bytes
LacksFile disk folder stamp (unopened.BadGame line) =
    (text : List ℕ) × disk.holds (game_path folder stamp) text × ((fault : GameFileFault) × IsFirstGameFault text fault × (line ≡ line_number fault))
LacksFile disk folder stamp unopened.OutOfMemory = Unit {0}
LacksFile disk folder stamp _ = ⊥

-- the game that is found stands in its file on this disk; or the folder tells none there, for this reason
abbrev pub StandsOn : DiskFacts → List ℕ → List ℕ → Result GameConfig OpenGameError → Type 0
StandsOn disk folder stamp (Ok game) = HasGame disk folder stamp (game_as_told game.name.items game.start game.delay)
StandsOn disk folder stamp (Err why) = LacksFile disk folder stamp why

-- all that is known of the games of a folder; nothing is noted, and a commit does nothing
abbrev pub folder_games_facts : {T P F K S L : Type 0} → Outside T P F K S L → GamesFacts FolderGames
folder_games_facts o = record {
  Place = List ℕ;
  place = λ g. g.folder.now;
  places = λ folder stamp. InFile (kept_path folder stamp);
  noted = λ g stamp bytes. ⊥;
  finds = λ folder stamp result events. FindsInFolder folder stamp result events × StandsOn o.disk folder stamp result;
  takes = λ g stamp result events new. TakesFromFile (kept_path g.folder.now stamp) result events × (new ≡ g) × IsKnownOfFile o (kept_path g.folder.now stamp) events;
  keeps = λ g stamp bytes done events new. (events ≡ puts_in_file (kept_path g.folder.now stamp) bytes done) × (new ≡ g);
  commits = λ g told events new. (told ≡ Ok tt) × (events ≡ []) × (new ≡ g);
}
