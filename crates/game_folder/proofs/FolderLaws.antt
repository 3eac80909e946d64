-- Games that are looked for in a folder.
use Rattle.std.proofs.Common.{ℕ, List, refl, subst, sym}
use Rattle.std.specs.Prelude.{Result, Ok, Err, IfErr, IfOk}
use Rattle.arbiter_server.specs.GameFiles.{game_as_told}
use Rattle.arbiter_server.specs.GameFolders.{HasGame, game_path}
use Rattle.arbiter_server.specs.declared.fault.OpenGameError.{OpenGameError}
use Rattle.arbiter_server.specs.declared.games.GameConfig.{GameConfig}
use Rattle.system_io.specs.Disks.{DiskFacts}
use Rattle.timeline.specs.Events.{Event}
use Rattle.game_folder.specs.FolderGames.{FindsInFolder, HadNoPath, IsToldBy, LacksFile, Sought, StandsOn}
use Rattle.game_folder.specs.Holdings.{SendsNothing}

-- bytes that spell no game are at fault
pub faulty : (disk : DiskFacts) (folder stamp text : List ℕ) (result : Result GameConfig OpenGameError) → disk.holds (game_path folder stamp) text → IsToldBy (Ok text) result → IfErr result (LacksFile disk folder stamp)
faulty disk folder stamp text (Ok game) held told = tt
faulty disk folder stamp text (Err why) held told = subst (LacksFile disk folder stamp) (sym told.2) (text, held, (told.0, told.1, refl))

-- nothing is sent where a game is looked for
pub finding_sends_nothing : (folder stamp : List ℕ) (result : Result GameConfig OpenGameError) (events : List Event) → FindsInFolder folder stamp result events → SendsNothing events
finding_sends_nothing folder stamp result events (HadNoPath why none) = subst SendsNothing (sym none) tt
finding_sends_nothing folder stamp result events (Sought got short told one) = subst SendsNothing (sym one) ((λ to bytes e. cc), tt)

-- the game that is found stands there, or none does
pub stands_on : (disk : DiskFacts) (folder stamp : List ℕ) (result : Result GameConfig OpenGameError) → IfOk result (λ game. HasGame disk folder stamp (game_as_told game.name.items game.start game.delay)) → IfErr result (LacksFile disk folder stamp) → StandsOn disk folder stamp result
stands_on disk folder stamp (Ok game) told lacks = told
stands_on disk folder stamp (Err why) told lacks = lacks
