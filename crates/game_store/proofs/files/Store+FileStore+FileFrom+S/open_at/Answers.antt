use Rattle.std.proofs.Common.{arith}
use Rattle.sqlite_wal.specs.Files.{image_at}
use Rattle.sqlite.specs.Files.{file_state, over_files}
use Rattle.sqlite.specs.State.{HasCleanDisk}
use Rattle.game_store.specs.Shelves.{committed}
use Rattle.game_store.proofs.FileLemmas.{finds_games}
use Rattle.game_store.proofs.files.Store+FileStore+FileFrom+S.open_at.Goals as goal

pub returns-in-Ok-over-clause-found : goal.returns-in-Ok-over-clause-found
returns-in-Ok-over-clause-found g c clean =
    let conn = c.in-Ok.conn in
    let early : HasCleanDisk (file_state conn) = omega (arith, c.in-Ok-over.ensures.crash.clean) in
    let finds = c.in-Ok.ensures.found early in
    finds_games (image_at g.S.Start) (file_state conn).committed.trees (committed over_files c.in-Ok-over.store) finds.reads finds.holds (c.in-Ok-over.ensures.found clean)
