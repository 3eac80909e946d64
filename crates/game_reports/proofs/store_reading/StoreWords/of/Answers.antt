use Rattle.game_reports.proofs.StoreLaws.{store_at}
use Rattle.game_reports.proofs.store_reading.StoreWords.of.Goals as goal

pub returns-clause-paths : goal.returns-clause-paths
returns-clause-paths c = store_at c.args.folder.now _ _ c.in_ok-db.ensures c.in_ok-log.ensures
