use Rattle.game_reports.specs.Inside.StoreReading.{folder_of, store_bytes}
use Rattle.game_reports.proofs.StoreLaws.{files_read, files_unread, missed_more}
use Rattle.game_reports.proofs.store_reading.read_files.Goals as goal

pub returns-in-Ok-Some : goal.returns-in-Ok-Some
returns-in-Ok-Some g c = files_read (g.S.System.outside c.args.system.now) _ _ _ (folder_of c.args.store.now) c.loop.counter (store_bytes c.in-Ok-Some.files) c.loop-test.true c.loop.invariant (rw c.in-Ok-Some.field-0-is at c.in-Ok-Some.ensures)

pub returns-in-Err : goal.returns-in-Err
returns-in-Err g c = files_unread (g.S.System.outside c.args.system.now) _ _ _ (folder_of c.args.store.now) c.loop.counter c.in-Err.fault c.loop-test.true c.loop.invariant c.in-Err.ensures

pub loop-preserved : goal.loop-preserved
loop-preserved g c = missed_more (g.S.System.outside c.args.system.now) _ _ _ (folder_of c.args.store.now) c.loop.counter c.loop.invariant (rw c.in-Ok-None.field-0-is at c.in-Ok-None.ensures)
