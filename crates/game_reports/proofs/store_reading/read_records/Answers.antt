use Rattle.game_reports.specs.Inside.StoreReading.{folder_of, store_bytes}
use Rattle.game_reports.proofs.StoreLaws.{records_held, records_unread}
use Rattle.game_reports.proofs.store_reading.read_records.Goals as goal

pub returns-in-Ok : goal.returns-in-Ok
returns-in-Ok g c = records_held (g.S.System.outside c.args.system.now) _ _ (folder_of c.args.store.now) (store_bytes c.in-Ok.files) _ c.records_held.ensures c.in-Ok.ensures

pub returns-in-Err : goal.returns-in-Err
returns-in-Err g c = records_unread (g.S.System.outside c.args.system.now) _ _ (folder_of c.args.store.now) c.in-Err.fault c.in-Err.ensures
