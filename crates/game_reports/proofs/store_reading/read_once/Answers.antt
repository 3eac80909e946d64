use Rattle.game_reports.specs.Inside.StoreReading.{folder_of, store_bytes}
use Rattle.game_reports.proofs.StoreLaws.{once_done, once_first, once_second, once_third}
use Rattle.game_reports.proofs.store_reading.read_once.Goals as goal

pub returns-in-Err : goal.returns-in-Err
returns-in-Err g c = once_first (g.S.System.outside c.args.system.now) _ _ (folder_of c.args.store.now) c.in-Err.fault c.in-Err.ensures

pub returns-in-Err-read_both : goal.returns-in-Err-read_both
returns-in-Err-read_both g c = once_second (g.S.System.outside c.args.system.now) _ _ _ (folder_of c.args.store.now) c.in-Ok.before.items c.in-Err-read_both.fault c.in-Ok.ensures c.in-Err-read_both.ensures

pub returns-in-Ok-read_log : goal.returns-in-Ok-read_log
returns-in-Ok-read_log g c =
    once_done (g.S.System.outside c.args.system.now) _ _ _ _ (folder_of c.args.store.now) c.in-Ok.before.items (store_bytes c.in-Ok-read_both.files) c.in-Ok-read_log.after.items _ (rw (c.deref.ensures.value, c.deref-in-Ok-read_log.ensures.value) at c.of_one_moment.ensures) c.in-Ok.ensures c.in-Ok-read_both.ensures c.in-Ok-read_log.ensures

pub returns : goal.returns
returns g c = once_third (g.S.System.outside c.args.system.now) _ _ _ _ (folder_of c.args.store.now) c.in-Ok.before.items (store_bytes c.in-Ok-read_both.files) c.in-Err-read_log.fault c.in-Ok.ensures c.in-Ok-read_both.ensures c.in-Err-read_log.ensures
