use Rattle.std.proofs.Common.{ap, refl}
use Rattle.std.specs.Prelude.{Err, map, string_bytes}
use Rattle.std.proofs.lemmas.Bool.{false≢true}
use Rattle.game_reports.specs.Inside.StoreReading.{folder_of}
use Rattle.game_reports.proofs.StoreLaws.{listed, log_missing, log_read, log_unlisted, text_read, unlisted}
use Rattle.game_reports.proofs.store_reading.read_log.Goals as goal

pub returns-in-Err : goal.returns-in-Err
returns-in-Err g c =
    let o = g.S.System.outside c.args.system.now in
    log_unlisted o _ _ (folder_of c.args.store.now) c.in-Err.fault (unlisted o _ _ c.args.store.now.folder.now c.in-Err.fault (λ is. c.in-Err.ensures.cause (ap Err is)) c.in-Err.ensures.made)

pub returns-then-not-has_name : goal.returns-then-not-has_name
returns-then-not-has_name g c =
    let o = g.S.System.outside c.args.system.now in
    let names = map string_bytes c.in-Ok.names.items in
    let has = rw c.deref.ensures.value at c.if-not-has_name.ensures in
    rw c.new.ensures.items (log_missing o _ _ (folder_of c.args.store.now) names (λ there. false≢true (has.1 there)) (listed o _ _ c.args.store.now.folder.now names c.in-Ok.ensures.listed c.in-Ok.ensures.made))

pub returns : goal.returns
returns g c =
    let o = g.S.System.outside c.args.system.now in
    let names = map string_bytes c.in-Ok.names.items in
    let has = rw c.deref.ensures.value at c.if-not-has_name.ensures in
    let read = c.read.ensures in
    let text = text_read o _ _ _ c.read.result read.bytes read.short read.cause read.made in
    log_read o _ _ _ (folder_of c.args.store.now) names _ (has.0 refl) (listed o _ _ c.args.store.now.folder.now names c.in-Ok.ensures.listed c.in-Ok.ensures.made) (rw c.as_str.ensures.value at text)
