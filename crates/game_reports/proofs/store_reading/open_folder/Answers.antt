use Rattle.std.proofs.Common.{ap}
use Rattle.std.specs.Prelude.{Err, map, string_bytes}
use Rattle.answer_parts.specs.Lines.{refusal_words}
use Rattle.system_io.specs.Records.{records_of}
use Rattle.game_reports.proofs.StoreLaws.{listed, no_folder, no_room, no_store, opened, unlisted}
use Rattle.game_reports.proofs.store_reading.open_folder.Goals as goal

pub returns-in-Err : goal.returns-in-Err
returns-in-Err g c =
    let o = g.S.System.outside c.args.system.now in
    no_folder o _ _ c.args.path.now (refusal_words c.unread.result) c.in-Err.fault c.unread.ensures.words (unlisted o _ _ c.args.path.now c.in-Err.fault (λ is. c.in-Err.ensures.cause (ap Err is)) c.in-Err.ensures.made)

pub returns-in-Ok-read_store : goal.returns-in-Ok-read_store
returns-in-Ok-read_store g c =
    let o = g.S.System.outside c.args.system.now in
    let names = map string_bytes c.in-Ok-names.names.items in
    opened o _ _ _ c.args.path.now names (records_of c.in-Ok-read_store.entries.items) (listed o _ _ c.args.path.now names c.in-Ok-names.ensures.listed c.in-Ok-names.ensures.made) (rw c.in-Ok.ensures.paths at (rw c.deref.ensures.value at c.in-Ok-read_store.ensures))

pub returns-in-Err-Unreadable : goal.returns-in-Err-Unreadable
returns-in-Err-Unreadable g c =
    let o = g.S.System.outside c.args.system.now in
    let names = map string_bytes c.in-Ok-names.names.items in
    let read = rw c.in-Err-Unreadable.field-0-is at c.in-Err-Unreadable.ensures in
    no_store o _ _ _ _ c.args.path.now names (listed o _ _ c.args.path.now names c.in-Ok-names.ensures.listed c.in-Ok-names.ensures.made) (rw c.in-Ok.ensures.paths at (rw c.deref.ensures.value at read)) (rw c.in-Ok.ensures.unread at (rw c.as_str.ensures.value at c.note.ensures.made))

pub returns : goal.returns
returns g c =
    let o = g.S.System.outside c.args.system.now in
    let names = map string_bytes c.in-Ok-names.names.items in
    let read = rw c.in-Err-OutOfMemory.field-0-is at c.in-Err-OutOfMemory.ensures in
    no_room o _ _ _ c.args.path.now names (listed o _ _ c.args.path.now names c.in-Ok-names.ensures.listed c.in-Ok-names.ensures.made) (rw c.in-Ok.ensures.paths at (rw c.deref.ensures.value at read))
