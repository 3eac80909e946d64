use Rattle.std.proofs.Common.{◌+◌, drop, refl, suc, sym, take, take-append-drop}
use Rattle.std.proofs.lemmas.List.{take_all}
use Rattle.task_files.proofs.ReadLaws.{names_parted, read_cut, read_full, read_next, read_whole}
use Rattle.task_files.proofs.table_reading.read_each.Goals as goal

pub returns-in-Err : goal.returns-in-Err
returns-in-Err g c =
    let all = c.args.names.now in
    let i = c.loop-name.name-index in
    read_cut (g.S.System.outside c.args.system.now) _ _ _ c.args.folder.now all (take i all) c.name-item.result (drop (suc i) all) _ c.in-Err.fault (names_parted all i c.name-item.result c.loop-name-test.true c.name-item.is) c.loop-name.invariant c.in-Err.ensures

pub returns-in_default : goal.returns-in_default
returns-in_default g c =
    let all = c.args.names.now in
    let i = c.loop-name.name-index in
    let more = read_next (g.S.System.outside c.args.system.now) _ _ _ c.args.folder.now all i c.name-item.result c.loop-name.files.items _ c.in-Ok.file refl c.loop-name-test.true c.name-item.is c.loop-name.invariant c.in-Ok.ensures in
    read_full (g.S.System.outside c.args.system.now) _ _ c.args.folder.now all (take (i + 1) all) (drop (i + 1) all) _ (sym (take-append-drop (i + 1) all)) more

pub loop-name-preserved : goal.loop-name-preserved
loop-name-preserved g c =
    let all = c.args.names.now in
    let i = c.loop-name.name-index in
    read_next (g.S.System.outside c.args.system.now) _ _ _ c.args.folder.now all i c.name-item.result c.loop-name.files.items _ c.in-Ok.file c.in-Ok-push.ensures.items c.loop-name-test.true c.name-item.is c.loop-name.invariant c.in-Ok.ensures

pub returns : goal.returns
returns g c =
    let all = c.args.names.now in
    read_whole (g.S.System.outside c.args.system.now) _ _ c.args.folder.now all (take c.loop-name.name-index all) _ (take_all c.loop-name.name-index all c.loop-name-test.false) c.loop-name.invariant
