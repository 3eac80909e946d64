use Rattle.std.proofs.Common.{◌+◌, [], refl, take}
use Rattle.std.proofs.lemmas.List.{take_all}
use Rattle.move_msg.specs.Files.{table_file_of}
use Rattle.timeline.proofs.EventLaws.{adds_none}
use Rattle.task_files.proofs.TurnLaws.{looked_all, looked_cut, looked_full, looked_next, none_looked, turned_next}
use Rattle.task_files.proofs.table_looks.look_at_each.Goals as goal

pub loop-name-init : goal.loop-name-init
loop-name-init g c =
    let o = g.S.System.outside c.args.system.now in
    rw c.new-looks.ensures.items (none_looked o c.args.folder.now c.args.progress g.L.TableRequest.made_of c.args.timeline.now ([], adds_none o c.args.timeline.now, refl))

pub returns-in-Err : goal.returns-in-Err
returns-in-Err g c =
    looked_cut (g.S.System.outside c.args.system.now) c.args.folder.now c.args.progress g.L.TableRequest.made_of _ _ _ c.args.names.now c.loop-name.name-index c.name-item.result c.loop-name.count c.loop-name.looks.items c.in-Err.fault c.loop-name-test.true c.name-item.is c.loop-name.invariant c.in-Err.ensures

pub returns-in_default : goal.returns-in_default
returns-in_default g c =
    let o = g.S.System.outside c.args.system.now in
    let all = c.args.names.now in
    let i = c.loop-name.name-index in
    let f = table_file_of c.in-Ok.file in
    let turned = turned_next o c.args.folder.now c.args.progress _ _ _ _ all i c.name-item.result c.loop-name.count c.count_more-count.result _ f c.loop-name-test.true c.name-item.is (rw c.deref.ensures.value at c.count_more-count.ensures) c.in-Ok.ensures c.may_say.ensures c.loop-name.invariant.turned in
    looked_full o c.args.folder.now c.args.progress g.L.TableRequest.made_of _ _ all (i + 1) c.count_more-count.result _ turned

pub returns-in_default-push : goal.returns-in_default-push
returns-in_default-push g c =
    let o = g.S.System.outside c.args.system.now in
    let all = c.args.names.now in
    let i = c.loop-name.name-index in
    let f = table_file_of c.in-Ok.file in
    let turned = turned_next o c.args.folder.now c.args.progress _ _ _ _ all i c.name-item.result c.loop-name.count c.count_more-count.result _ f c.loop-name-test.true c.name-item.is (rw c.deref.ensures.value at c.count_more-count.ensures) c.in-Ok.ensures c.may_say.ensures c.loop-name.invariant.turned in
    looked_full o c.args.folder.now c.args.progress g.L.TableRequest.made_of _ _ all (i + 1) c.count_more-count.result _ turned

pub loop-name-preserved : goal.loop-name-preserved
loop-name-preserved g c =
    let f = table_file_of c.in-Ok.file in
    looked_next (g.S.System.outside c.args.system.now) c.args.folder.now c.args.progress g.L.TableRequest.made_of _ _ _ _ c.args.names.now c.loop-name.name-index c.name-item.result c.loop-name.count c.count_more-count.result c.loop-name.looks.items c.push.new.self.items c.in-Ok-of.look f c.loop-name-test.true c.name-item.is (rw c.deref.ensures.value at c.count_more-count.ensures) c.in-Ok-push.ensures.items c.in-Ok-of.ensures c.in-Ok.ensures c.may_say.ensures c.loop-name.invariant

pub returns : goal.returns
returns g c =
    let all = c.args.names.now in
    let i = c.loop-name.name-index in
    looked_all (g.S.System.outside c.args.system.now) c.args.folder.now c.args.progress g.L.TableRequest.made_of _ _ all (take i all) c.loop-name.count c.loop-name.looks.items (take_all i all c.loop-name-test.false) c.loop-name.invariant
