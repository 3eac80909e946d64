use Rattle.std.proofs.Common.{ℕ, List, subst, sym, take}
use Rattle.std.proofs.lemmas.List.{take_all}
use Rattle.host_commands.proofs.ImportLaws.{next_stamp}
use Rattle.host_commands.proofs.OpenLaws.{none_left, one_left}
use Rattle.host_commands.specs.Imports.{NotesAllLeft}
use Rattle.timeline.specs.Outsides.{AddsSome}
use Rattle.host_commands.proofs.store_opening.note_left.Goals as goal

pub loop-stamp-init : goal.loop-stamp-init
loop-stamp-init g c = none_left (g.S.System.outside c.args.system.now) c.args.folder.now _

pub loop-stamp-preserved : goal.loop-stamp-preserved
loop-stamp-preserved g c =
    let o = g.S.System.outside c.args.system.now in
    let all = c.args.left.now in
    let i = c.loop-stamp.stamp-index in
    subst (λ (l : List (List ℕ)). AddsSome o c.args.timeline.now c.note_one_left.new.timeline (NotesAllLeft c.args.folder.now l)) (sym (next_stamp all i c.stamp-item.result c.loop-stamp-test.true c.stamp-item.is))
    (one_left o c.args.folder.now (take i all) c.stamp-item.result _ _ _ c.loop-stamp.invariant c.note_one_left.ensures)

pub returns : goal.returns
returns g c =
    let all = c.args.left.now in
    subst (λ (l : List (List ℕ)). AddsSome (g.S.System.outside c.args.system.now) c.args.timeline.now c.loop-stamp.timeline (NotesAllLeft c.args.folder.now l)) (take_all c.loop-stamp.stamp-index all c.loop-stamp-test.false) c.loop-stamp.invariant
