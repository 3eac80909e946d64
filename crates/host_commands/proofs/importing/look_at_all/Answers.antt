use Rattle.std.proofs.Common.{◌+◌, ◌++◌, ◌∙◌, ℕ, List, ap, drop, refl, subst, suc, sym, take, take-append-drop}
use Rattle.std.proofs.lemmas.List.{take_all}
use Rattle.answer_parts.specs.declared.answers.refusals.Refusal.TheVariants.{Memory}
use Rattle.host_commands.proofs.ImportLaws.{HasSeen, all_seen, next_stamp, no_room_for, none_seen, one_seen, one_unseen, stamps_parted}
use Rattle.host_commands.proofs.importing.look_at_all.Goals as goal

pub loop-stamp-init : goal.loop-stamp-init
loop-stamp-init g c = none_seen (g.S.System.outside c.args.system.now) c.args.folder.now c.args.store.now _ _ c.new.ensures.items c.new-2.ensures.items

pub returns-in-Err : goal.returns-in-Err
returns-in-Err g c =
    let all = c.args.stamps.now in
    let i = c.loop-stamp.stamp-index in
    let parted = stamps_parted all i c.stamp-item.result c.loop-stamp-test.true c.stamp-item.is in
    one_unseen (g.S.System.outside c.args.system.now) c.args.folder.now c.args.store.now all (take i all) (drop (suc i) all) c.stamp-item.result _ _ _ c.in-Err.refusal parted c.loop-stamp.invariant.seen c.in-Err.ensures

pub returns-in_default : goal.returns-in_default
returns-in_default g c =
    let all = c.args.stamps.now in
    let i = c.loop-stamp.stamp-index in
    let parted = sym (take-append-drop (i + 1) all) ∙ ap (λ (l : List (List ℕ)). l ++ drop (i + 1) all) (next_stamp all i c.stamp-item.result c.loop-stamp-test.true c.stamp-item.is) in
    no_room_for (g.S.System.outside c.args.system.now) c.args.folder.now c.args.store.now all (take i all) (drop (i + 1) all) c.stamp-item.result _ _ _ c.in-Ok.seen Memory refl parted c.loop-stamp.invariant.seen c.in-Ok.ensures

pub loop-stamp-preserved : goal.loop-stamp-preserved
loop-stamp-preserved g c =
    let o = g.S.System.outside c.args.system.now in
    let all = c.args.stamps.now in
    let i = c.loop-stamp.stamp-index in
    let more = one_seen o c.args.folder.now c.args.store.now (take i all) c.stamp-item.result _ _ _ c.in-Ok.seen c.loop-stamp.coming c.add_seen.new.coming c.loop-stamp.invariant c.in-Ok.ensures c.in-Ok-add_seen.ensures in
    subst (λ (l : List (List ℕ)). HasSeen o c.args.folder.now c.args.store.now l c.args.timeline.now c.look_at.new.timeline c.add_seen.new.coming) (sym (next_stamp all i c.stamp-item.result c.loop-stamp-test.true c.stamp-item.is)) more

pub returns : goal.returns
returns g c =
    let all = c.args.stamps.now in
    all_seen (g.S.System.outside c.args.system.now) c.args.folder.now c.args.store.now all (take c.loop-stamp.stamp-index all) _ _ c.loop-stamp.coming (take_all c.loop-stamp.stamp-index all c.loop-stamp-test.false) c.loop-stamp.invariant
