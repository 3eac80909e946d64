use Rattle.answer_commands.specs.Enter.{entered}
use Rattle.answer_commands.specs.Inside.Entering.{place_of}
use Rattle.answer_commands.proofs.EnterLaws.{entered_by, fault_put, stamp_put}
use Rattle.answer_commands.proofs.entering.put_game.Goals as goal

pub returns-in-Ok-clause-made : goal.returns-in-Ok-clause-made
returns-in-Ok-clause-made g c =
    let o = g.S.System.outside c.args.system.now in
    let p = place_of c.args.place.now in
    let game = entered c.args.game.now c.args.start.now in
    let stamp = c.stamp-stamp.ensures in
    let kept = entered_by o _ _ p game c.stamp-stamp.result c.write_game-text.result.items _ _ _ stamp c.write_game-text.ensures.spells (rw c.as_slice.ensures.value at c.in-Ok.ensures) in
    stamp_put o _ _ _ p game c.stamp-stamp.result _ c.print_stamp.result stamp kept c.print_stamp.ensures.made

pub returns-clause-made : goal.returns-clause-made
returns-clause-made g c =
    let o = g.S.System.outside c.args.system.now in
    let p = place_of c.args.place.now in
    let game = entered c.args.game.now c.args.start.now in
    let kept = entered_by o _ _ p game c.stamp-stamp.result c.write_game-text.result.items _ _ _ c.stamp-stamp.ensures c.write_game-text.ensures.spells (rw c.as_slice.ensures.value at c.in-Err.ensures) in
    fault_put o _ _ _ p game _ c.in-Err.fault _ c.print_refusal.result c.refusal_of.ensures kept c.print_refusal.ensures.made
