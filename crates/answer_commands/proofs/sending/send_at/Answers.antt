use Rattle.std.specs.Prelude.{Err}
use Rattle.answer_commands.proofs.SendLaws.{cut_at, no_lines, ran_at, run_performs}
use Rattle.source_core.specs.Runs.{source_terms}
use Rattle.source_core.specs.Sendings.{causes}
use Rattle.answer_commands.proofs.sending.send_at.Goals as goal

pub returns-in-Ok-send_moves-clause-made : goal.returns-in-Ok-send_moves-clause-made
returns-in-Ok-send_moves-clause-made g c =
    let o = g.S.System.outside c.args.system.now in
    let opened = c.in-Ok.ensures in
    let on = c.terms_of.ensures in
    ran_at o _ _ _ _ c.args.task.now c.args.game c.args.port c.in-Ok.lines c.terms_of.result c.in-Ok-send_moves.ended c.report_silence.result (record { given = opened.given; known = opened.known; fails = opened.cause; memory = opened.room })
    (record { is = on.stamp; origin = on.origin; notation = on.notation; tries = on.tries; wait = on.wait }) opened.made c.in-Ok-send_moves.ensures.made c.report_silence.ensures.made c.report_silence.ensures.status

pub returns-in-Err-clause-made : goal.returns-in-Err-clause-made
returns-in-Err-clause-made g c =
    let o = g.S.System.outside c.args.system.now in
    let opened = c.in-Ok.ensures in
    let on = c.terms_of.ensures in
    let state = o.lines c.in-Ok.lines in
    let run = run_performs o _ _ (causes state.fails state.takes_memory) (source_terms c.terms_of.result (o.port c.args.port)) c.args.game.start state.left (Err c.in-Err.fault) c.in-Err.ensures.made in
    cut_at o _ _ _ c.args.task.now c.args.game c.args.port c.in-Ok.lines c.terms_of.result c.in-Err.fault (record { given = opened.given; known = opened.known; fails = opened.cause; memory = opened.room })
    (record { is = on.stamp; origin = on.origin; notation = on.notation; tries = on.tries; wait = on.wait }) opened.made run

pub returns-in_default-clause-made : goal.returns-in_default-clause-made
returns-in_default-clause-made g c =
    let failed = c.in_default.ensures in
    no_lines (g.S.System.outside c.args.system.now) _ _ _ c.args.task.now c.args.game c.args.port c.print_unread.result failed.memory failed.made c.print_unread.ensures.made
