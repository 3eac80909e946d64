use Rattle.game_server.proofs.RunLaws.{concluded, concluded_cut}
use Rattle.game_server.proofs.running.conclude.Goals as goal

pub returns-in-Ok-clause-made : goal.returns-in-Ok-clause-made
returns-in-Ok-clause-made g c = λ before had.
    concluded (g.S.System.outside c.args.system.now) before _ c.args.are_sent c.args.replies.now.held c.args.lines.now c.print_lines.new.lines c.args.timeline.now c.send_if.new.timeline c.print_lines.new.timeline c.len.result c.len.ensures
    (rw c.held.ensures at c.send_if.ensures.spelled) (rw c.held.ensures at c.send_if.ensures.made) (rw c.held-2.ensures at (c.in-Ok.ensures.made before had))

pub returns-in-Err-clause-made : goal.returns-in-Err-clause-made
returns-in-Err-clause-made g c = λ before had.
    concluded_cut (g.S.System.outside c.args.system.now) before _ c.args.are_sent c.args.replies.now.held c.args.lines.now c.print_lines.new.lines c.args.timeline.now c.send_if.new.timeline c.print_lines.new.timeline c.in-Err.fault
    (rw c.held.ensures at c.send_if.ensures.spelled) (rw c.held.ensures at c.send_if.ensures.made) (rw c.held-2.ensures at (c.in-Err.ensures.made before had))
