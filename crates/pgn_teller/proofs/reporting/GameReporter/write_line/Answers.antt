use Rattle.pgn_teller.proofs.ReportLaws.{line_gone, line_lost, not_written}
use Rattle.pgn_teller.proofs.reporting.GameReporter.write_line.Goals as goal

pub returns-else-writes-clause-made : goal.returns-else-writes-clause-made
returns-else-writes-clause-made g c = not_written (g.S.System.outside c.args.system.now) _ c.args.self.now.only_differing c.args.line.now c.writes.result c.writes.ensures c.if-writes.false

pub returns-in-Ok-clause-made : goal.returns-in-Ok-clause-made
returns-in-Ok-clause-made g c =
    let made = rw c.deref.ensures.value at c.in-Ok.ensures.made in
    line_gone (g.S.System.outside c.args.system.now) _ _ c.args.self.now.only_differing c.args.line.now c.writes.result _ c.writes.ensures c.if-writes.true made

pub returns-in-Err-clause-made : goal.returns-in-Err-clause-made
returns-in-Err-clause-made g c =
    let made = rw c.deref.ensures.value at c.in-Err.ensures.made in
    line_lost (g.S.System.outside c.args.system.now) _ _ c.args.self.now.only_differing c.args.line.now c.writes.result c.in-Err.fault c.in-Err.fault c.writes.ensures c.if-writes.true made
