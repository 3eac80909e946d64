use Rattle.pgn_teller.proofs.ReportLaws.{no_sums_written, sums_written}
use Rattle.pgn_teller.proofs.reporting.GameReporter.write_sums.Goals as goal

pub returns-in-Ok-clause-made : goal.returns-in-Ok-clause-made
returns-in-Ok-clause-made g c =
    let made = rw c.deref.ensures.value at c.write_last.ensures.made in
    sums_written (g.S.System.outside c.args.system.now) _ _ c.args.self.now.form c.args.sums.now c.in-Ok.text.items c.write_last.result c.in-Ok.ensures made

pub returns-in-Err-clause-made : goal.returns-in-Err-clause-made
returns-in-Err-clause-made g c = no_sums_written (g.S.System.outside c.args.system.now) _ _ c.args.self.now.form c.args.sums.now c.print_unread.result c.print_unread.ensures.made
