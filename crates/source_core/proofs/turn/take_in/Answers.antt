use Rattle.source_core.proofs.ReportLaws.{clash_now, knows_now, knows_still, reports_none, reports_this}
use Rattle.source_core.proofs.turn.take_in.Goals as goal

pub returns-in_default-clause-learns : goal.returns-in_default-clause-learns
returns-in_default-clause-learns c = λ before h. knows_still c.args.stamp before _ c.args.known.now (reports_none _ _ (λ s spells. let some = c.report_of.ensures.only s spells in c.in_default.not-Some s some)) h

pub returns-in-Ok-clause-learns : goal.returns-in-Ok-clause-learns
returns-in-Ok-clause-learns c = λ before h. knows_now c.args.stamp before c.args.datagram.now c.in-Some.report c.args.from c.args.known.now c.add.new.self (reports_this _ _ _ c.in-Some.ensures.some c.in-Some.ensures.only) c.in-Ok.ensures.added h

pub returns-in-Err-clause-learns : goal.returns-in-Err-clause-learns
returns-in-Err-clause-learns c = λ before h. clash_now c.args.stamp before c.args.datagram.now c.in-Some.report c.args.known.now c.in-Err.clash (reports_this _ _ _ c.in-Some.ensures.some c.in-Some.ensures.only) c.in-Err.ensures.clash h
