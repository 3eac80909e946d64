use Rattle.std.proofs.Common.{◌∙◌, ap, refl}
use Rattle.std.specs.Prelude.{Ok, Err}
use Rattle.pgn_teller.specs.Inside.Steps.{stage_of}
use Rattle.pgn_teller.specs.Reports.{Stage, begun, terms_of}
use Rattle.pgn_teller.specs.declared.reporting.Step.TheVariants as step
use Rattle.pgn_teller.proofs.ReportLaws.{all_reported, begun_so, more_reported, most_lost, most_reported, next_by, none_reported, reports_lost, rules_more, rules_same, some_reported}
use Rattle.pgn_teller.proofs.reporting.report_games.Goals as goal

pub loop-init : goal.loop-init
loop-init g c =
    let o = g.S.System.outside c.args.system.now in
    let k = g.R.GameRuler.known c.args.reporter.now.ruler in
    let left = (o.lines c.args.lines.now).left in
    record {
      made = none_reported o (g.R.GameRuler.rules c.args.reporter.now.ruler) _ (terms_of c.args.reporter.now) (begun left k) c.none-sums.result (stage_of left c.new-reader.result k) c.none-sums.ensures (begun_so left k c.new-reader.result (c.new-reader.ensures left));
      fails = λ h. h;
      rules = rules_same (g.R.GameRuler.rules c.args.reporter.now.ruler);
      same = refl;
      from = c.requires;
    }

pub loop-preserved : goal.loop-preserved
loop-preserved g c =
    let o = g.S.System.outside c.args.system.now in
    let Rules = g.R.GameRuler.rules c.args.reporter.now.ruler in
    let t = terms_of c.args.reporter.now in
    let fails = (o.lines c.args.lines.now).fails in
    let first = begun (o.lines c.args.lines.now).left (g.R.GameRuler.known c.args.reporter.now.ruler) in
    let mid = stage_of (o.lines c.loop.lines).left c.loop.reader (g.R.GameRuler.known c.loop.reporter.ruler) in
    let at = stage_of (o.lines c.report_next.new.lines).left c.report_next.new.at (g.R.GameRuler.known c.report_next.new.reporter.ruler) in
    let made = rw c.in-Ok-Reported.field-0-is at c.in-Ok-Reported.ensures.made in
    let next = next_by o Rules (g.R.GameRuler.rules c.loop.reporter.ruler) (terms_of c.loop.reporter) t (o.lines c.loop.lines).fails fails c.one_more-number.result mid at _ _ (Ok (step.Reported c.in-Ok-Reported.mark)) c.loop.invariant.rules c.loop.invariant.same c.loop.invariant.fails made in
    record {
      made = more_reported o Rules t fails first c.loop.sums c.one_more-number.result mid at c.one_more-number.ensures _ _ _ c.with-sums.result c.in-Ok-Reported.mark c.with-sums.ensures c.loop.invariant.made next;
      fails = λ h. c.loop.invariant.fails (c.in-Ok-Reported.ensures.fails h);
      rules = rules_more Rules (g.R.GameRuler.rules c.loop.reporter.ruler) (g.R.GameRuler.rules c.report_next.new.reporter.ruler) c.loop.invariant.rules c.in-Ok-Reported.ensures.rules;
      same = c.in-Ok-Reported.ensures.same ∙ c.loop.invariant.same;
      from = c.in-Ok-Reported.ensures.still;
    }

pub returns-in-Ok-Ended-clause-made : goal.returns-in-Ok-Ended-clause-made
returns-in-Ok-Ended-clause-made g c =
    let o = g.S.System.outside c.args.system.now in
    let Rules = g.R.GameRuler.rules c.args.reporter.now.ruler in
    let t = terms_of c.args.reporter.now in
    let fails = (o.lines c.args.lines.now).fails in
    let first = begun (o.lines c.args.lines.now).left (g.R.GameRuler.known c.args.reporter.now.ruler) in
    let mid = stage_of (o.lines c.loop.lines).left c.loop.reader (g.R.GameRuler.known c.loop.reporter.ruler) in
    let at = stage_of (o.lines c.report_next.new.lines).left c.report_next.new.at (g.R.GameRuler.known c.report_next.new.reporter.ruler) in
    let made = rw c.in-Ok-Ended.field-0-is at c.in-Ok-Ended.ensures.made in
    let next = next_by o Rules (g.R.GameRuler.rules c.loop.reporter.ruler) (terms_of c.loop.reporter) t (o.lines c.loop.lines).fails fails c.one_more-number.result mid at _ _ (Ok step.Ended) c.loop.invariant.rules c.loop.invariant.same c.loop.invariant.fails made in
    all_reported o Rules t fails first c.loop.sums c.one_more-number.result mid at c.one_more-number.ensures _ _ _ c.loop.invariant.made next

pub returns-in-Ok-Ended-clause-same : goal.returns-in-Ok-Ended-clause-same
returns-in-Ok-Ended-clause-same g c = c.in-Ok-Ended.ensures.same ∙ c.loop.invariant.same

pub returns-in-Ok-Cut-clause-made : goal.returns-in-Ok-Cut-clause-made
returns-in-Ok-Cut-clause-made g c =
    let o = g.S.System.outside c.args.system.now in
    let Rules = g.R.GameRuler.rules c.args.reporter.now.ruler in
    let t = terms_of c.args.reporter.now in
    let fails = (o.lines c.args.lines.now).fails in
    let first = begun (o.lines c.args.lines.now).left (g.R.GameRuler.known c.args.reporter.now.ruler) in
    let mid = stage_of (o.lines c.loop.lines).left c.loop.reader (g.R.GameRuler.known c.loop.reporter.ruler) in
    let at = stage_of (o.lines c.report_next.new.lines).left c.report_next.new.at (g.R.GameRuler.known c.report_next.new.reporter.ruler) in
    let made = rw c.in-Ok-Cut.field-0-is at c.in-Ok-Cut.ensures.made in
    let next = next_by o Rules (g.R.GameRuler.rules c.loop.reporter.ruler) (terms_of c.loop.reporter) t (o.lines c.loop.lines).fails fails c.one_more-number.result mid at _ _ (Ok step.Cut) c.loop.invariant.rules c.loop.invariant.same c.loop.invariant.fails made in
    some_reported o Rules t fails first c.loop.sums c.one_more-number.result mid at c.one_more-number.ensures _ _ _ c.loop.invariant.made next

pub returns-in-Ok-Cut-clause-same : goal.returns-in-Ok-Cut-clause-same
returns-in-Ok-Cut-clause-same g c = c.in-Ok-Cut.ensures.same ∙ c.loop.invariant.same

pub returns-in-Err-clause-made : goal.returns-in-Err-clause-made
returns-in-Err-clause-made g c =
    let o = g.S.System.outside c.args.system.now in
    let Rules = g.R.GameRuler.rules c.args.reporter.now.ruler in
    let t = terms_of c.args.reporter.now in
    let fails = (o.lines c.args.lines.now).fails in
    let first = begun (o.lines c.args.lines.now).left (g.R.GameRuler.known c.args.reporter.now.ruler) in
    let mid = stage_of (o.lines c.loop.lines).left c.loop.reader (g.R.GameRuler.known c.loop.reporter.ruler) in
    let at = stage_of (o.lines c.report_next.new.lines).left c.report_next.new.at (g.R.GameRuler.known c.report_next.new.reporter.ruler) in
    let next = next_by o Rules (g.R.GameRuler.rules c.loop.reporter.ruler) (terms_of c.loop.reporter) t (o.lines c.loop.lines).fails fails c.one_more-number.result mid at _ _ (Err c.in-Err.fault) c.loop.invariant.rules c.loop.invariant.same c.loop.invariant.fails c.in-Err.ensures.made in
    reports_lost o Rules t fails first c.loop.sums c.one_more-number.result mid at c.one_more-number.ensures _ _ _ c.in-Err.fault c.in-Err.fault c.loop.invariant.made next

pub returns-in-Err-clause-same : goal.returns-in-Err-clause-same
returns-in-Err-clause-same g c = c.in-Err.ensures.same ∙ c.loop.invariant.same

pub returns-in-Ok-clause-made : goal.returns-in-Ok-clause-made
returns-in-Ok-clause-made g c =
    let o = g.S.System.outside c.args.system.now in
    let first = begun (o.lines c.args.lines.now).left (g.R.GameRuler.known c.args.reporter.now.ruler) in
    most_reported o (g.R.GameRuler.rules c.args.reporter.now.ruler) (terms_of c.args.reporter.now) (o.lines c.args.lines.now).fails first _ _ _ c.loop.sums _ _ c.loop.invariant.made c.in-Ok.ensures.made

pub returns-clause-made : goal.returns-clause-made
returns-clause-made g c =
    let o = g.S.System.outside c.args.system.now in
    let first = begun (o.lines c.args.lines.now).left (g.R.GameRuler.known c.args.reporter.now.ruler) in
    most_lost o (g.R.GameRuler.rules c.args.reporter.now.ruler) (terms_of c.args.reporter.now) (o.lines c.args.lines.now).fails first _ _ _ c.loop.sums _ c.in-Err-print_unread.fault c.in-Err-print_unread.fault c.loop.invariant.made c.in-Err-print_unread.ensures.made
