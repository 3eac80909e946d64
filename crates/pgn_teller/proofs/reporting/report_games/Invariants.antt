use Rattle.std.proofs.Common.{◌≡◌}
use Rattle.timeline.specs.Outsides.{AddsSome}
use Rattle.pgn_teller.specs.Inside.Steps.{stage_of}
use Rattle.pgn_teller.specs.Ratings.{RulesNoMore}
use Rattle.pgn_teller.specs.Reports.{AreReported, begun, terms_of}
use Rattle.pgn_teller.proofs.reporting.report_games.Given as goal

abbrev pub invariant-loop : goal.invariant-loop
invariant-loop g l = record {
  made : AddsSome (g.S.System.outside l.system) l.fn.timeline l.timeline (AreReported (g.R.GameRuler.rules l.fn.reporter.ruler) (terms_of l.fn.reporter) (begun ((g.S.System.outside l.system).lines l.fn.lines).left (g.R.GameRuler.known l.fn.reporter.ruler)) l.sums (stage_of ((g.S.System.outside l.system).lines l.lines).left l.reader (g.R.GameRuler.known l.reporter.ruler)));
  fails : ((g.S.System.outside l.system).lines l.lines).fails → ((g.S.System.outside l.system).lines l.fn.lines).fails;
  rules : RulesNoMore (g.R.GameRuler.rules l.fn.reporter.ruler) (g.R.GameRuler.rules l.reporter.ruler);
  same : terms_of l.reporter ≡ terms_of l.fn.reporter;
  from : g.R.GameRuler.reads_from l.reporter.ruler l.system;
}
