use Rattle.std.proofs.Common.{take}
use Rattle.std.specs.Prelude.{is_some}
use Rattle.timeline.specs.Outsides.{AddsSome}
use Rattle.game_reports.specs.Inside.Opening.{known_folders}
use Rattle.game_reports.specs.Inside.Reporting.{AddsGames}
use Rattle.game_reports.proofs.ReportLaws.{FoundSoFar}
use Rattle.game_reports.proofs.report.add_games.Given as goal

abbrev pub invariant-loop-stamp : goal.invariant-loop-stamp
invariant-loop-stamp g l = AddsSome (g.S.System.outside l.system) l.fn.timeline l.timeline (FoundSoFar (g.S.System.outside l.system).disk (known_folders l.folders) (AddsGames (is_some l.folders.other) l.fn.text l.text) (take l.stamp-index l.folders.stamps.items) l.totals)
