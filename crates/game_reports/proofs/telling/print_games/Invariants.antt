use Rattle.std.proofs.Common.{◌≡◌, take}
use Rattle.timeline.specs.Outsides.{AddsSome}
use Rattle.game_reports.specs.GameLines.{TellsOf}
use Rattle.game_reports.specs.Inside.Opening.{known_folders}
use Rattle.game_reports.proofs.TellLaws.{ToldSoFar}
use Rattle.game_reports.proofs.telling.print_games.Given as goal

abbrev pub invariant-loop-stamp : goal.invariant-loop-stamp
invariant-loop-stamp g l = record {
  told : AddsSome (g.S.System.outside l.system) l.fn.timeline l.timeline (ToldSoFar (TellsOf (g.S.System.outside l.system).disk (known_folders l.folders) (g.T.LookTeller.tells l.fn.teller)) (take l.stamp-index l.folders.stamps.items) l.sums);
  same : l.teller ≡ l.fn.teller;
}
