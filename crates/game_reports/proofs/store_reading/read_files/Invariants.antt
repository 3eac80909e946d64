use Rattle.timeline.specs.Outsides.{AddsSome}
use Rattle.game_reports.specs.Inside.StoreReading.{folder_of}
use Rattle.game_reports.specs.StoreReads.{MissesMoment}
use Rattle.game_reports.proofs.store_reading.read_files.Given as goal

abbrev pub invariant-loop : goal.invariant-loop
invariant-loop g l = AddsSome (g.S.System.outside l.system) l.fn.timeline l.timeline (MissesMoment (g.S.System.outside l.system).disk (folder_of l.store) l.counter)
