use Rattle.std.proofs.Common.{◌≡◌, ◌-◌, None, Ok, length}
use Rattle.judge_core.specs.MoreTables.{HasAll, table_count}
use Rattle.table_folder.specs.Folders.{AreOf}
use Rattle.table_folder.specs.Reads.{OpensTables, PassesSome}
use Rattle.table_folder.specs.Settled.{AddsOnlyMissed, IsAlone}
use Rattle.table_folder.proofs.folder.TableFolder.settle.Given as goal

abbrev pub invariant-loop-columns : goal.invariant-loop-columns
invariant-loop-columns g l =
    AreOf (g.F.TableFiles.facts l.self.disk) l.self.folder l.set.tables × HasAll l.fn.set.tables l.set.tables × (l.set.cache ≡ l.fn.set.cache)
    × AddsOnlyMissed (g.F.TableFiles.facts l.self.disk) l.self.folder (IsAlone l.position) l.fn.set.tables l.set.tables
    × PassesSome (g.F.TableFiles.events l.self.disk l.fn.log) (g.F.TableFiles.events l.self.disk l.log) (OpensTables (g.F.TableFiles.facts l.self.disk) l.self.folder l.fn.set.tables l.set.tables (Ok None))

abbrev pub decreases-loop-columns : goal.decreases-loop-columns
decreases-loop-columns g l = length l.set.tables - table_count l.set.tables
