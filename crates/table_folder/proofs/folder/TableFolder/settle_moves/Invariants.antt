use Rattle.std.proofs.Common.{◌≡◌, None, Ok, take}
use Rattle.table_folder.specs.Reads.{OpensTables, PassesSome}
use Rattle.table_folder.proofs.Walking.{HasDone}
use Rattle.table_folder.proofs.folder.TableFolder.settle_moves.Given as goal

abbrev pub invariant-loop-m : goal.invariant-loop-m
invariant-loop-m g l =
    HasDone (g.F.TableFiles.facts l.self.disk) l.self.folder l.fn.set.tables l.set.tables l.position (take l.m-index l.m-items) × (l.set.cache ≡ l.fn.set.cache)
    × PassesSome (g.F.TableFiles.events l.self.disk l.fn.log) (g.F.TableFiles.events l.self.disk l.log) (OpensTables (g.F.TableFiles.facts l.self.disk) l.self.folder l.fn.set.tables l.set.tables (Ok None))
