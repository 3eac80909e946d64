use Rattle.std.proofs.Common.{ap}
use Rattle.board_core.specs.declared.census.Census.{Census}
use Rattle.board_core.proofs.position.Position.from_sets.Goals as goal

pub checked-requires : goal.checked-requires
checked-requires c = rw c.men.ensures c.census-census.ensures

pub men-requires : goal.men-requires
men-requires c = c.all.ensures _ (ap (λ (x : Census). x.sides) c.census-census.ensures)

pub returns-clause-ok : goal.returns-clause-ok
returns-clause-ok c = rw c.men.ensures at c.checked.ensures.ok

pub returns-clause-err : goal.returns-clause-err
returns-clause-err c = rw c.men.ensures at c.checked.ensures.err

pub returns-clause-only : goal.returns-clause-only
returns-clause-only c = rw c.men.ensures at c.checked.ensures.only

pub returns-clause-only_fault : goal.returns-clause-only_fault
returns-clause-only_fault c = rw c.men.ensures at c.checked.ensures.only_fault
