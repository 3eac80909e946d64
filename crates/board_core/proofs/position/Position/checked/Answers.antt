use Rattle.std.proofs.Common.{ap, refl, Err}
use Rattle.board_core.specs.declared.census.Census.{Census}
use Rattle.board_core.proofs.Faults.{no_fault, one_fault}
use Rattle.board_core.proofs.position.Position.checked.Goals as goal

pub returns-in-Some-clause-only : goal.returns-in-Some-clause-only
returns-in-Some-clause-only c = λ v. absurd (no_fault c.args.parts c.in-Some.fault c.in-Some.ensures.found v)

pub returns-in-Some-clause-only_fault : goal.returns-in-Some-clause-only_fault
returns-in-Some-clause-only_fault c = λ g h. ap Err (one_fault c.args.parts c.in-Some.fault g c.in-Some.ensures.found h)

pub invariant_of-result : goal.invariant_of-result
invariant_of-result c = (c.in_default.ensures.none, ap (λ (x : Census). x.sides) c.requires)

pub returns-clause-ok : goal.returns-clause-ok
returns-clause-ok c = (refl, c.in_default.ensures.none)

pub returns-clause-only_fault : goal.returns-clause-only_fault
returns-clause-only_fault c = λ g h. absurd (no_fault c.args.parts g h c.in_default.ensures.none)
