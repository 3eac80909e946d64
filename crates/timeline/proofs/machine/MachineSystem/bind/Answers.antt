use Rattle.std.proofs.Common.{map}
use Rattle.timeline.proofs.NamedLaws.{bound_as}
use Rattle.timeline.proofs.machine.MachineSystem.bind.Goals as goal

pub returns-clause-each : goal.returns-clause-each
returns-clause-each g c = bound_as c.bind.result c.args.address.now (map (λ s. s.now) c.args.to.now) c.bind.ensures.bound
