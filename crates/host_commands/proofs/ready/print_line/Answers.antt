use Rattle.std.proofs.Common.{[], refl}
use Rattle.timeline.proofs.EventLaws.{adds_none}
use Rattle.host_commands.proofs.ready.print_line.Goals as goal

pub returns-in-Some-clause-made : goal.returns-in-Some-clause-made
returns-in-Some-clause-made g c = rw c.in-Some.is (rw c.as_str.ensures.value at c.print_out.ensures.made)

pub returns-in-None-clause-made : goal.returns-in-None-clause-made
returns-in-None-clause-made g c = rw c.in-None.is ([], adds_none (g.S.System.outside c.args.system.now) _, (refl, refl))
