use Rattle.host_commands.proofs.BindLaws.{bound_so, unbound_so}
use Rattle.host_commands.proofs.binding.bind.Goals as goal

pub returns-in-Ok : goal.returns-in-Ok
returns-in-Ok g c = bound_so (g.S.System.outside c.args.system.now) c.args.address.now c.args.to.now _ _ c.in-Ok.port c.in-Ok.ensures

pub returns-in-Err-Unbound : goal.returns-in-Err-Unbound
returns-in-Err-Unbound g c = unbound_so (g.S.System.outside c.args.system.now) c.args.address.now c.args.to.now _ _ _ (rw c.in-Err-Unbound.field-0-is at c.in-Err-Unbound.ensures) c.note_unbound.ensures
