use Rattle.std.proofs.Common.{◌∙◌, ap, refl, sym}
use Rattle.std.specs.Prelude.{Ok}
use Rattle.host_commands.specs.Ready.{LineIs}
use Rattle.host_commands.proofs.ready.ready_line.Goals as goal

pub returns-in-Ok : goal.returns-in-Ok
returns-in-Ok g c = LineIs c.in-Some.own (sym c.own_address.ensures ∙ c.in-Some.is) (ap Ok c.in-Ok.ensures) refl
