use Rattle.sealed_port.proofs.KeyedLaws.{adds_came}
use Rattle.sealed_port.proofs.keyed_system.KeyedSystemSystem.receive_in_time.Goals as goal

pub returns-in-Ok-Some-clause-made : goal.returns-in-Ok-Some-clause-made
returns-in-Ok-Some-clause-made g c =
    let made = rw c.in-Ok-Some.field-0-is at c.in-Ok-Some.ensures.made in
    adds_came g.S.System.outside _ _ _ _ _ record { port = c.receive_in_time.new.port; left_out = c.args.port.now.left_out } _ _ c.self.view_is c.open.ensures.is made
