use Rattle.sealed_port.proofs.KeyedLaws.{adds_came}
use Rattle.sealed_port.proofs.keyed_system.KeyedSystemSystem.receive.Goals as goal

pub returns-in-Ok-clause-made : goal.returns-in-Ok-clause-made
returns-in-Ok-clause-made g c = adds_came g.S.System.outside _ _ _ _ _ record { port = c.receive.new.port; left_out = c.args.port.now.left_out } _ _ c.self.view_is c.open.ensures.is c.in-Ok.ensures.made
