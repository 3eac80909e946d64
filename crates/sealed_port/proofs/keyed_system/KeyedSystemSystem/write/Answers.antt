use Rattle.sealed_port.proofs.KeyedLaws.{adds_written}
use Rattle.sealed_port.proofs.keyed_system.KeyedSystemSystem.write.Goals as goal

pub returns-clause-made : goal.returns-clause-made
returns-clause-made g c = adds_written g.S.System.outside _ _ _ _ _ c.args.to c.args.bytes.now c.write.result c.self.view_is c.write.ensures.made
