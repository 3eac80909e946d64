use Rattle.sealed_port.proofs.KeyedLaws.{adds_flushed}
use Rattle.sealed_port.proofs.keyed_system.KeyedSystemSystem.flush.Goals as goal

pub returns-clause-made : goal.returns-clause-made
returns-clause-made g c = adds_flushed g.S.System.outside _ _ _ _ _ c.args.to c.flush.result c.self.view_is c.flush.ensures.made
