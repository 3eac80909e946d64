use Rattle.std.proofs.Common.{◌∙◌}
use Rattle.sealed_port.proofs.KeyedLaws.{adds_left_out, adds_sent}
use Rattle.sealed_port.proofs.keyed_system.KeyedSystemSystem.send.Goals as goal

pub returns-then-bytes-gt-MOST_BYTES-clause-made : goal.returns-then-bytes-gt-MOST_BYTES-clause-made
returns-then-bytes-gt-MOST_BYTES-clause-made g c = adds_left_out g.S.System.outside _ _ _ _ _ _ c.self.view_is c.note.ensures.made

pub returns-clause-made : goal.returns-clause-made
returns-clause-made g c = adds_sent g.S.System.outside _ _ _ _ _ c.args.port.now c.args.bytes.now _ c.self.view_is (c.deref.ensures.0 ∙ c.seal-datagram.ensures) c.send.ensures.made
