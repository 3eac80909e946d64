use Rattle.std.proofs.Common.{[], refl}
use Rattle.timeline.proofs.EventLaws.{adds_none}
use Rattle.answer_commands.proofs.sending.report_silence.Goals as goal

pub returns-in-With-clause-made : goal.returns-in-With-clause-made
returns-in-With-clause-made g c = rw c.in-With.is ([], adds_none (g.S.System.outside c.args.system.now) _, refl)

pub returns-in-Lost-clause-made : goal.returns-in-Lost-clause-made
returns-in-Lost-clause-made g c = rw c.in-Lost.is c.write_silence.ensures
