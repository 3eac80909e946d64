use Rattle.timeline.proofs.EventLaws.{written_somehow}
use Rattle.timeline.proofs.machine.MachineSystem.write.Goals as goal

pub returns-in-Output-clause-made : goal.returns-in-Output-clause-made
returns-in-Output-clause-made g c = written_somehow c.args.to c.args.bytes.now c.put.result

pub returns-in-Errors-clause-made : goal.returns-in-Errors-clause-made
returns-in-Errors-clause-made g c = written_somehow c.args.to c.args.bytes.now c.put-in-Errors.result
