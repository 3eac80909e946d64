use Rattle.std.proofs.Common.{◌≡◌, ◌≢◌, List, Ok, Err}
use Rattle.move_msg.specs.declared.message.Message.{Message}
use Rattle.arbiter_core.specs.declared.fault.DeliverFault.{DeliverFault}
use Rattle.arbiter_core.specs.declared.fault.DeliverFault.TheVariants.{OutOfMemory}
use Rattle.arbiter_core.specs.Delivers.{Told}
use Rattle.relay_world.proofs.Hearing.{delivered_replica, starved_replica}
use Rattle.relay_world.proofs.replica.answer.Goals as goal

refused : (f : DeliverFault) → (f ≡ OutOfMemory → ⊥) → ◌≢◌ {A = Told} (Err f) (Err OutOfMemory)
refused f n e = n cc

pub returns-in_default-clause-sent : goal.returns-in_default-clause-sent
returns-in_default-clause-sent c =
    rw c.new.ensures.items
    (delivered_replica c.args.bytes.now _ _ _ _ (Err c.in-Err.fault) c.in-Err.ensures.delivered (refused c.in-Err.fault c.in_default.not-OutOfMemory))

wanted : (f : DeliverFault) → f ≡ OutOfMemory → ◌≡◌ {A = Told} (Err f) (Err OutOfMemory)
wanted f e = cc

pub returns-in-OutOfMemory-clause-memory : goal.returns-in-OutOfMemory-clause-memory
returns-in-OutOfMemory-clause-memory c = starved_replica c.args.bytes.now _ _ _ _ (Err c.in-Err.fault) c.in-Err.ensures.delivered (wanted c.in-Err.fault c.in-OutOfMemory.is)

kept_on : (outputs : List Message) → ◌≢◌ {A = Told} (Ok outputs) (Err OutOfMemory)
kept_on outputs e = cc

pub returns-in-Ok-clause-sent : goal.returns-in-Ok-clause-sent
returns-in-Ok-clause-sent c = delivered_replica c.args.bytes.now _ _ _ _ (Ok c.in-Ok.outputs.items) c.in-Ok.ensures.delivered (kept_on c.in-Ok.outputs.items)
