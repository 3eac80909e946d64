use Rattle.std.proofs.Common.{◌≡◌, IsTrue, take}
use Rattle.sqlite.specs.State.{HasCleanDisk, KeepsCommit, Survives}
use Rattle.sqlite.specs.Held.{state}
use Rattle.game_store.specs.Slots.{number_at}
use Rattle.game_store.specs.Batches.{Becomes, HasRows}
use Rattle.game_store.proofs.writing.put_each.Given as goal

abbrev pub invariant-loop-entry : goal.invariant-loop-entry
invariant-loop-entry g l =
    let old = state g.S.Store l.initial.tx.conn.now in
    let now = state g.S.Store l.tx.conn.now in
    record {
      same : l.tx.conn.ghost_name ≡ l.initial.tx.conn.ghost_name;
      survives : Survives old now (λ _. ⊥);
      kept : HasCleanDisk now → IsTrue old.in_transaction → KeepsCommit old now × IsTrue now.in_transaction;
      becomes : HasCleanDisk now → IsTrue old.in_transaction → HasRows (number_at l.memory) old.now → Becomes (number_at l.memory) (take l.entry-index l.entries) old.now now.now;
    }
