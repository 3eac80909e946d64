use Rattle.std.proofs.Common.{sym, ◌∙◌, arith}
use Rattle.sqlite.specs.Held.{state}
use Rattle.sqlite.specs.State.{HasCleanDisk}
use Rattle.sqlite.proofs.StateLemmas.{survives_then}
use Rattle.sqlite.proofs.InsideLemmas.{keeps_then}
use Rattle.game_store.specs.Slots.{number_at}
use Rattle.game_store.proofs.BatchLemmas.{becomes_more}
use Rattle.game_store.proofs.writing.put_each.Goals as goal

pub loop-entry-preserved : goal.loop-entry-preserved
loop-entry-preserved g c =
    let first = state g.S.Store c.args.tx.now.conn.now in
    let old = state g.S.Store c.loop-entry.tx.conn.now in
    let new = state g.S.Store c.put_one.new.tx.conn.now in
    let before = c.loop-entry.invariant in
    let done = c.put_one.ensures in
    record {
      same = done.same_reference ∙ before.same;
      survives = survives_then first old new _ _ (λ _. ⊥) (λ _ db none. none) (λ _ db none. none) before.survives done.survives;
      kept = λ clean inside.
          let early : HasCleanDisk old = omega (arith, done.survives.clean) in
          let was = before.kept early inside in
          (keeps_then first old new was.0 (done.kept clean was.1), c.in_ok-put_one.ensures.goes_on clean was.1);
      becomes = λ clean inside has.
          let early : HasCleanDisk old = omega (arith, done.survives.clean) in
          let was = before.becomes early inside has in
          becomes_more (number_at c.args.memory.now) c.number.ensures.apart c.args.entries.now c.loop-entry.entry-index c.entry-item.result c.in-Some.number c.loop-entry-test.true c.entry-item.is
          (sym c.in-Some.ensures.value) done.fits.2 done.fits.0 done.fits.1 first.now old new was (c.in_ok-put_one.ensures.puts clean (before.kept early inside).1 was.has.schema);
    }
