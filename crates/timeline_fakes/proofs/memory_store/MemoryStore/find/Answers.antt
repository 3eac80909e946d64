use Rattle.timeline_fakes.proofs.StoreLaws.{found_next}
use Rattle.timeline_fakes.proofs.memory_store.MemoryStore.find.Goals as goal

pub loop-batch-preserved : goal.loop-batch-preserved
loop-batch-preserved c =
    let all = c.as_slice-batch-items.ensures.value in
    found_next c.args.self.now.batches.items c.loop-batch.batch-index c.batch-item.result c.args.stamp.now c.loop-batch.found c.found_in-found.result (rw all at c.loop-batch-test.true) (rw all at c.batch-item.is) (λ records h. rw c.as_slice.ensures.value at (c.found_in-found.ensures records h)) c.loop-batch.invariant
