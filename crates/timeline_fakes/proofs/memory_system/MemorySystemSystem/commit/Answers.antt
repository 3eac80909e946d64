use Rattle.std.proofs.Common.{◌≡◌, ◌∙◌, List, ap, map, subst}
use Rattle.std.specs.Prelude.{IfOk}
use Rattle.system_io.specs.declared.record_store.Entry.{Entry}
use Rattle.timeline.specs.Events.{stamped}
use Rattle.timeline_fakes.proofs.CommitLaws.{commit_so}
use Rattle.timeline_fakes.proofs.memory_system.MemorySystemSystem.commit.Goals as goal

pub returns-clause-made : goal.returns-clause-made
returns-clause-made c =
    let copies = subst (λ (l : List Entry). IfOk c.same_entries-copies.result (λ v. map stamped v.items ≡ map stamped l)) c.deref.ensures.value c.same_entries-copies.ensures in
    let kept = c.keep.ensures.events _ (c.committed-made.ensures (map stamped c.args.entries.items) copies) in
    commit_so _ _ _ _ _ _ _ _ c.put_batch-got.ensures.events (c.deref-2.ensures.value ∙ ap (λ p. p.items) c.put_batch-got.ensures.path) c.is_done.ensures kept
