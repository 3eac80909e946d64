use Rattle.std.proofs.Common.{IsSome, take, ◌∙◌, subst}
use Rattle.std.proofs.lemmas.List.Elements.{All-more}
use Rattle.system_io.specs.declared.record_store.Entry.{Entry}
use Rattle.game_store.specs.Slots.{number_at}
use Rattle.game_store.proofs.SlotLemmas.{all_stay}
use Rattle.game_store.proofs.memory.Memory.add_all.Goals as goal

pub loop-entry-preserved : goal.loop-entry-preserved
loop-entry-preserved c =
    let now = c.add.new.self in
    let before = c.loop-entry.invariant in
    let entry = c.entry-item.result in
    let done = c.in_ok-add.ensures in
    record {
      added = All-more (λ (e : Entry). IsSome (number_at now e.stamp)) c.args.entries.now c.loop-entry.entry-index entry c.loop-entry-test.true
          (all_stay c.loop-entry.self now done.numbers (take c.loop-entry.entry-index c.args.entries.now) before.added)
          (subst (λ (e : Entry). IsSome (number_at now e.stamp)) c.entry-item.is done.added);
      numbers = λ stamp n has. done.numbers stamp n (before.numbers stamp n has);
      same = λ stamp. done.same stamp ∙ before.same stamp;
    }
