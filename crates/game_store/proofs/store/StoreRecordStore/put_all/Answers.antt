use Rattle.std.proofs.Common.{◌≡◌, ◌⊎◌, ◌∙◌, Bool, true, false, List, arith, inl, inr, refl, subst, sym}
use Rattle.std.specs.Prelude.{Vec}
use Rattle.std.specs.Global.{Global}
use Rattle.sqlite.specs.State.{HasCleanDisk}
use Rattle.game_store.specs.Places.{put_fault_of, store_fault_of}
use Rattle.game_store.specs.Shelves.{committed, database, store_facts}
use Rattle.system_io.specs.Records.{GivesBack, IsSettled, StoreFacts, with_all}
use Rattle.system_io.specs.declared.record_store.Entry.{Entry}
use Rattle.system_io.specs.declared.record_store.StoreFault.{StoreFault}
use Rattle.system_io.specs.declared.record_store.StoreFault.TheVariants.{OutOfMemory, Unreadable}
use Rattle.game_store.proofs.SlotLemmas.{with_all_same}
use Rattle.game_store.proofs.StoreLemmas.{one_choice}
use Rattle.game_store.proofs.store.StoreRecordStore.put_all.Goals as goal

gives_back : (s : StoreFacts) (entries : List Entry) (fault : StoreFault) (works : Bool) (batch : Vec Entry Global) → (works ≡ true → IsSettled s) → batch.items ≡ entries → GivesBack s entries (put_fault_of fault works batch)
gives_back s entries OutOfMemory true batch settled same = (settled refl, same)
gives_back s entries OutOfMemory false batch settled same = tt
gives_back s entries Unreadable works batch settled same = tt

before : {A : Type 0} → A ⊎ ⊥ → A
before (inl a) = a
before (inr none) = absurd none

pub returns-in-Ok-clause-kept : goal.returns-in-Ok-clause-kept
returns-in-Ok-clause-kept g c = λ trusted.
    let works = c.in-Ok.ensures.open trusted in
    record {
      works = works;
      found = λ found starts stamp. one_choice starts.0 found (committed g.S.Store c.put_batch.new.self) starts.2 (c.in-Ok.ensures.lasts trusted works starts.0 starts.1) stamp ∙ sym (c.in-Ok.ensures.has trusted works stamp);
    }

pub returns-in-Err-clause-stops : goal.returns-in-Err-clause-stops
returns-in-Err-clause-stops g c = λ settled trusted found starts.
    let later = c.goes_on.ensures.crash in
    let middle : HasCleanDisk (database g.S.Store c.put_batch.new.self) = omega (arith, later.clean) in
    let survives = c.in-Err.ensures.crash in
    let early : HasCleanDisk (database g.S.Store c.args.self.now) = omega (arith, survives.clean) in
    let works = (settled early).works in
    let same = c.in-Err.ensures.had early works in
    let old = committed g.S.Store c.args.self.now in
    elim (c.in-Err.ensures.stops middle works starts.0 (before (later.crash trusted starts.0 starts.1))) [
      | inl was ↦ inl (λ stamp. one_choice starts.0 found old starts.2 was stamp ∙ sym (same stamp))
      | inr batch ↦ inr (λ stamp. one_choice starts.0 found (with_all old c.args.entries.items) starts.2 batch stamp ∙ with_all_same old _ c.args.entries.items (λ q. sym (same q)) stamp)
    ]

pub returns-in-Err-clause-refused : goal.returns-in-Err-clause-refused
returns-in-Err-clause-refused g c =
    let now = c.goes_on.new.self in
    subst (GivesBack (store_facts g.S.Store now) c.args.entries.items) (sym c.told_of_put.ensures)
    (gives_back (store_facts g.S.Store now) c.args.entries.items (store_fault_of c.in-Err.fault) c.goes_on.result c.in-Err.batch
    (λ on trusted.
    let works = c.goes_on.ensures.open trusted on in
    record {
      works = works;
      found = λ found starts stamp. one_choice starts.0 found (committed g.S.Store now) starts.2 (c.goes_on.ensures.lasts trusted works starts.0 starts.1) stamp ∙ sym (c.goes_on.ensures.has trusted works stamp);
    }) c.in-Err.ensures.back)
