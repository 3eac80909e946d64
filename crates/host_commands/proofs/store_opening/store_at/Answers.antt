use Rattle.std.proofs.Common.{◌∷◌, [], refl}
use Rattle.std.specs.Prelude.{Ok, Err}
use Rattle.host_commands.specs.Imports.{StoreIs, StoreIsNot}
use Rattle.system_io.specs.declared.record_store.StoreFault.TheVariants as fault
use Rattle.timeline.specs.Events.{StoreOpened}
use Rattle.host_commands.proofs.store_opening.store_at.Goals as goal

pub returns-in-Ok-clause-made : goal.returns-in-Ok-clause-made
returns-in-Ok-clause-made g c =
    let opened = c.in-Ok.ensures in
    (StoreOpened c.args.path.now (Ok tt) ∷ [], opened.made, StoreIs c.in-Ok.store (record { at = opened.at; named = opened.path; settled = opened.settled }) refl refl)

pub returns-in-Err-Unreadable-clause-made : goal.returns-in-Err-Unreadable-clause-made
returns-in-Err-Unreadable-clause-made g c =
    let failed = c.in-Err-Unreadable.ensures in
    (StoreOpened c.args.path.now (Err fault.Unreadable) ∷ [], rw c.in-Err-Unreadable.field-0-is at failed.made, StoreIsNot fault.Unreadable (rw c.in-Err-Unreadable.field-0-is at failed.cause) refl refl)

pub returns-in-Err-OutOfMemory-clause-made : goal.returns-in-Err-OutOfMemory-clause-made
returns-in-Err-OutOfMemory-clause-made g c =
    let failed = c.in-Err-OutOfMemory.ensures in
    (StoreOpened c.args.path.now (Err fault.OutOfMemory) ∷ [], rw c.in-Err-OutOfMemory.field-0-is at failed.made, StoreIsNot fault.OutOfMemory (rw c.in-Err-OutOfMemory.field-0-is at failed.cause) refl refl)
