use Rattle.std.proofs.Common.{refl}
use Rattle.game_reports.specs.StoreReads.{Held, Withheld}
use Rattle.system_io.specs.Records.{records_of}
use Rattle.system_io.specs.declared.record_store.StoreFault.TheVariants.{OutOfMemory, Unreadable}
use Rattle.game_reports.proofs.store_reading.records_held.Goals as goal

pub returns-in-Ok : goal.returns-in-Ok
returns-in-Ok g c = Held (records_of c.in-Ok.entries.items) c.in-Ok.ensures.held (refl, refl)

pub returns-in-Err-Unreadable : goal.returns-in-Err-Unreadable
returns-in-Err-Unreadable g c = Withheld Unreadable (rw c.in-Err-Unreadable.field-0-is at c.in-Err-Unreadable.ensures.cause) refl refl

pub returns-in-Err-OutOfMemory : goal.returns-in-Err-OutOfMemory
returns-in-Err-OutOfMemory g c = Withheld OutOfMemory (rw c.in-Err-OutOfMemory.field-0-is at c.in-Err-OutOfMemory.ensures.cause) refl refl
