use Rattle.std.proofs.Common.{inl}
use Rattle.game_store.proofs.machine_stores.MachineStoreRecordStore.put_all.Goals as goal

pub returns-then-is_replaced-clause-stops : goal.returns-then-is_replaced-clause-stops
returns-then-is_replaced-clause-stops c = λ settled trusted found starts. inl ((settled trusted).found found starts)
