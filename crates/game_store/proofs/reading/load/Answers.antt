use Rattle.std.proofs.Common.{OnOk, Ok, Err, Result}
use Rattle.game_store.proofs.reading.load.Goals as goal

onward : {A E P Q : Type 0} (r : Result A E) → (P → Q) → OnOk r P → OnOk r Q
onward (Ok a) f h = f h
onward (Err e) f h = tt

pub returns : goal.returns
returns c = onward c.take.result (λ taken. record { number = c.in_ok-number.number; entry = c.in_ok-number.entry; told = c.in_ok-number.ensures; taken = taken }) c.take.ensures.ok
