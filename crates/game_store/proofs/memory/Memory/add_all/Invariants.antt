use Rattle.std.proofs.Common.{take}
use Rattle.game_store.specs.Slots.{HaveNumbers, HasSame, KeepsNumbers}
use Rattle.game_store.proofs.memory.Memory.add_all.Given as goal

abbrev pub invariant-loop-entry : goal.invariant-loop-entry
invariant-loop-entry l = record {
  added : HaveNumbers l.self (take l.entry-index l.entries);
  numbers : KeepsNumbers l.initial.self l.self;
  same : HasSame l.initial.self l.self;
}
