use Rattle.std.proofs.Common.{◌≡◌, ℕ, List}
use Rattle.system_io.specs.Records.{with_all}
use Rattle.game_store.specs.Slots.{number_at, game_at}
use Rattle.game_store.proofs.memory.Memory.keep_all.Given as goal

abbrev pub invariant-loop-entry : goal.invariant-loop-entry
invariant-loop-entry l = record {
  can : (goal.iterator-loop-entry).can_next l.entry-iterator;
  finite : (goal.iterator-loop-entry).is_finite l.entry-iterator;
  numbers : (stamp : List ℕ) → number_at l.self stamp ≡ number_at l.initial.self stamp;
  kept : (stamp : List ℕ) → game_at l.self stamp ≡ with_all (game_at l.initial.self) l.yielded stamp;
}
