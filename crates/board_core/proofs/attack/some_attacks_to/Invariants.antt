use Rattle.std.proofs.Common.{ℕ, ◌<◌, ◌-◌}
use Rattle.board_core.specs.Inside.Search.{AttacksTo}
use Rattle.board_core.proofs.Sweep.{Rests}
use Rattle.board_core.proofs.attack.some_attacks_to.Given as goal

abbrev pub invariant-enemies : goal.invariant-enemies
invariant-enemies l = record {
  rests : Rests (AttacksTo l.men l.by l.to) l.next l.rest;
  none : (s : ℕ) → s < l.next → AttacksTo l.men l.by l.to s → ⊥;
}

abbrev pub decreases-enemies : goal.decreases-enemies
decreases-enemies l = 64 - l.next
