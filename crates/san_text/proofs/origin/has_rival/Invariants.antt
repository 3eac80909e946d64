use Rattle.std.proofs.Common.{ℕ, ◌<◌, ◌-◌}
use Rattle.board_core.proofs.Sweep.{Rests}
use Rattle.san_text.specs.Inside.Written.{is_among}
use Rattle.san_text.proofs.Rivals.{RivalAmong}
use Rattle.san_text.proofs.origin.has_rival.Given as goal

abbrev pub invariant-rivals : goal.invariant-rivals
invariant-rivals l = record {
  rests : Rests (RivalAmong l.position l.m (is_among l.among l.m.from)) l.next l.rest;
  none : (s : ℕ) → s < l.next → RivalAmong l.position l.m (is_among l.among l.m.from) s → ⊥;
}

abbrev pub decreases-rivals : goal.decreases-rivals
decreases-rivals l = 64 - l.next
