use Rattle.std.proofs.Common.{◌≡◌, take}
use Rattle.judge_core.specs.Values.{opposite_reading}
use Rattle.judge_core.specs.Inside.Determined.{step_value_in}
use Rattle.judge_core.specs.Distances.{is_pawn_step}
use Rattle.judge_core.specs.Inside.Counts.{no_steps, with_reading}
use Rattle.judge_core.proofs.Asking.{with_all}
use Rattle.judge_core.proofs.set.Set.pawns_reach.Given as goal

abbrev pub invariant-loop-m : goal.invariant-loop-m
invariant-loop-m l =
    (l.steps ≡ with_all (with_reading l.value) no_steps (λ q. opposite_reading (step_value_in l.within l.fn.self.tables l.value q)) (is_pawn_step l.position) l.position (take l.m-index l.m-items)) × (l.self ≡ l.fn.self)
