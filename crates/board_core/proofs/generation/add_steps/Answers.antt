use Rattle.std.proofs.Common.{arith}
use Rattle.board_core.proofs.Listing.{HasListedBelow-skip}
use Rattle.board_core.proofs.Sweep.{Targets-below, Targets-none, Rests-begin, Rests-without}
use Rattle.board_core.proofs.Steps.{step_listed, step_pushed}
use Rattle.board_core.proofs.Refused.{on_err, not_ok}
use Rattle.board_core.proofs.generation.add_steps.Goals as goal

pub loop-from-init : goal.loop-from-init
loop-from-init c = record {
  below = HasListedBelow-skip _ _ _ _ _ c.requires.below (omega arith) (λ m l low high. omega arith);
  rests = Rests-begin _ _ (λ s b goes. rw goes.3 at (c.requires.whole goes.0 goes.1 goes.2));
  steps = c.requires.steps;
}

pub loop-from-preserved : goal.loop-from-preserved
loop-from-preserved c =
    let inv = c.loop-from.invariant in
    let low = c.lowest-to.ensures in record {
      below = rw (c.in_ok-push.ensures.items, c.number-next.ensures.value) (step_pushed _ _ _ _ _ _ (omega arith) (omega arith) c.requires.stands c.requires.piece c.requires.unpinned
          (inv.steps _ low.here) (Targets-below _ _ _ _ _ _ _ (omega arith) inv.rests low.here low.first inv.below));
      rests = rw c.number-next.ensures.value (Rests-without _ _ _ _ _ (omega arith) inv.rests low.first low.here c.without-rest.ensures.gone c.without-rest.ensures.kept);
      steps = λ s bit. inv.steps s (c.without-rest.ensures.only s bit);
    }

pub returns-in_err-push-clause-added : goal.returns-in_err-push-clause-added
returns-in_err-push-clause-added c = not_ok _ c.from_residual.result c.from_residual.ensures.0

pub returns-in_err-push-clause-memory : goal.returns-in_err-push-clause-memory
returns-in_err-push-clause-memory c =
    on_err c.from_residual.result (_, step_listed _ _ _ _ _ (omega arith) (omega arith) c.requires.stands c.requires.piece c.requires.unpinned (c.loop-from.invariant.steps _ c.lowest-to.ensures.here))

pub returns-clause-memory : goal.returns-clause-memory
returns-clause-memory c = tt

pub returns-clause-added : goal.returns-clause-added
returns-clause-added c = Targets-none _ _ _ _ _ _ c.loop-from.invariant.rests (omega arith) c.loop-from.invariant.below
