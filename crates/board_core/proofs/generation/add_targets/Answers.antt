use Rattle.std.proofs.Common.{arith}
use Rattle.board_core.proofs.Listing.{HasListedBelow-skip}
use Rattle.board_core.proofs.Sweep.{Targets-below, Targets-none, Rests-begin, Rests-without}
use Rattle.board_core.proofs.Refused.{on_err, not_ok}
use Rattle.board_core.proofs.generation.add_targets.Goals as goal

pub add_between-requires-clause-below : goal.add_between-requires-clause-below
add_between-requires-clause-below c =
    Targets-below _ _ _ _ _ _ _ (omega arith) c.loop-which.invariant.rests c.lowest-to.ensures.here c.lowest-to.ensures.first c.loop-which.invariant.below

pub loop-which-init : goal.loop-which-init
loop-which-init c = record {
  below = HasListedBelow-skip _ _ _ _ _ c.requires.below (omega arith) (λ m l low high. omega arith);
  rests = Rests-begin _ _ (λ s b goes. rw goes.3 at (c.requires.whole goes.0 goes.1 goes.2));
}

pub loop-which-preserved : goal.loop-which-preserved
loop-which-preserved c = record {
  below = rw c.number-next.ensures.value c.in_ok-add_between.ensures.added;
  rests = rw c.number-next.ensures.value (Rests-without _ _ _ _ _ (omega arith) c.loop-which.invariant.rests c.lowest-to.ensures.first c.lowest-to.ensures.here c.without-rest.ensures.gone c.without-rest.ensures.kept);
}

pub returns-clause-added : goal.returns-clause-added
returns-clause-added c = Targets-none _ _ _ _ _ _ c.loop-which.invariant.rests (omega arith) c.loop-which.invariant.below

pub is_unpinned-unpinned-requires : goal.is_unpinned-unpinned-requires
is_unpinned-unpinned-requires c = c.requires.guard

pub add_between-requires-clause-position : goal.add_between-requires-clause-position
add_between-requires-clause-position c = c.requires.position

pub add_between-requires-clause-guard : goal.add_between-requires-clause-guard
add_between-requires-clause-guard c = c.requires.guard

pub add_between-requires-clause-unpinned : goal.add_between-requires-clause-unpinned
add_between-requires-clause-unpinned c = c.is_unpinned-unpinned.ensures

pub returns-in_err-add_between-clause-added : goal.returns-in_err-add_between-clause-added
returns-in_err-add_between-clause-added c = not_ok _ c.from_residual.result c.from_residual.ensures.0

pub returns-in_err-add_between-clause-memory : goal.returns-in_err-add_between-clause-memory
returns-in_err-add_between-clause-memory c = on_err c.from_residual.result c.in_err-add_between.ensures.memory

pub returns-clause-memory : goal.returns-clause-memory
returns-clause-memory c = tt
