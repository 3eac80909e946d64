use Rattle.std.proofs.Common.{arith, ◌≡◌}
use Rattle.std.proofs.lemmas.Nat.Bits.{bit_at-zero}
use Rattle.board_core.proofs.Sweep.{zero_one}
use Rattle.board_core.proofs.Listing.{HasListedBelow-skip, IsLegal-from}
use Rattle.board_core.proofs.generation.add_piece_moves.Goals as goal

pub steps-set-requires : goal.steps-set-requires
steps-set-requires c = record {
  survey = c.requires.survey;
  stands = c.requires.stands;
  piece = c.requires.piece;
}

pub returns-then-is_empty : goal.returns-then-is_empty
returns-then-is_empty c =
    let none : c.steps-set.result ≡ 0 = c.is_empty.ensures.0 c.if-is_empty.true in record {
      moves = HasListedBelow-skip _ _ _ _ _ c.requires.below (omega arith) (λ m l low high.
          zero_one _ (bit_at-zero m.to) (rw none at (c.steps-set.ensures.whole m l (IsLegal-from _ m _ l.0 low high))));
      memory = tt;
      known = c.requires.known;
    }

pub guard_in-guard-requires : goal.guard_in-guard-requires
guard_in-guard-requires c = record { survey = c.requires.survey; known = c.requires.known }

pub is_unpinned-requires : goal.is_unpinned-requires
is_unpinned-requires c = c.guard_in-guard.ensures.guard

pub add_steps-requires : goal.add_steps-requires
add_steps-requires c = record {
  stands = c.requires.stands;
  piece = c.requires.piece.0;
  unpinned = c.is_unpinned.ensures c.if-is_unpinned.true;
  below = c.requires.below;
  steps = c.steps-set.ensures.steps;
  whole = c.steps-set.ensures.whole;
}

pub returns-then-is_unpinned : goal.returns-then-is_unpinned
returns-then-is_unpinned c = record {
  moves = c.add_steps.ensures.added;
  memory = c.add_steps.ensures.memory;
  known = c.guard_in-guard.ensures.known;
}

pub add_targets-requires : goal.add_targets-requires
add_targets-requires c = record {
  position = c.requires.position;
  guard = c.guard_in-guard.ensures.guard;
  below = c.requires.below;
  whole = c.steps-set.ensures.whole;
}

pub returns : goal.returns
returns c = record {
  moves = c.add_targets.ensures.added;
  memory = c.add_targets.ensures.memory;
  known = c.guard_in-guard.ensures.known;
}
