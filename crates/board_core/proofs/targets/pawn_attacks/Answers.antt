use Rattle.std.proofs.Common.{inl, inr}
use Rattle.board_core.specs.declared.piece.Side.TheVariants.{White, Black}
use Rattle.board_core.proofs.Grown.{pawn_way}
use Rattle.board_core.proofs.targets.pawn_attacks.Goals as goal

pub returns-in-White : goal.returns-in-White
returns-in-White c = λ s b attack free. elim (pawn_way Black c.args.from s (rw c.in-White.is at attack)) [
  | inl east ↦ c.with_step.ensures.kept s (c.with_step-east.ensures.reached s b east free)
  | inr west ↦ c.with_step.ensures.reached s b west free
]

pub returns-in-Black : goal.returns-in-Black
returns-in-Black c = λ s b attack free. elim (pawn_way White c.args.from s (rw c.in-Black.is at attack)) [
  | inl east ↦ c.with_step-in-Black.ensures.kept s (c.with_step-east-in-Black.ensures.reached s b east free)
  | inr west ↦ c.with_step-in-Black.ensures.reached s b west free
]
