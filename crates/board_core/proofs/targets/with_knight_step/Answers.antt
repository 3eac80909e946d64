use Rattle.std.proofs.Common.{refl, inl}
use Rattle.std.proofs.lemmas.Bool.{false≢true}
use Rattle.board_core.specs.Moves.{IsFree}
use Rattle.board_core.specs.Inside.Search.{IsKnightStepBy}
use Rattle.board_core.proofs.Grown.{only_more, knight_unique, not_free}
use Rattle.board_core.proofs.targets.with_knight_step.Goals as goal

pub returns-then-is_taken-clause-kept : goal.returns-then-is_taken-clause-kept
returns-then-is_taken-clause-kept c = λ s bit. bit

pub returns-then-is_taken-clause-reached : goal.returns-then-is_taken-clause-reached
returns-then-is_taken-clause-reached c = λ s b step free.
    absurd (not_free _ _ s c.in-Some.to (knight_unique c.args.knight_step c.args.from s _ step c.in-Some.ensures.found) (c.if-is_taken.ensures.taken refl) free)

pub returns-then-is_taken-clause-only : goal.returns-then-is_taken-clause-only
returns-then-is_taken-clause-only c = λ s bit. inl bit

pub returns-else-is_taken-clause-kept : goal.returns-else-is_taken-clause-kept
returns-else-is_taken-clause-kept c = c.with.ensures.kept

pub returns-else-is_taken-clause-reached : goal.returns-else-is_taken-clause-reached
returns-else-is_taken-clause-reached c = λ s b step free.
    rw (knight_unique c.args.knight_step c.args.from s _ step c.in-Some.ensures.found) c.with.ensures.here

pub returns-else-is_taken-clause-only : goal.returns-else-is_taken-clause-only
returns-else-is_taken-clause-only c =
    only_more (λ s. IsKnightStepBy c.args.knight_step c.args.from s × IsFree c.args.men.now c.args.side s) _ c.args.mask _ c.in-Some.to c.with.ensures.others
    (c.in-Some.ensures.found, c.if-is_taken.ensures.free false≢true)
    (λ s bit. inl bit)

pub returns-in-None-clause-kept : goal.returns-in-None-clause-kept
returns-in-None-clause-kept c = λ s bit. bit

pub returns-in-None-clause-reached : goal.returns-in-None-clause-reached
returns-in-None-clause-reached c = λ s b step free. absurd (c.in-None.ensures.none s b step)

pub returns-in-None-clause-only : goal.returns-in-None-clause-only
returns-in-None-clause-only c = λ s bit. inl bit
