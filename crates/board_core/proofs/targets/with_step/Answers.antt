use Rattle.std.proofs.Common.{arith, refl, inl}
use Rattle.std.proofs.lemmas.Bool.{false≢true}
use Rattle.board_core.specs.Attack.{Along}
use Rattle.board_core.specs.Moves.{IsFree}
use Rattle.board_core.proofs.Outward.{inside, along_unique}
use Rattle.board_core.proofs.Grown.{only_more, not_free}
use Rattle.board_core.proofs.targets.with_step.Goals as goal

pub returns-then-room-eq0-clause-kept : goal.returns-then-room-eq0-clause-kept
returns-then-room-eq0-clause-kept c = λ s bit. bit

pub returns-then-room-eq0-clause-reached : goal.returns-then-room-eq0-clause-reached
returns-then-room-eq0-clause-reached c = λ s b along _.
    absurd (omega (arith, (c.room.ensures.inside 1).1 (inside c.args.direction 1 c.args.from s (omega arith) b along)))

pub returns-then-room-eq0-clause-only : goal.returns-then-room-eq0-clause-only
returns-then-room-eq0-clause-only c = λ s bit. inl bit

pub along-to-requires : goal.along-to-requires
along-to-requires c = (c.room.ensures.inside 1).0 (omega arith)

pub returns-then-is_taken-clause-kept : goal.returns-then-is_taken-clause-kept
returns-then-is_taken-clause-kept c = λ s bit. bit

pub returns-then-is_taken-clause-reached : goal.returns-then-is_taken-clause-reached
returns-then-is_taken-clause-reached c = λ s b along free.
    absurd (not_free _ _ s c.along-to.result (along_unique c.args.direction 1 c.args.from s _ along c.along-to.ensures) (c.if-is_taken.ensures.taken refl) free)

pub returns-then-is_taken-clause-only : goal.returns-then-is_taken-clause-only
returns-then-is_taken-clause-only c = λ s bit. inl bit

pub returns-clause-kept : goal.returns-clause-kept
returns-clause-kept c = c.with.ensures.kept

pub returns-clause-reached : goal.returns-clause-reached
returns-clause-reached c = λ s b along free.
    rw (along_unique c.args.direction 1 c.args.from s _ along c.along-to.ensures) c.with.ensures.here

pub returns-clause-only : goal.returns-clause-only
returns-clause-only c =
    only_more (λ s. Along c.args.direction 1 c.args.from s × IsFree c.args.men.now c.args.side s) _ c.args.mask _ c.along-to.result c.with.ensures.others
    (c.along-to.ensures, c.if-is_taken.ensures.free false≢true)
    (λ s bit. inl bit)
