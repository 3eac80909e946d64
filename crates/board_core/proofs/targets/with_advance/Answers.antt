use Rattle.std.proofs.Common.{arith}
use Rattle.std.proofs.lemmas.Bool.{false≢true}
use Rattle.board_core.specs.Attack.{forward}
use Rattle.board_core.proofs.Outward.{inside, along_unique}
use Rattle.board_core.proofs.targets.with_advance.Goals as goal

pub returns-then-room-n-clause-kept : goal.returns-then-room-n-clause-kept
returns-then-room-n-clause-kept c = λ s bit. bit

pub returns-then-room-n-clause-reached : goal.returns-then-room-n-clause-reached
returns-then-room-n-clause-reached c = λ s b along _.
    let fits = rw c.forward-direction.ensures at (c.room.ensures.inside c.args.n).1 in
    absurd (omega (arith, fits (inside (forward c.args.side) c.args.n c.args.from s (omega arith) b along)))

pub along-to-requires : goal.along-to-requires
along-to-requires c = (c.room.ensures.inside c.args.n).0 c.if-room-n.false

pub returns-then-not-is_empty-clause-kept : goal.returns-then-not-is_empty-clause-kept
returns-then-not-is_empty-clause-kept c = λ s bit. bit

pub returns-then-not-is_empty-clause-reached : goal.returns-then-not-is_empty-clause-reached
returns-then-not-is_empty-clause-reached c = λ s b along none.
    let same = along_unique (forward c.args.side) c.args.n c.args.from s _ along (rw c.forward-direction.ensures at c.along-to.ensures) in
    absurd (false≢true (c.if-not-is_empty.ensures.1 (rw same at none)))

pub returns-clause-kept : goal.returns-clause-kept
returns-clause-kept c = c.with.ensures.kept

pub returns-clause-reached : goal.returns-clause-reached
returns-clause-reached c = λ s b along none.
    rw (along_unique (forward c.args.side) c.args.n c.args.from s _ along (rw c.forward-direction.ensures at c.along-to.ensures)) c.with.ensures.here
