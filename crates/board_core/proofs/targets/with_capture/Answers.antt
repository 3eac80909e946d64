use Rattle.std.proofs.Common.{arith, sym}
use Rattle.std.proofs.lemmas.Bool.{false≢true}
use Rattle.board_core.proofs.Outward.{inside, along_unique}
use Rattle.board_core.proofs.Grown.{not_free}
use Rattle.board_core.proofs.targets.with_capture.Goals as goal

pub returns-then-room-eq0-clause-kept : goal.returns-then-room-eq0-clause-kept
returns-then-room-eq0-clause-kept c = λ s bit. bit

pub returns-then-room-eq0-clause-enemy : goal.returns-then-room-eq0-clause-enemy
returns-then-room-eq0-clause-enemy c = λ s b along _.
    absurd (omega (arith, (c.room.ensures.inside 1).1 (inside c.args.direction 1 c.args.from s (omega arith) b along)))

pub returns-then-room-eq0-clause-passed : goal.returns-then-room-eq0-clause-passed
returns-then-room-eq0-clause-passed c = λ s b along _.
    absurd (omega (arith, (c.room.ensures.inside 1).1 (inside c.args.direction 1 c.args.from s (omega arith) b along)))

pub along-to-requires : goal.along-to-requires
along-to-requires c = (c.room.ensures.inside 1).0 (omega arith)

pub returns-then-is_taken-clause-kept : goal.returns-then-is_taken-clause-kept
returns-then-is_taken-clause-kept c = c.with.ensures.kept

pub returns-then-is_taken-clause-enemy : goal.returns-then-is_taken-clause-enemy
returns-then-is_taken-clause-enemy c = λ s b along _.
    rw (along_unique c.args.direction 1 c.args.from s _ along c.along-to.ensures) c.with.ensures.here

pub returns-then-is_taken-clause-passed : goal.returns-then-is_taken-clause-passed
returns-then-is_taken-clause-passed c = λ s b along _.
    rw (along_unique c.args.direction 1 c.args.from s _ along c.along-to.ensures) c.with.ensures.here

pub returns-clause-kept : goal.returns-clause-kept
returns-clause-kept c = λ s bit. bit

pub returns-clause-enemy : goal.returns-clause-enemy
returns-clause-enemy c = λ s b along taken.
    let same = along_unique c.args.direction 1 c.args.from s _ along c.along-to.ensures in
    absurd (not_free _ _ c.along-to.result s (sym same) (rw c.other.ensures taken) (c.if-is_taken.ensures.free false≢true))
