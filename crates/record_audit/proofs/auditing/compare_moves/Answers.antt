use Rattle.record_audit.proofs.AuditLaws.{parted_so}
use Rattle.record_audit.proofs.auditing.compare_moves.Goals as goal

pub returns-in-Some : goal.returns-in-Some
returns-in-Some c = λ game.
    parted_so c.args.one.now c.args.other.now c.in-Some.count game
    (rw c.as_slice-its.ensures.moves at (rw c.as_slice-others.ensures.moves at c.in-Some.ensures.some))
