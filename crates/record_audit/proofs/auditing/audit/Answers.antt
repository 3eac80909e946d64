use Rattle.std.proofs.Common.{inl, refl}
use Rattle.arbiter_core.proofs.Opened.{no_record}
use Rattle.record_audit.proofs.auditing.audit.Goals as goal

pub returns-in_default : goal.returns-in_default
returns-in_default c =
    let none = no_record c.args.bytes.now c.decode.result c.in-Err.fault c.in-Err.is c.in_default.not-OutOfMemory c.decode.ensures.only in
    record { found = (inl none, c.in-Err.ensures.err c.in_default.not-OutOfMemory); spelled = tt; none = none; memory = tt; same = refl }
