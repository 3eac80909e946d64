use Rattle.std.proofs.Common.{refl}
use Rattle.system_io.specs.FileCalls.{Failed, Wrote}
use Rattle.system_io.proofs.CallSteps.{ends, kept, still_says}
use Rattle.system_io.proofs.call_log.CallLogKeptFile.write_beside.Goals as goal

pub returns-in-Ok-write-clause-written : goal.returns-in-Ok-write-clause-written
returns-in-Ok-write-clause-written g c = (record { v = _; is = refl; items = c.in-Ok.ensures.items }, refl, ends _ _ (Wrote c.args.bytes.now) c.in-Ok-write.ensures)

pub returns-in-Ok-write-clause-same : goal.returns-in-Ok-write-clause-same
returns-in-Ok-write-clause-same g c = λ a b h. still_says _ _ _ _ a b refl refl refl refl (kept a b _ _ (Wrote c.args.bytes.now) tt c.in-Ok-write.ensures) h

pub returns-in-Err-clause-same : goal.returns-in-Err-clause-same
returns-in-Err-clause-same g c = λ a b h. still_says _ _ _ _ a b c.fail-in-Err.ensures.known c.fail-in-Err.ensures.stands c.fail-in-Err.ensures.earlier c.fail-in-Err.ensures.calls (kept a b _ _ Failed tt c.in-Err.ensures) h
