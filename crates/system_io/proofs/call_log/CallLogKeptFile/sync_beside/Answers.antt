use Rattle.std.proofs.Common.{refl}
use Rattle.system_io.specs.FileCalls.{Failed, SyncedFile}
use Rattle.system_io.proofs.CallSteps.{kept, still_says}
use Rattle.system_io.proofs.call_log.CallLogKeptFile.sync_beside.Goals as goal

pub returns-in-Ok-clause-same : goal.returns-in-Ok-clause-same
returns-in-Ok-clause-same g c = λ a b h. still_says _ _ _ _ a b refl refl refl refl (kept a b _ _ SyncedFile tt c.in-Ok.ensures) h

pub returns-in-Err-clause-same : goal.returns-in-Err-clause-same
returns-in-Err-clause-same g c = λ a b h. still_says _ _ _ _ a b c.fail-in-Err.ensures.known c.fail-in-Err.ensures.stands c.fail-in-Err.ensures.earlier c.fail-in-Err.ensures.calls (kept a b _ _ Failed tt c.in-Err.ensures) h
