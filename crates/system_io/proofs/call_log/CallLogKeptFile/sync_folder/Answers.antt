use Rattle.system_io.specs.FileCalls.{Failed}
use Rattle.system_io.proofs.CallSteps.{has_bytes, kept, only, replaced, still_says}
use Rattle.system_io.proofs.call_log.CallLogKeptFile.sync_folder.Goals as goal

pub returns-in-Err-clause-same : goal.returns-in-Err-clause-same
returns-in-Err-clause-same g c = λ a b h. still_says _ _ _ _ a b c.fail.ensures.known c.fail.ensures.stands c.fail.ensures.earlier c.fail.ensures.calls (kept a b _ _ Failed tt c.in-Err.ensures.made) h

pub returns-in-Renamed-clause-synced : goal.returns-in-Renamed-clause-synced
returns-in-Renamed-clause-synced g c = λ bytes s. record { known = s.2; names = only _ _ _ (has_bytes _ bytes s.0) c.clear.ensures.items; by_calls = replaced bytes _ _ s.3 c.in-Ok.ensures.made }
