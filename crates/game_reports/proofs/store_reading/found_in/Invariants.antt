use Rattle.std.proofs.Common.{◌≡◌, take}
use Rattle.std.specs.Prelude.{option_map}
use Rattle.system_io.specs.Records.{records_of}
use Rattle.timeline.specs.Events.{bytes_found}
use Rattle.game_reports.proofs.store_reading.found_in.Given as goal

abbrev pub invariant-loop-entry : goal.invariant-loop-entry
invariant-loop-entry l = bytes_found l.found ≡ option_map (λ r. r.bytes) (records_of (take l.entry-index l.entries) l.fn.stamp)
