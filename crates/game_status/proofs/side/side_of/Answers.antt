use Rattle.std.proofs.Common.{ap}
use Rattle.std.specs.Prelude.{option_map}
use Rattle.game_status.proofs.side.side_of.Goals as goal

pub returns-clause-fault : goal.returns-clause-fault
returns-clause-fault c = record {
  bytes = c.in-Some.bytes.items;
  kept = ap (option_map (λ v. v.items)) c.in-Some.is;
  none = rw (c.in-Err.is, c.deref.ensures.value) at c.in_ok-record.ensures.fault;
}
