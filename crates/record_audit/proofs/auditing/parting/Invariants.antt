use Rattle.std.proofs.Common.{◌≡◌, take}
use Rattle.record_audit.proofs.auditing.parting.Given as goal

abbrev pub invariant-loop-count : goal.invariant-loop-count
invariant-loop-count l = take l.count l.one ≡ take l.count l.other
