use Rattle.std.proofs.Common.{◌≡◌, map, drop}
use Rattle.move_msg.specs.Manifests.{entry_of}
use Rattle.answer_commands.specs.Inside.Looking.{fault_seen, sight_of}
use Rattle.answer_commands.proofs.check.fault_in.Given as goal

abbrev pub invariant-loop-file : goal.invariant-loop-file
invariant-loop-file l = fault_seen (map sight_of (drop l.file-index l.seen)) (entry_of l.line) ≡ fault_seen (map sight_of l.seen) (entry_of l.line)
