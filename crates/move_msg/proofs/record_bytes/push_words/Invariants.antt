use Rattle.std.proofs.Common.{take}
use Rattle.move_msg.specs.Records.{AppendsMoves}
use Rattle.move_msg.proofs.record_bytes.push_words.Given as goal

abbrev pub invariant-loop-m : goal.invariant-loop-m
invariant-loop-m l = AppendsMoves l.fn.out.items l.out.items (take l.m-index l.moves)
