use Rattle.std.proofs.Common.{take}
use Rattle.std.specs.Io.KnownBytes.{Appends}
use Rattle.record_commands.specs.Record.{spaced}
use Rattle.record_commands.proofs.record.put_spaced.Given as goal

abbrev pub invariant-loop-m : goal.invariant-loop-m
invariant-loop-m g l = Appends (g.W.Write.contents l.initial.out) (g.W.Write.contents l.out) (spaced (take l.m-index l.moves))
