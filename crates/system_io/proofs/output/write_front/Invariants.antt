use Rattle.std.proofs.Common.{◌≤◌, length, take}
use Rattle.std.specs.Io.KnownBytes.{Appends}
use Rattle.system_io.proofs.output.write_front.Given as goal

-- a front of the bytes was written
abbrev pub invariant-loop : goal.invariant-loop
invariant-loop g l = record {
  front : Appends (g.W.Write.contents l.initial.out) (g.W.Write.contents l.out) (take l.written l.bytes);
  within : l.written ≤ length l.bytes;
}
