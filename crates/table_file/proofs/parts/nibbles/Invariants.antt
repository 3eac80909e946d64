use Rattle.std.proofs.Common.{◌≡◌, map, take}
use Rattle.table_file.specs.Files.{nibble}
use Rattle.table_file.proofs.parts.nibbles.Given as goal

abbrev pub invariant-loop-byte : goal.invariant-loop-byte
invariant-loop-byte l = l.out.items ≡ map (nibble l.side) (take l.byte-index l.bytes)
