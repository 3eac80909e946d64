use Rattle.std.proofs.Common.{take}
use Rattle.command_line.specs.Uses.{shown_bytes}
use Rattle.command_line.proofs.PutLaws.{Writes}
use Rattle.command_line.proofs.words.uses.put_shown.Given as goal

abbrev pub invariant-loop-byte : goal.invariant-loop-byte
invariant-loop-byte g l = Writes (g.S.System.outside l.system) l.initial.timeline l.timeline (shown_bytes (take l.byte-index l.words))
