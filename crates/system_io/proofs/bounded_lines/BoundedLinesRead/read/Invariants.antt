use Rattle.std.proofs.Common.{◌≡◌, length}
use Rattle.std.specs.Io.KnownBytes.{Keeps}
use Rattle.system_io.specs.ShortLines.{given_left}
use Rattle.system_io.proofs.bounded_lines.BoundedLinesRead.read.Given as goal

-- nothing was given yet
abbrev pub invariant-loop : goal.invariant-loop
invariant-loop g l = Keeps (given_left g.R.Read.remaining l.fn.self) (given_left g.R.Read.remaining l.self) × (length l.buf ≡ length l.fn.buf)
