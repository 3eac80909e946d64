use Rattle.std.proofs.Common.{◌≡◌, length}
use Rattle.http_loop.specs.Lingering.{times_of}
use Rattle.http_loop.proofs.LingerLaws.{AnewBelow}
use Rattle.http_loop.proofs.lingering.Lingering.count_anew.Given as goal

abbrev pub invariant-loop-place : goal.invariant-loop-place
invariant-loop-place l = AnewBelow (times_of l.self) l.fn.now l.place × (length (times_of l.self) ≡ length (times_of l.fn.self))
