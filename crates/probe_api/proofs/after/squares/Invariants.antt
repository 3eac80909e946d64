use Rattle.probe_api.specs.Inside.{shows}
use Rattle.probe_api.proofs.Squares.{AreFound}
use Rattle.probe_api.proofs.after.squares.Given as goal

-- those on the squares so far are found
abbrev pub invariant-loop-place : goal.invariant-loop-place
invariant-loop-place l = AreFound (shows l.fn.sought) l.fn.position.men l.place l.bits
