use Rattle.probe_api.specs.Moves.{plain_of}
use Rattle.probe_api.proofs.Placing.{ArePut}
use Rattle.probe_api.proofs.listing.put_each.Given as goal

-- the moves so far are put
abbrev pub invariant-loop-place : goal.invariant-loop-place
invariant-loop-place l = ArePut plain_of l.moves l.fn.room l.room l.place
