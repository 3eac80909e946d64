use Rattle.probe_api.specs.Roots.{plain_root}
use Rattle.probe_api.proofs.Placing.{ArePut}
use Rattle.probe_api.proofs.root.put_each.Given as goal

-- the moves so far are put
abbrev pub invariant-loop-place : goal.invariant-loop-place
invariant-loop-place l = ArePut plain_root l.moves l.fn.room l.room l.place
