use Rattle.relay_world.proofs.laws.reached_plies.Goals as goal
use Rattle.arbiter_core.proofs.Reach.{reach_within, unruled_below}
use Rattle.relay_world.proofs.Steps.{start_legal}
use Rattle.relay_world.proofs.Faithful.{reached_from}

pub returns : goal.returns
returns c rules game ply = (
  (λ h. (reach_within rules game ply h, start_legal rules game ply h, λ j l. unruled_below rules game j ply l h)),
  λ h. reached_from rules game ply h.0 h.1 h.2,
)
