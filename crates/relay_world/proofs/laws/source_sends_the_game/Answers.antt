use Rattle.relay_world.proofs.laws.source_sends_the_game.Goals as goal
use Rattle.relay_world.proofs.Sending.{sends_the_game}

pub returns : goal.returns
returns c = sends_the_game
