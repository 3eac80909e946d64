use Rattle.served_games.specs.PlaceKeepers.{place_keepers}
use Rattle.theorems.proofs.Acking.{acks_are_found}
use Rattle.theorems.proofs.hosts.acks_are_found.Goals as goal

pub returns : goal.returns
returns g c = λ place its. acks_are_found (place_keepers (g.G.Games.facts c.args._system.now) place) (place_keepers (g.H.Games.facts c.args._other.now) its)
