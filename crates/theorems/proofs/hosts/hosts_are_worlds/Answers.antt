use Rattle.served_games.specs.PlaceKeepers.{place_keepers}
use Rattle.theorems.proofs.Joining.{hosts_are_worlds}
use Rattle.theorems.proofs.hosts.hosts_are_worlds.Goals as goal

pub returns : goal.returns
returns g c = λ place its. hosts_are_worlds (place_keepers (g.G.Games.facts c.args._system.now) place) (place_keepers (g.H.Games.facts c.args._other.now) its)
