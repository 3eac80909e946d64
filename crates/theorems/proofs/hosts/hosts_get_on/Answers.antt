use Rattle.served_games.specs.PlaceKeepers.{place_keepers}
use Rattle.theorems.proofs.GettingOn.{hosts_get_on}
use Rattle.theorems.proofs.hosts.hosts_get_on.Goals as goal

pub returns : goal.returns
returns g c = λ place its. hosts_get_on (place_keepers (g.G.Games.facts c.args._system.now) place) (place_keepers (g.H.Games.facts c.args._other.now) its)
