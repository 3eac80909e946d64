use Rattle.served_games.specs.PlaceKeepers.{place_keepers}
use Rattle.theorems.proofs.Joining.{hosts_tell_the_truth}
use Rattle.theorems.proofs.hosts.hosts_tell_the_truth.Goals as goal

pub returns : goal.returns
returns g c = λ place its. hosts_tell_the_truth (place_keepers (g.G.Games.facts c.args._system.now) place) (place_keepers (g.H.Games.facts c.args._other.now) its)
