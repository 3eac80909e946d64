use Rattle.arbiter_server.proofs.Histories.{records_go_on}
use Rattle.served_games.specs.PlaceKeepers.{place_keepers}
use Rattle.served_games.proofs.laws.records_go_on.Goals as goal

pub returns : goal.returns
returns g c = λ place. records_go_on (place_keepers (g.G.Games.facts c.args._system.now) place)
