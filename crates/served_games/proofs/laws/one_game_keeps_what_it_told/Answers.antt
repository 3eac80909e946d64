use Rattle.served_games.proofs.OneGames.{one_game_keeps_what_it_told}
use Rattle.served_games.proofs.laws.one_game_keeps_what_it_told.Goals as goal

pub returns : goal.returns
returns g c = one_game_keeps_what_it_told (g.S.System.outside c.args._system.now)
