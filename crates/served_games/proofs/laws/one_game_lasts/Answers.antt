use Rattle.game_folder.specs.OneGame.{one_game_facts}
use Rattle.served_games.proofs.AtOnce.{one_game_keeps_at_once}
use Rattle.served_games.proofs.Enduring.{runs_last}
use Rattle.served_games.proofs.Following.{games_are_found}
use Rattle.served_games.proofs.laws.one_game_lasts.Goals as goal

pub returns : goal.returns
returns g c =
    let o = g.S.System.outside c.args._system.now in
    record { found = games_are_found o (one_game_facts o) (one_game_keeps_at_once o); last = runs_last o (one_game_facts o) (one_game_keeps_at_once o) }
