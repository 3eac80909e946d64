use Rattle.game_folder.specs.StoreGames.{store_games_facts}
use Rattle.served_games.proofs.InOrder.{store_keeps_in_order}
use Rattle.served_games.proofs.Taking.{commits_are_found}
use Rattle.served_games.specs.InOrder.{CanCommit, MayTakeStored}
use Rattle.served_games.proofs.laws.store_commits_are_found.Goals as goal

pub returns : goal.returns
returns g c =
    let o = g.S.System.outside c.args._system.now in
    commits_are_found o (store_games_facts o) CanCommit (MayTakeStored o) (store_keeps_in_order o)
