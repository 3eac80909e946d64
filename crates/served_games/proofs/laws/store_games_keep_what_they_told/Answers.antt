use Rattle.served_games.proofs.FolderStores.{store_games_are_led, store_games_keep_what_they_told}
use Rattle.served_games.proofs.laws.store_games_keep_what_they_told.Goals as goal

pub returns : goal.returns
returns g c =
    let o = g.S.System.outside c.args._system.now in
    record { told = store_games_keep_what_they_told o; led = store_games_are_led o }
