use Rattle.served_games.proofs.StoreRuns.{runs_are_led, runs_are_told}
use Rattle.served_games.proofs.laws.store_runs_last.Goals as goal

pub returns : goal.returns
returns g c =
    let o = g.S.System.outside c.args._system.now in
    record { told = runs_are_told o; led = runs_are_led o }
