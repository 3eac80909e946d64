use Rattle.host_commands.proofs.StepLaws.{alone, both}
use Rattle.host_commands.proofs.store_opening.open_games.Goals as goal

pub returns-in-Ok : goal.returns-in-Ok
returns-in-Ok g c = both (g.S.System.outside c.args.system.now) _ _ _ _ _ c.in-Ok.store _ c.in-Ok.ensures.made c.games_over.ensures

pub returns-in-Err : goal.returns-in-Err
returns-in-Err g c = alone (g.S.System.outside c.args.system.now) _ _ _ _ _ c.in-Err.ensures.made
