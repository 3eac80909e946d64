use Rattle.game_reports.specs.Inside.Opening.{known_folders}
use Rattle.game_reports.proofs.AskedLaws.{both_found, no_room_both, no_room_first}
use Rattle.game_reports.proofs.asked.look_twice.Goals as goal

pub returns-in-Err-clause-made : goal.returns-in-Err-clause-made
returns-in-Err-clause-made g c = no_room_first (g.S.System.outside c.args.system.now) (known_folders c.args.folders.now) c.args.stamp _ _ c.in-Err.ensures.made

pub returns-in-Ok-look_at_game-clause-made : goal.returns-in-Ok-look_at_game-clause-made
returns-in-Ok-look_at_game-clause-made g c =
    both_found (g.S.System.outside c.args.system.now) (known_folders c.args.folders.now) c.args.stamp _ _ _ (record { first = c.in-Ok.first; both = c.in-Ok-look_at_game.both }) c.in-Ok.ensures.made c.in-Ok-look_at_game.ensures.made

pub returns-in-Err-look_at_game-clause-made : goal.returns-in-Err-look_at_game-clause-made
returns-in-Err-look_at_game-clause-made g c =
    no_room_both (g.S.System.outside c.args.system.now) (known_folders c.args.folders.now) c.args.stamp _ _ _ c.in-Ok.first c.in-Ok.ensures.made c.in-Err-look_at_game.ensures.made
