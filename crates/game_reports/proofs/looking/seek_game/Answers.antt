use Rattle.std.proofs.Common.{◌∙◌}
use Rattle.arbiter_server.specs.GameFolders.{game_path, most_game_bytes}
use Rattle.game_reports.proofs.LookLaws.{no_path, sought}
use Rattle.game_reports.proofs.looking.seek_game.Goals as goal

pub returns-in_default : goal.returns-in_default
returns-in_default g c = no_path (g.S.System.outside c.args.system.now) _ (game_path c.args.folder.now c.args.stamp) most_game_bytes

pub returns : goal.returns
returns g c =
    let look = c.look_within.ensures in
    sought (g.S.System.outside c.args.system.now) _ _ c.as_str.result.now (game_path c.args.folder.now c.args.stamp) most_game_bytes c.look_within.result (c.as_str.ensures.value ∙ c.in-Ok.ensures) look.bytes look.short look.cause look.made
