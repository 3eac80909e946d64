use Rattle.std.proofs.Common.{refl}
use Rattle.arbiter_server.specs.Games.{common_with}
use Rattle.host_commands.proofs.HostLaws.{files_so}
use Rattle.host_commands.proofs.hosting.serve_kept.Goals as goal

pub returns-in-None-clause-made : goal.returns-in-None-clause-made
returns-in-None-clause-made g c =
    rw c.in-None.is (files_so (g.S.System.outside c.args.system.now) c.args.task.now (common_with c.args.served.config c.args.served.tables) c.args.port.now _ _ _ c.serve_games.result refl c.serve_games.ensures.made)

pub returns-in-Some-clause-made : goal.returns-in-Some-clause-made
returns-in-Some-clause-made g c = rw c.in-Some.is c.serve_games-in-Some.ensures.made
