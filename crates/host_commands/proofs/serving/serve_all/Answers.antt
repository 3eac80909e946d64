use Rattle.game_server.specs.Printing.{form_in}
use Rattle.host_commands.proofs.RunLaws.{run_performs}
use Rattle.host_commands.proofs.serving.serve_all.Goals as goal

pub returns-clause-made : goal.returns-clause-made
returns-clause-made g c =
    let o = g.S.System.outside c.args.system.now in
    run_performs o (g.G.Games.facts c.args.system.now) (form_in c.args.at.now.lines) c.args.at.now.replies.most c.args.n (o.port c.args.port.now).to c.args.at.now.server _ _ _ c.serve.result c.serve.ensures.run
