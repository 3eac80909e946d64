use Rattle.arbiter_server.specs.declared.line_log.LogForm.TheVariants.{Nothing}
use Rattle.game_server.specs.Printing.{OfGames}
use Rattle.host_commands.proofs.HostLaws.{unlogged_so}
use Rattle.host_commands.proofs.RunLaws.{run_performs, unlogged_ends}
use Rattle.host_commands.proofs.hosting.go_on_unlogged.Goals as goal

pub returns-clause-made : goal.returns-clause-made
returns-clause-made g c =
    let o = g.S.System.outside c.args.system.now in
    let facts = g.G.Games.facts c.args.system.now in
    let at = c.args.at.now in
    let to = (o.port c.args.port.now).to in
    unlogged_so o facts at.replies.most c.args.n to at.server _ _ _ c.serve.result c.note.ensures.made
    (run_performs o facts (OfGames Nothing) at.replies.most c.args.n to at.server c.serve.new.at.server _ _ c.serve.result (rw c.silence.ensures at c.serve.ensures.run))

pub returns-clause-done : goal.returns-clause-done
returns-clause-done g c =
    let o = g.S.System.outside c.args.system.now in
    let facts = g.G.Games.facts c.args.system.now in
    let at = c.args.at.now in
    unlogged_ends o facts at.replies.most c.args.n (o.port c.args.port.now).to at.server c.serve.new.at.server _ _ c.serve.result (rw c.silence.ensures at c.serve.ensures.run)
