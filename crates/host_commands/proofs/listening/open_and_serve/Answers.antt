use Rattle.std.proofs.Common.{◌∙◌, ap}
use Rattle.game_server.specs.Printing.{OfOne, form_in}
use Rattle.game_server.specs.Inside.HeldReplies.{RepliesView}
use Rattle.host_commands.proofs.ListenLaws.{answers_as, opened_so, unopened_so}
use Rattle.host_commands.proofs.listening.open_and_serve.Goals as goal

pub returns-in-Ok-clause-made : goal.returns-in-Ok-clause-made
returns-in-Ok-clause-made g c =
    let o = g.S.System.outside c.args.system.now in
    let facts = g.G.Games.facts c.args.system.now in
    let at = c.args.at.now in
    let left = c.open_game.new.at in
    let opened = c.in-Ok.ensures in
    let served = answers_as o facts c.args.task.now.datagrams left.server _ _ c.serve_all.result left.replies.most at.replies.most (o.port c.ask_if.new.port).to (o.port c.args.port.now).to (form_in left.lines) (OfOne c.args.stamp)
    (ap (λ (x : RepliesView). x.most) opened.replies) c.ask_if.ensures.same.same.to (ap form_in (opened.lines ∙ c.requires.lines)) c.serve_all.ensures.made in
    opened_so o facts c.args.task.now at.replies.most c.args.stamp c.args.port.now at.server _ _ _ _ left.server c.serve_all.result c.in-Ok.ensures.made c.ask_if.ensures.made served

pub returns-in-Err-clause-made : goal.returns-in-Err-clause-made
returns-in-Err-clause-made g c =
    unopened_so (g.S.System.outside c.args.system.now) (g.G.Games.facts c.args.system.now) c.args.task.now c.args.at.now.replies.most c.args.stamp c.args.port.now c.args.at.now.server _ _ _ c.open_game.new.at.server c.in-Err.why c.print_refusal.result c.in-Err.ensures.made
    (rw c.unopened_refusal.ensures at c.print_refusal.ensures.made)
