use Rattle.game_teller.proofs.StepLaws.{lines_followed, no_lines}
use Rattle.game_teller.proofs.following.follow_game.Goals as goal

pub returns-in-Ok-clause-made : goal.returns-in-Ok-clause-made
returns-in-Ok-clause-made g c =
    let o = g.S.System.outside c.args.system.now in
    let e = c.in-Ok.ensures in
    lines_followed o c.args.game.now (g.J.PlyJudge.facts c.args.judge.now) o.input (o.lines c.in-Ok.lines) e.given e.known e.cause e.room _ _ _ c.follow_lines.result e.made c.follow_lines.ensures.made

pub returns-in-Err-clause-made : goal.returns-in-Err-clause-made
returns-in-Err-clause-made g c =
    let o = g.S.System.outside c.args.system.now in
    no_lines o c.args.game.now (g.J.PlyJudge.facts c.args.judge.now) o.input _ _ _ c.print_stop.result c.in-Err.ensures.memory c.in-Err.ensures.made c.print_stop.ensures.made
