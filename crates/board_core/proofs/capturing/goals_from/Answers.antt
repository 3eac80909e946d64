use Rattle.std.proofs.Common.{sym, ◌∙◌}
use Rattle.board_core.proofs.Steps.{and_both}
use Rattle.board_core.proofs.NextCapture.{takes_from}
use Rattle.board_core.proofs.capturing.goals_from.Goals as goal

pub returns-in-Some : goal.returns-in-Some
returns-in-Some c = λ m l e.
    let who = takes_from c.args.p.now m c.in-Some.man l (rw e (sym c.at.ensures.man ∙ c.in-Some.is)) in
    rw c.bitand.ensures (and_both _ _ m.to (c.reached.ensures c.args.p.now.men m.to l.0.1.to_board (rw e at who.1)) (c.goals.ensures m l who.0))
