use Rattle.command_line.proofs.PutLaws.{two_cut, two_put}
use Rattle.command_line.proofs.words.uses.put_two.Goals as goal

pub returns-in-Ok : goal.returns-in-Ok
returns-in-Ok g c = two_put (g.S.System.outside c.args.system.now) _ _ _ c.args.front.now c.args.rest.now c.put_shown-in-Ok.result c.in-Ok.ensures c.put_shown-in-Ok.ensures

pub returns-in-Err : goal.returns-in-Err
returns-in-Err g c = two_cut (g.S.System.outside c.args.system.now) _ _ c.args.front.now c.args.rest.now c.in-Err.ensures
