use Rattle.command_line.specs.Inside.Putting.{hinted}
use Rattle.command_line.specs.Uses.{help_line, near_line}
use Rattle.command_line.proofs.PutLaws.{cut_before, then_put}
use Rattle.command_line.proofs.words.uses.put_behind.Goals as goal

pub returns-in-Ok : goal.returns-in-Ok
returns-in-Ok g c = then_put (g.S.System.outside c.args.system.now) _ _ _ (near_line (hinted c.args.behind.hint)) (help_line c.args.behind.name) c.put_help.result c.in-Ok.ensures c.put_help.ensures

pub returns-in-Err : goal.returns-in-Err
returns-in-Err g c = cut_before (g.S.System.outside c.args.system.now) _ _ (near_line (hinted c.args.behind.hint)) (help_line c.args.behind.name) c.in-Err.ensures
