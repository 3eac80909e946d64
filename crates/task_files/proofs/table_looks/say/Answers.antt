use Rattle.move_msg.specs.TextLines.{ended}
use Rattle.task_files.proofs.TurnLaws.{was_cut, went_out}
use Rattle.task_files.proofs.table_looks.say.Goals as goal

pub returns-in-Ok : goal.returns-in-Ok
returns-in-Ok g c = went_out (g.S.System.outside c.args.system.now) _ _ _ (ended c.args.line) c.flush-gone.result c.in-Ok.ensures.made c.flush-gone.ensures.made

pub returns-in-Err : goal.returns-in-Err
returns-in-Err g c = was_cut (g.S.System.outside c.args.system.now) _ _ (ended c.args.line) c.in-Err.ensures.made
