use Rattle.std.proofs.Common.{[], codes}
use Rattle.command_line.specs.Uses.{shown_line}
use Rattle.command_line.proofs.PutLaws.{cut_goes, goes_after}
use Rattle.command_line.proofs.words.uses.tell_no_command.Goals as goal

pub returns-in-Ok : goal.returns-in-Ok
returns-in-Ok g c = (c.tell_list.ensures.0, goes_after (g.S.System.outside c.args.system.now) _ _ _ (shown_line (codes "no command")) c.tell_list.ensures.0 c.in-Ok.ensures c.tell_list.ensures.1)

pub returns-in-Err : goal.returns-in-Err
returns-in-Err g c = ([], cut_goes (g.S.System.outside c.args.system.now) _ _ (shown_line (codes "no command")) [] c.in-Err.ensures)
