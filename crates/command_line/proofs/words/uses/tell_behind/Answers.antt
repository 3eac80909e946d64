use Rattle.command_line.specs.Inside.Putting.{words_behind}
use Rattle.command_line.proofs.PutLaws.{cut_tells, flushed}
use Rattle.command_line.proofs.words.uses.tell_behind.Goals as goal

pub returns-in-Ok : goal.returns-in-Ok
returns-in-Ok g c = flushed (g.S.System.outside c.args.system.now) _ _ _ (words_behind c.args.behind) c.flush-out.result c.in-Ok.ensures c.flush-out.ensures.gone c.flush-out.ensures.stuck c.flush-out.ensures.made

pub returns-in-Err : goal.returns-in-Err
returns-in-Err g c = cut_tells (g.S.System.outside c.args.system.now) _ _ (words_behind c.args.behind) c.in-Err.ensures
