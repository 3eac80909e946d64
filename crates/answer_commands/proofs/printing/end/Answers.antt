use Rattle.answer_commands.proofs.EndLaws.{not_out, was_refused}
use Rattle.answer_commands.proofs.printing.end.Goals as goal

pub returns-in-Err-answered : goal.returns-in-Err-answered
returns-in-Err-answered g c = was_refused (g.S.System.outside c.args.system.now) _ _ _ c.args.answered _ c.note_lost.result c.in-Err-answered.is c.note_lost.ensures.status c.in-Ok.ensures.gone c.in-Ok.ensures.made c.note_lost.ensures.made

pub returns-in-Err : goal.returns-in-Err
returns-in-Err g c = not_out (g.S.System.outside c.args.system.now) _ _ _ c.args.answered c.note_lost-in-Err.result c.in-Err.ensures.stuck c.note_lost-in-Err.ensures.status c.in-Err.ensures.made c.note_lost-in-Err.ensures.made
