use Rattle.game_server.proofs.PrintLaws.{text_flushed, text_refused}
use Rattle.game_server.proofs.printing.print_text.Goals as goal

pub returns-in-Ok-clause-made : goal.returns-in-Ok-clause-made
returns-in-Ok-clause-made g c = text_flushed (g.S.System.outside c.args.system.now) c.args.timeline.now c.write.new.timeline c.flush.new.timeline c.args.text.now c.flush.result c.in-Ok.ensures.made c.flush.ensures.made

pub returns-in-Err-clause-made : goal.returns-in-Err-clause-made
returns-in-Err-clause-made g c = text_refused (g.S.System.outside c.args.system.now) c.args.timeline.now c.write.new.timeline c.write.new.timeline c.args.text.now c.in-Err.ensures.made
