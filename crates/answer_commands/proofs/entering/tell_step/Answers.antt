use Rattle.std.proofs.Common.{[], refl}
use Rattle.move_msg.specs.TextLines.{ended}
use Rattle.answer_parts.proofs.PrintLaws.{fails_at}
use Rattle.answer_commands.proofs.EnterLaws.{word_cut}
use Rattle.answer_commands.proofs.entering.tell_step.Goals as goal

pub returns-in-Err-clause-made : goal.returns-in-Err-clause-made
returns-in-Err-clause-made g c = word_cut (g.S.System.outside c.args.system.now) _ _ c.args.words c.in-Err.ensures.made

pub returns-in-Err-clause-cause : goal.returns-in-Err-clause-cause
returns-in-Err-clause-cause g c = fails_at (g.S.System.outside c.args.system.now) _ c.in-Err.ensures.cause
