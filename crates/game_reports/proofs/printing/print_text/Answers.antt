use Rattle.std.proofs.Common.{refl}
use Rattle.answer_parts.proofs.PrintLaws.{cuts_one, fails_at, writes_one}
use Rattle.game_reports.specs.Writing.{WritesText}
use Rattle.game_reports.proofs.printing.print_text.Goals as goal

pub returns-in-Ok-clause-made : goal.returns-in-Ok-clause-made
returns-in-Ok-clause-made g c = writes_one (g.S.System.outside c.args.system.now) _ _ c.args.text.now (WritesText c.args.text.now) 0 (refl, refl) c.in-Ok.ensures.made

pub returns-in-Err-clause-made : goal.returns-in-Err-clause-made
returns-in-Err-clause-made g c = cuts_one (g.S.System.outside c.args.system.now) _ _ c.args.text.now c.in-Err.fault (WritesText c.args.text.now) 0 (refl, refl) c.in-Err.ensures.made

pub returns-in-Err-clause-cause : goal.returns-in-Err-clause-cause
returns-in-Err-clause-cause g c = fails_at (g.S.System.outside c.args.system.now) _ c.in-Err.ensures.cause
