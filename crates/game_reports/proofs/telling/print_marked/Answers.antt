use Rattle.std.proofs.Common.{◌∷◌, [], refl}
use Rattle.move_msg.specs.TextLines.{ended}
use Rattle.answer_parts.specs.Printing.{Prints}
use Rattle.answer_parts.proofs.PrintLaws.{cuts_one, fails_at, writes_one}
use Rattle.game_reports.proofs.telling.print_marked.Goals as goal

pub returns-in-Ok-clause-made : goal.returns-in-Ok-clause-made
returns-in-Ok-clause-made g c = writes_one (g.S.System.outside c.args.system.now) _ _ (ended c.args.words) (Prints (c.args.words ∷ []) c.args.mark) c.args.mark (refl, refl) c.in-Ok.ensures.made

pub returns-in-Err-clause-made : goal.returns-in-Err-clause-made
returns-in-Err-clause-made g c = cuts_one (g.S.System.outside c.args.system.now) _ _ (ended c.args.words) c.in-Err.fault (Prints (c.args.words ∷ []) c.args.mark) c.args.mark (refl, refl) c.in-Err.ensures.made

pub returns-in-Err-clause-cause : goal.returns-in-Err-clause-cause
returns-in-Err-clause-cause g c = fails_at (g.S.System.outside c.args.system.now) _ c.in-Err.ensures.cause
