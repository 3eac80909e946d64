use Rattle.std.proofs.Common.{◌∷◌, [], refl}
use Rattle.move_msg.specs.TextLines.{ended}
use Rattle.answer_parts.specs.Printing.{Prints}
use Rattle.answer_parts.specs.Reply.{status_if}
use Rattle.game_status.specs.Tellings.{are_well, sums_words}
use Rattle.answer_parts.proofs.PrintLaws.{cuts_one, fails_at, writes_one}
use Rattle.game_reports.proofs.telling.print_sums.Goals as goal

pub returns-in-Ok-clause-made : goal.returns-in-Ok-clause-made
returns-in-Ok-clause-made g c =
    let words = sums_words c.args.compares c.args.sums.now in
    let status = status_if (are_well c.args.sums.now) in
    rw (c.status_if.ensures, c.are_well.ensures) (writes_one (g.S.System.outside c.args.system.now) _ _ (ended words) (Prints (words ∷ []) status) status (refl, refl) (rw c.sums_line.ensures at c.in-Ok.ensures.made))

pub returns-in-Err-clause-made : goal.returns-in-Err-clause-made
returns-in-Err-clause-made g c =
    let words = sums_words c.args.compares c.args.sums.now in
    let status = status_if (are_well c.args.sums.now) in
    cuts_one (g.S.System.outside c.args.system.now) _ _ (ended words) c.in-Err.fault (Prints (words ∷ []) status) status (refl, refl) (rw c.sums_line.ensures at c.in-Err.ensures.made)

pub returns-in-Err-clause-cause : goal.returns-in-Err-clause-cause
returns-in-Err-clause-cause g c = fails_at (g.S.System.outside c.args.system.now) _ c.in-Err.ensures.cause
