use Rattle.std.proofs.Common.{◌∷◌, []}
use Rattle.answer_parts.proofs.PrintLaws.{prints_front, prints_whole}
use Rattle.line_teller.specs.ToldLines.{cut_words}
use Rattle.answer_parts.proofs.printing.print_unread.Goals as goal

pub returns-in-Ok-clause-made : goal.returns-in-Ok-clause-made
returns-in-Ok-clause-made g c =
    let made = rw c.unread.ensures.words at c.in-Ok.ensures.made in
    prints_whole (g.S.System.outside c.args.system.now) _ _ (cut_words c.args.fault ∷ []) 1 _ c.args.outcome made

pub returns-in-Err-clause-made : goal.returns-in-Err-clause-made
returns-in-Err-clause-made g c =
    let made = rw c.unread.ensures.words at c.in-Err.ensures.made in
    prints_front (g.S.System.outside c.args.system.now) _ _ (cut_words c.args.fault ∷ []) 1 c.args.outcome c.in-Err.fault c.in-Err.fault made
