use Rattle.source_core.proofs.OutLaws.{line_cut, line_written}
use Rattle.source_core.proofs.lines.print_now.Goals as goal

pub returns-in-Ok-clause-made : goal.returns-in-Ok-clause-made
returns-in-Ok-clause-made g c =
    let o = g.S.System.outside c.args.system.now in
    rw (← c.words_of.ensures) (line_written o _ _ _ c.words_of.result c.flush.result c.in-Ok.ensures.made c.flush.ensures.made)

pub returns-in-Err-clause-made : goal.returns-in-Err-clause-made
returns-in-Err-clause-made g c =
    let o = g.S.System.outside c.args.system.now in
    rw (← c.words_of.ensures) (line_cut o _ _ c.args.timeline.now c.words_of.result c.in-Err.fault c.in-Err.fault c.in-Err.ensures.made)
