use Rattle.san_text.proofs.Meant.{mover_fault}
use Rattle.san_text.proofs.reading.man_move.Goals as goal

pub returns-in-Err-clause-err : goal.returns-in-Err-clause-err
returns-in-Err-clause-err c = mover_fault _ _ c.in-Err.fault c.in-Err.ensures.err
