use Rattle.serve_core.proofs.ServeLaws.{has_gone, is_cut, is_stuck, out_whole}
use Rattle.serve_core.proofs.task.put_out.Goals as goal

pub returns-in-Ok-flush-clause-made : goal.returns-in-Ok-flush-clause-made
returns-in-Ok-flush-clause-made g c =
    let o = g.S.System.outside c.args.system.now in
    has_gone o _ _ c.args.text.now (out_whole o _ _ _ c.as_bytes.result.now c.args.text.now c.as_bytes.ensures.value c.in-Ok.ensures.made c.in-Ok-flush.ensures.made)

pub returns-in-Err-flush-clause-made : goal.returns-in-Err-flush-clause-made
returns-in-Err-flush-clause-made g c =
    let o = g.S.System.outside c.args.system.now in
    is_stuck o _ _ _ c.as_bytes.result.now c.args.text.now c.in-Err-flush.fault c.as_bytes.ensures.value c.in-Ok.ensures.made c.in-Err-flush.ensures.made

pub returns-in-Err-clause-made : goal.returns-in-Err-clause-made
returns-in-Err-clause-made g c =
    let o = g.S.System.outside c.args.system.now in
    is_cut o _ _ c.as_bytes.result.now c.args.text.now c.in-Err.fault c.as_bytes.ensures.value c.in-Err.ensures.made
