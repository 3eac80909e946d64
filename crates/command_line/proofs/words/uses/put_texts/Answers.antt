use Rattle.std.proofs.Common.{◌++◌}
use Rattle.command_line.proofs.PutLaws.{both_written, cut_before, second_cut, then_put}
use Rattle.command_line.proofs.words.uses.put_texts.Goals as goal

pub returns-in-Ok-put : goal.returns-in-Ok-put
returns-in-Ok-put g c =
    let o = g.S.System.outside c.args.system.now in
    then_put o _ _ _ (c.args.front.now ++ c.args.middle.now) c.args.rest.now c.put-in-Ok-put.result (both_written o _ _ _ c.args.front.now c.args.middle.now c.in-Ok.ensures c.in-Ok-put.ensures) c.put-in-Ok-put.ensures

pub returns-in-Err-put : goal.returns-in-Err-put
returns-in-Err-put g c =
    let o = g.S.System.outside c.args.system.now in
    cut_before o _ _ (c.args.front.now ++ c.args.middle.now) c.args.rest.now (second_cut o _ _ _ c.args.front.now c.args.middle.now c.in-Ok.ensures c.in-Err-put.ensures)

pub returns-in-Err : goal.returns-in-Err
returns-in-Err g c =
    let o = g.S.System.outside c.args.system.now in
    cut_before o _ _ (c.args.front.now ++ c.args.middle.now) c.args.rest.now (cut_before o _ _ c.args.front.now c.args.middle.now c.in-Err.ensures)
