use Rattle.std.proofs.Common.{◌++◌, [], ◌∷◌}
use Rattle.command_line.specs.Uses.{shown_bytes}
use Rattle.command_line.proofs.PutLaws.{cut_before, then_put}
use Rattle.command_line.proofs.words.uses.put_line.Goals as goal

pub returns-in-Ok : goal.returns-in-Ok
returns-in-Ok g c = then_put (g.S.System.outside c.args.system.now) _ _ _ (shown_bytes (c.args.front.now ++ c.args.middle.now ++ c.args.rest.now)) (10 ∷ []) c.put.result c.in-Ok.ensures c.put.ensures

pub returns-in-Err : goal.returns-in-Err
returns-in-Err g c = cut_before (g.S.System.outside c.args.system.now) _ _ (shown_bytes (c.args.front.now ++ c.args.middle.now ++ c.args.rest.now)) (10 ∷ []) c.in-Err.ensures
