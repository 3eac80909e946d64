use Rattle.std.proofs.Common.{rules}
use Rattle.command_line.proofs.PutLaws.{cut_in, shown_more}
use Rattle.command_line.proofs.words.uses.put_shown.Goals as goal

pub returns-in-Err : goal.returns-in-Err
returns-in-Err g c = cut_in (g.S.System.outside c.args.system.now) _ _ _ c.args.words.now c.loop-byte.byte-index (search rules) c.loop-byte.invariant c.in-Err.ensures

pub loop-byte-preserved : goal.loop-byte-preserved
loop-byte-preserved g c = shown_more (g.S.System.outside c.args.system.now) _ _ _ c.args.words.now c.loop-byte.byte-index (search rules) c.loop-byte.invariant c.in-Ok.ensures
