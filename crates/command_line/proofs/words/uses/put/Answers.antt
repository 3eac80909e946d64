use Rattle.command_line.proofs.PutLaws.{put_so}
use Rattle.command_line.proofs.words.uses.put.Goals as goal

pub returns : goal.returns
returns g c = put_so (g.S.System.outside c.args.system.now) _ _ c.args.bytes.now c.write.result c.write.ensures.made c.write.ensures.cause
