use Rattle.http_loop.proofs.LingerLaws.{pushed_from}
use Rattle.http_loop.proofs.lingering.Lingering.push.Goals as goal

pub returns-clause-lingering : goal.returns-clause-lingering
returns-clause-lingering c = pushed_from _ _ _ (record { socket = c.args.socket; closed = c.args.now }) _ c.make_room.ensures.lingering c.push_back.ensures.items
