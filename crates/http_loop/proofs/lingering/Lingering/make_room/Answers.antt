use Rattle.http_loop.proofs.LingerLaws.{remain_behind}
use Rattle.http_loop.proofs.TimeLaws.{remain_all}
use Rattle.http_loop.proofs.lingering.Lingering.make_room.Goals as goal

pub returns-then-len-ge-LINGERING-clause-lingering : goal.returns-then-len-ge-LINGERING-clause-lingering
returns-then-len-ge-LINGERING-clause-lingering c = remain_behind _ _ _ c.pop_front.ensures.items

pub returns-else-len-ge-LINGERING-clause-lingering : goal.returns-else-len-ge-LINGERING-clause-lingering
returns-else-len-ge-LINGERING-clause-lingering c = remain_all _
