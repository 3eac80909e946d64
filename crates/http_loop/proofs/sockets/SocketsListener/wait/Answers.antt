use Rattle.http_loop.proofs.TimeLaws.{remain_all}
use Rattle.http_loop.proofs.sockets.SocketsListener.wait.Goals as goal

pub returns-in-Err-2-clause-lingering : goal.returns-in-Err-2-clause-lingering
returns-in-Err-2-clause-lingering c = remain_all _
