use Rattle.std.proofs.Common.{refl}
use Rattle.http_loop.specs.Lingering.{lingering_at}
use Rattle.http_loop.proofs.TimeLaws.{from_same}
use Rattle.http_loop.proofs.sockets.Sockets.leave.Goals as goal

pub returns-then-is_err : goal.returns-then-is_err
returns-then-is_err c = from_same c.args.now (lingering_at c.args.self.now) _ refl
