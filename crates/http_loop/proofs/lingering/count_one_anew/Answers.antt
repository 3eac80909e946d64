use Rattle.std.proofs.Common.{refl}
use Rattle.http_loop.proofs.LingerLaws.{times_written}
use Rattle.http_loop.proofs.lingering.count_one_anew.Goals as goal

pub returns-in-Some-clause-times : goal.returns-in-Some-clause-times
returns-in-Some-clause-times c = times_written _ _ c.args.place _ c.args.now refl refl
