use Rattle.system_io.specs.TraceLaws.{as_told}
use Rattle.system_io.proofs.call_log.read_as_told.Goals as goal

pub returns : goal.returns
returns g c = λ read told a b h. as_told g.C.FileCalls.facts c.args.left.now read a b told h
