use Rattle.theorems.proofs.Ending.{sources_get_on}
use Rattle.theorems.proofs.sources.sources_get_on.Goals as goal

pub returns : goal.returns
returns g c = sources_get_on (λ lines. (g.S.System.outside c.args._system.now).lines lines)
