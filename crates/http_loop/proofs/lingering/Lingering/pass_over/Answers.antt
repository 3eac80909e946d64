use Rattle.http_loop.proofs.LingerLaws.{filtered_remain}
use Rattle.http_loop.proofs.lingering.Lingering.pass_over.Goals as goal

pub returns : goal.returns
returns c = filtered_remain _ _ _ _ c.retain.ensures.filtered
