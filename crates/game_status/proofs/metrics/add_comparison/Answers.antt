use Rattle.std.proofs.lemmas.Result.{on_ok_weaker}
use Rattle.game_status.proofs.MetricLaws.{two}
use Rattle.game_status.proofs.metrics.add_comparison.Goals as goal

pub returns : goal.returns
returns c = on_ok_weaker c.add_metric-2.result (λ h. two _ _ _ _ _ c.in_ok-add_metric.ensures h) c.add_metric-2.ensures
