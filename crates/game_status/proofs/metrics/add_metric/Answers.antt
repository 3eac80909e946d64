use Rattle.std.proofs.lemmas.Result.{on_ok_weaker}
use Rattle.game_status.proofs.MetricLaws.{two}
use Rattle.game_status.proofs.metrics.add_metric.Goals as goal

pub returns : goal.returns
returns c = on_ok_weaker c.add_sample.result (λ h. two _ _ _ _ _ c.in_ok-add_gauge.ensures h) c.add_sample.ensures
