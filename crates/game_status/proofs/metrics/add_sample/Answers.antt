use Rattle.std.proofs.lemmas.Result.{on_ok_weaker}
use Rattle.game_status.proofs.MetricLaws.{sample_added}
use Rattle.game_status.proofs.metrics.add_sample.Goals as goal

pub returns : goal.returns
returns c = on_ok_weaker c.add-3.result (λ h. sample_added _ _ _ _ _ c.args.series.now c.args.number c.in_ok-add.ensures c.in_ok-add-2.ensures c.in_ok-add_number.ensures h) c.add-3.ensures
