use Rattle.std.proofs.lemmas.Result.{on_ok_weaker}
use Rattle.game_status.proofs.MetricLaws.{gauge_added}
use Rattle.game_status.proofs.metrics.add_gauge.Goals as goal

pub returns : goal.returns
returns c = on_ok_weaker c.add-7.result (λ h. gauge_added _ _ _ _ _ _ _ _ c.args.name.now c.args.help.now c.in_ok-add.ensures c.in_ok-add-2.ensures c.in_ok-add-3.ensures c.in_ok-add-4.ensures c.in_ok-add-5.ensures c.in_ok-add-6.ensures h) c.add-7.ensures
