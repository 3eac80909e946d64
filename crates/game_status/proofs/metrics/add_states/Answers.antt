use Rattle.std.proofs.lemmas.Result.{on_ok_weaker}
use Rattle.game_status.proofs.MetricLaws.{states_added}
use Rattle.game_status.proofs.metrics.add_states.Goals as goal

pub returns : goal.returns
returns c = on_ok_weaker c.add_sample-4.result (λ h. states_added c.args.totals.now _ _ _ _ _ _ c.in_ok-add_gauge.ensures c.in_ok-add_sample.ensures c.in_ok-add_sample-2.ensures c.in_ok-add_sample-3.ensures h) c.add_sample-4.ensures
