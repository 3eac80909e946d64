use Rattle.game_status.proofs.MetricLaws.{all_added}
use Rattle.game_status.proofs.metrics.metrics_text.Goals as goal

pub returns : goal.returns
returns c = all_added c.args.compares c.args.totals.now _ _ _ _ _ c.new-text.ensures.items c.in_ok-add_states.ensures c.in_ok-add_metric.ensures c.in_ok-add_metric-2.ensures c.in_ok-add_compared.ensures
