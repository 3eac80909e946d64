use Rattle.std.proofs.Common.{append-nil, sym}
use Rattle.std.proofs.lemmas.Result.{on_ok_weaker}
use Rattle.game_status.proofs.MetricLaws.{compared_is}
use Rattle.game_status.proofs.metrics.add_compared.Goals as goal

pub returns-then-compares : goal.returns-then-compares
returns-then-compares c = on_ok_weaker c.add_comparison.result (λ h. compared_is c.args.compares c.args.totals.now _ _ c.if-compares.true h) c.add_comparison.ensures

pub returns-else-compares : goal.returns-else-compares
returns-else-compares c = rw c.if-compares.false (sym (append-nil _))
