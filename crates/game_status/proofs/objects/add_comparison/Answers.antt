use Rattle.std.proofs.lemmas.Result.{on_ok_weaker}
use Rattle.game_status.proofs.ObjectLaws.{followed}
use Rattle.game_status.proofs.objects.add_comparison.Goals as goal

pub returns : goal.returns
returns c = on_ok_weaker c.add_count-2.result (λ h. followed _ _ _ _ _ (followed _ _ _ _ _ c.in_ok-add_truth.ensures c.in_ok-add_count.ensures) h) c.add_count-2.ensures
