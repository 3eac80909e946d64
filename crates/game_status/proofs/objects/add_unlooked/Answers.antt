use Rattle.std.proofs.lemmas.Result.{on_ok_weaker}
use Rattle.game_status.proofs.ObjectLaws.{followed}
use Rattle.game_status.proofs.objects.add_unlooked.Goals as goal

pub returns : goal.returns
returns c = on_ok_weaker c.add_comparison.result (λ h. followed _ _ _ _ _ c.in_ok-add_text.ensures h) c.add_comparison.ensures
