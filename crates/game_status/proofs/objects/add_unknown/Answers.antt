use Rattle.std.proofs.lemmas.Result.{on_ok_weaker}
use Rattle.game_status.proofs.ObjectLaws.{followed}
use Rattle.game_status.proofs.objects.add_unknown.Goals as goal

pub returns : goal.returns
returns c = on_ok_weaker c.add_kept.result (λ h. followed _ _ _ _ _ (followed _ _ _ _ _ c.in_ok-add_text.ensures c.in_ok-add_text-2.ensures) h) c.add_kept.ensures
