use Rattle.std.proofs.lemmas.Result.{on_ok_weaker}
use Rattle.game_status.proofs.ObjectLaws.{followed}
use Rattle.game_status.proofs.objects.add_kept.Goals as goal

pub returns : goal.returns
returns c =
    let verdict = rw c.verdict_word.ensures at c.in_ok-add_text.ensures in
    on_ok_weaker c.add_text-2.result (λ h. followed _ _ _ _ _ (followed _ _ _ _ _ c.in_ok-add_count.ensures verdict) (rw c.fault_word.ensures at h)) c.add_text-2.ensures
