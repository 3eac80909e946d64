use Rattle.std.proofs.lemmas.Result.{on_ok_weaker}
use Rattle.game_status.proofs.ObjectLaws.{followed}
use Rattle.game_status.proofs.objects.add_totals.Goals as goal

pub returns : goal.returns
returns c =
    let two = followed _ _ _ _ _ c.in_ok-add_count.ensures c.in_ok-add_count-2.ensures in
    let four = followed _ _ _ _ _ (followed _ _ _ _ _ two c.in_ok-add_count-3.ensures) c.in_ok-add_count-4.ensures in
    on_ok_weaker c.add_count-5.result (λ h. followed _ _ _ _ _ four h) c.add_count-5.ensures
