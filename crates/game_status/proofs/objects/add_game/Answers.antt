use Rattle.std.proofs.lemmas.Result.{on_ok_weaker}
use Rattle.game_status.proofs.ObjectLaws.{braced, followed, last, one}
use Rattle.game_status.proofs.objects.add_game.Goals as goal

pub returns : goal.returns
returns c =
    let members = followed _ _ _ _ _ (followed _ _ _ _ _ c.in_ok-add_stamp.ensures c.in_ok-add_first.ensures) c.in_ok-add_second_if.ensures in
    on_ok_weaker c.end_object.result (λ h. braced _ _ _ _ _ (one _ _ _ _ c.in_ok-begin_object.ensures) members h) (last _ _ _ _ c.end_object.ensures)
