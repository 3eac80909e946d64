use Rattle.std.proofs.lemmas.Result.{on_ok_weaker}
use Rattle.game_status.proofs.ObjectLaws.{braced, followed, last, one}
use Rattle.http_answer.proofs.plies.add_game.Goals as goal

pub returns-clause-added : goal.returns-clause-added
returns-clause-added g c =
    let (ts, are, wrote) = c.in_ok-add_list.ensures.added in
    let delay = rw c.delay_of.ensures at c.in_ok-add_count.ensures in
    let first = followed _ _ _ _ _ c.in_ok-add_stamp.ensures c.in_ok-add_first.ensures in
    let members = followed _ _ _ _ _ (followed _ _ _ _ _ (followed _ _ _ _ _ first delay) wrote) c.in_ok-add_second_if.ensures in
    on_ok_weaker c.end_object.result (λ h. (ts, are, braced _ _ _ _ _ (one _ _ _ _ c.in_ok-begin_object.ensures) members h)) (last _ _ _ _ c.end_object.ensures)
