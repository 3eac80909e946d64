use Rattle.std.proofs.lemmas.Result.{on_ok_weaker}
use Rattle.game_status.proofs.ObjectLaws.{followed}
use Rattle.http_answer.proofs.plies.add_move.Goals as goal

pub returns : goal.returns
returns c =
    let uci = rw (c.as_str.ensures.value, c.write_move.ensures) at c.in_ok-add_text.ensures in
    on_ok_weaker c.add_text-2.result (λ h. followed _ _ _ _ _ uci h) c.add_text-2.ensures
