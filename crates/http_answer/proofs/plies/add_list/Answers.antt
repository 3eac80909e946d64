use Rattle.std.specs.Prelude.{codes}
use Rattle.std.proofs.lemmas.Result.{on_ok_weaker}
use Rattle.game_status.proofs.ObjectLaws.{last, one}
use Rattle.http_answer.proofs.PlyLaws.{listed}
use Rattle.http_answer.proofs.plies.add_list.Goals as goal

pub returns-clause-added : goal.returns-clause-added
returns-clause-added g c =
    let (ts, are, wrote) = c.in_ok-add_plies.ensures.added in
    on_ok_weaker c.end_array.result (λ h. (ts, are, listed _ _ _ _ _ (codes "plies") ts (one _ _ _ _ c.in_ok-key.ensures) (one _ _ _ _ c.in_ok-begin_array.ensures) wrote h)) (last _ _ _ _ c.end_array.ensures)
