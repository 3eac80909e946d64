use Rattle.std.proofs.Common.{None, refl}
use Rattle.std.proofs.lemmas.Result.{on_ok_weaker}
use Rattle.game_status.proofs.ObjectLaws.{braced, followed, last, one}
use Rattle.http_answer.proofs.plies.add_start.Goals as goal

pub returns-clause-added : goal.returns-clause-added
returns-clause-added g c =
    let (l, says, adds) = c.in_ok-add_position.ensures.added in
    let members = followed _ _ _ _ _ (followed _ _ _ _ _ c.in_ok-add_text.ensures c.in_ok-add_text-2.ensures) adds in
    on_ok_weaker c.end_object.result (λ h. (
      record { uci = None; san = None; position = c.args.start.now; line = l },
      record { uci = refl; san = refl; position = refl; line = says },
      braced _ _ _ _ _ (one _ _ _ _ c.in_ok-begin_object.ensures) members h,
    )) (last _ _ _ _ c.end_object.ensures)
