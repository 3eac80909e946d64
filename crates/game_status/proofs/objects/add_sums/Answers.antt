use Rattle.std.specs.Prelude.{codes}
use Rattle.std.proofs.lemmas.Result.{on_ok_weaker}
use Rattle.game_status.proofs.ObjectLaws.{followed, last, object_valued, one}
use Rattle.game_status.proofs.objects.add_sums.Goals as goal

pub returns : goal.returns
returns c =
    let members = followed _ _ _ _ _ c.in_ok-add_totals.ensures c.in_ok-add_compared_totals_if.ensures in
    on_ok_weaker c.end_object.result (λ h. object_valued _ _ _ _ _ (codes "sums") _ (one _ _ _ _ c.in_ok-key.ensures) (one _ _ _ _ c.in_ok-begin_object.ensures) members h) (last _ _ _ _ c.end_object.ensures)
