use Rattle.std.proofs.lemmas.Result.{on_ok_weaker}
use Rattle.std.specs.Prelude.{Some, codes}
use Rattle.game_status.specs.StatusObjects.{unknown_members}
use Rattle.game_status.proofs.ObjectLaws.{last, object_valued, one}
use Rattle.game_status.proofs.objects.add_other_fault.Goals as goal

pub returns : goal.returns
returns c =
    on_ok_weaker c.end_object.result (λ h. object_valued _ _ _ _ _ (codes "other") (unknown_members (Some c.args.fault)) (one _ _ _ _ c.in_ok-key.ensures) (one _ _ _ _ c.in_ok-begin_object.ensures) c.in_ok-add_unknown.ensures h) (last _ _ _ _ c.end_object.ensures)
