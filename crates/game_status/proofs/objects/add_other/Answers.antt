use Rattle.std.proofs.lemmas.Result.{on_ok_weaker}
use Rattle.std.specs.Prelude.{codes}
use Rattle.game_status.specs.StatusObjects.{side_members}
use Rattle.game_status.proofs.ObjectLaws.{last, object_valued, one}
use Rattle.game_status.proofs.objects.add_other.Goals as goal

pub returns : goal.returns
returns c =
    on_ok_weaker c.end_object.result (λ h. object_valued _ _ _ _ _ (codes "other") (side_members c.args.other.now) (one _ _ _ _ c.in_ok-key.ensures) (one _ _ _ _ c.in_ok-begin_object.ensures) c.in_ok-add_side.ensures h) (last _ _ _ _ c.end_object.ensures)
