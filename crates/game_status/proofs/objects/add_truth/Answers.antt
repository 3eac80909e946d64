use Rattle.std.proofs.lemmas.Result.{on_ok_weaker}
use Rattle.json.specs.Json.{boolean, null}
use Rattle.game_status.proofs.ObjectLaws.{last, one, valued}
use Rattle.game_status.proofs.objects.add_truth.Goals as goal

pub returns-in-Some : goal.returns-in-Some
returns-in-Some c = rw c.in-Some.is (on_ok_weaker c.boolean.result (λ h. valued _ _ _ c.args.name.now (boolean c.in-Some.value) (one _ _ _ _ c.in_ok-key.ensures) h) (last _ _ _ _ c.boolean.ensures))

pub returns-in-None : goal.returns-in-None
returns-in-None c = rw c.in-None.is (on_ok_weaker c.null.result (λ h. valued _ _ _ c.args.name.now null (one _ _ _ _ c.in_ok-key.ensures) h) (last _ _ _ _ c.null.ensures))
