use Rattle.std.proofs.lemmas.Result.{on_ok_weaker}
use Rattle.json.specs.Json.{null, string}
use Rattle.game_status.proofs.ObjectLaws.{last, one, valued}
use Rattle.game_status.proofs.objects.add_text.Goals as goal

pub returns-in-Some : goal.returns-in-Some
returns-in-Some c = rw c.in-Some.is (on_ok_weaker c.string.result (λ h. valued _ _ _ c.args.name.now (string c.in-Some.value.now) (one _ _ _ _ c.in_ok-key.ensures) h) (last _ _ _ _ c.string.ensures))

pub returns-in-None : goal.returns-in-None
returns-in-None c = rw c.in-None.is (on_ok_weaker c.null.result (λ h. valued _ _ _ c.args.name.now null (one _ _ _ _ c.in_ok-key.ensures) h) (last _ _ _ _ c.null.ensures))
