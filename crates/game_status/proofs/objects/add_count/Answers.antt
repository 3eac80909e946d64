use Rattle.std.specs.Fmt.{decimal}
use Rattle.std.proofs.lemmas.Result.{on_ok_weaker}
use Rattle.json.specs.Json.{null, number}
use Rattle.game_status.proofs.ObjectLaws.{last, one, valued}
use Rattle.game_status.proofs.objects.add_count.Goals as goal

pub returns-in-Some : goal.returns-in-Some
returns-in-Some c = rw c.in-Some.is (on_ok_weaker c.u64.result (λ h. valued _ _ _ c.args.name.now (number (decimal c.in-Some.value)) (one _ _ _ _ c.in_ok-key.ensures) h) (last _ _ _ _ c.u64.ensures))

pub returns-in-None : goal.returns-in-None
returns-in-None c = rw c.in-None.is (on_ok_weaker c.null.result (λ h. valued _ _ _ c.args.name.now null (one _ _ _ _ c.in_ok-key.ensures) h) (last _ _ _ _ c.null.ensures))
