use Rattle.std.proofs.lemmas.Result.{on_ok_weaker}
use Rattle.game_status.specs.StatusObjects.{second_members}
use Rattle.game_status.proofs.ObjectLaws.{lack_if, stand_if}
use Rattle.game_status.proofs.objects.add_second_if.Goals as goal

pub returns-then-compares : goal.returns-then-compares
returns-then-compares c = on_ok_weaker c.add_second.result (λ h. stand_if c.args.compares (second_members c.args.look.now) _ _ c.if-compares.true h) c.add_second.ensures

pub returns-else-compares : goal.returns-else-compares
returns-else-compares c = lack_if c.args.compares (second_members c.args.look.now) c.args.text.now c.if-compares.false
