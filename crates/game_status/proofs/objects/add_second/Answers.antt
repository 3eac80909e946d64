use Rattle.std.proofs.lemmas.Result.{on_ok_weaker}
use Rattle.game_status.proofs.ObjectLaws.{followed}
use Rattle.game_status.proofs.objects.add_second.Goals as goal

pub returns-in_ok-add_other_fault-in-OtherAtFault : goal.returns-in_ok-add_other_fault-in-OtherAtFault
returns-in_ok-add_other_fault-in-OtherAtFault c = rw c.in-OtherAtFault.is (on_ok_weaker c.add_comparison.result (λ h. followed _ _ _ _ _ c.in_ok-add_other_fault-in-OtherAtFault.ensures h) c.add_comparison.ensures)
