use Rattle.std.proofs.Common.{subst, arith}
use Rattle.std.proofs.Math.Logic.{∥∥₁_map}
use Rattle.sqlite.specs.Files.{file_state}
use Rattle.sqlite.specs.State.{HasCleanDisk}
use Rattle.sqlite.proofs.Theorems.{opens_again}
use Rattle.game_store.proofs.files.Store+FileStore+D.stop.Goals as goal

pub returns-clause-finds : goal.returns-clause-finds
returns-clause-finds g c clean left may =
    let q = c.into_store.ensures.quiet in
    ∥∥₁_map (opens_again c.into_store.result (c.into_store.ensures.numbered clean) (c.into_store.ensures.sound clean) left may)
    (λ all. (all.0, all.2, subst (λ h. (file_state h).may_leave all.0) c.into_connection.ensures.same (q.outcomes all.0 all.1)))

pub returns-clause-clean : goal.returns-clause-clean
returns-clause-clean g c clean =
    let early : HasCleanDisk (file_state c.into_connection.result) = omega (arith, c.into_store.ensures.quiet.clean) in
    subst (λ h. HasCleanDisk (file_state h)) c.into_connection.ensures.same early
