use Rattle.std.proofs.Common.{refl}
use Rattle.std.specs.Prelude.{None, Some}
use Rattle.host_commands.proofs.StepLaws.{alone, both, given}
use Rattle.host_commands.proofs.store_opening.open_kept.Goals as goal

pub returns-in-Files : goal.returns-in-Files
returns-in-Files g c = rw c.in-Files.is (given (g.S.System.outside c.args.system.now) _ None None refl)

pub returns-in-Ok : goal.returns-in-Ok
returns-in-Ok g c =
    let o = g.S.System.outside c.args.system.now in
    rw c.in-Sqlite.is (both o _ _ _ _ _ c.in-Ok.games _ c.in-Ok.ensures (given o _ (Some c.in-Ok.games) _ refl))

pub returns-in-Err : goal.returns-in-Err
returns-in-Err g c = rw c.in-Sqlite.is (alone (g.S.System.outside c.args.system.now) _ _ _ _ _ c.in-Err.ensures)
