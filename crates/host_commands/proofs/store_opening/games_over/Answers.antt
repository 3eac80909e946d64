use Rattle.std.proofs.Common.{ap}
use Rattle.std.specs.Prelude.{Ok}
use Rattle.host_commands.proofs.StepLaws.{alone, both}
use Rattle.host_commands.proofs.store_opening.games_over.Goals as goal

pub returns-in-Ok : goal.returns-in-Ok
returns-in-Ok g c =
    let noted = rw c.deref.ensures.value at c.note_left.ensures in
    both (g.S.System.outside c.args.system.now) _ _ _ _ _ (record { store = c.import_records.new.store; left = c.in-Ok.left.items }) (Ok c.over.result) c.in-Ok.ensures.made (noted.0, noted.1, (ap Ok c.over.ensures, noted.2))

pub returns : goal.returns
returns g c = alone (g.S.System.outside c.args.system.now) _ _ _ _ _ c.in-Err.ensures.made
