use Rattle.std.proofs.Common.{refl}
use Rattle.answer_commands.proofs.StoreLaws.{asked}
use Rattle.answer_commands.proofs.store_reading.ask.Goals as goal

pub returns-in-Ok : goal.returns-in-Ok
returns-in-Ok g c = asked (g.S.System.outside c.args.system.now) _ _ c.args.folder.now _ _ refl c.in-Ok.ensures

pub returns : goal.returns
returns g c = asked (g.S.System.outside c.args.system.now) _ _ c.args.folder.now _ _ refl c.in-Err.ensures
