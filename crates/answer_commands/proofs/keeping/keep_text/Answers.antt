use Rattle.system_io.specs.declared.reading.ReadFault.TheVariants.{OutOfMemory, Unreadable}
use Rattle.answer_commands.proofs.KeepLaws.{kept_over, not_started}
use Rattle.answer_commands.proofs.keeping.keep_text.Goals as goal

pub returns-in-Ok-start : goal.returns-in-Ok-start
returns-in-Ok-start g c =
    let start = c.in-Ok-start.ensures in
    kept_over (g.S.System.outside c.args.system.now) c.args.is_new c.args.path.now c.args.text.now _ _ _ _ _ _ _ _ _ c.in-Ok.ensures.at start.path start.same start.one start.lasts start.count c.in-Ok.ensures.made start.made c.keep_over.ensures

pub returns-in-Err-Unreadable : goal.returns-in-Err-Unreadable
returns-in-Err-Unreadable g c =
    let start = c.in-Err-Unreadable.ensures in
    not_started (g.S.System.outside c.args.system.now) c.args.is_new c.args.path.now c.args.text.now _ _ _ _ _ Unreadable c.in-Err-Unreadable.field-0-is c.in-Ok.ensures.at start.cause c.in-Ok.ensures.made start.made

pub returns : goal.returns
returns g c =
    let start = c.in-Err-OutOfMemory.ensures in
    not_started (g.S.System.outside c.args.system.now) c.args.is_new c.args.path.now c.args.text.now _ _ _ _ _ OutOfMemory c.in-Err-OutOfMemory.field-0-is c.in-Ok.ensures.at start.cause c.in-Ok.ensures.made start.made
