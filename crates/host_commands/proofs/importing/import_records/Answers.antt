use Rattle.host_commands.proofs.ImportLaws.{all_imported, not_listed, not_put, not_seen}
use Rattle.host_commands.proofs.importing.import_records.Goals as goal

pub returns-in-Err-clause-made : goal.returns-in-Err-clause-made
returns-in-Err-clause-made g c = not_listed (g.S.System.outside c.args.system.now) c.args.folder.now c.args.store.now c.args.store.now _ _ c.in-Err.refusal c.in-Err.ensures

pub returns-in-Err-look_at_all-clause-made : goal.returns-in-Err-look_at_all-clause-made
returns-in-Err-look_at_all-clause-made g c =
    not_seen (g.S.System.outside c.args.system.now) c.args.folder.now c.args.store.now c.args.store.now _ _ _ c.in-Ok.stamps c.in-Err-look_at_all.refusal c.in-Ok.ensures (rw c.deref.ensures.value at c.in-Err-look_at_all.ensures)

pub returns-in-Ok-put_coming-clause-made : goal.returns-in-Ok-put_coming-clause-made
returns-in-Ok-put_coming-clause-made g c =
    all_imported (g.S.System.outside c.args.system.now) c.args.folder.now c.args.store.now c.put_coming.new.store _ _ _ _ c.in-Ok.stamps c.in-Ok-look_at_all.coming c.in-Ok.ensures (rw c.deref.ensures.value at c.in-Ok-look_at_all.ensures) c.in-Ok-put_coming.ensures.made

pub returns-clause-made : goal.returns-clause-made
returns-clause-made g c =
    not_put (g.S.System.outside c.args.system.now) c.args.folder.now c.args.store.now c.put_coming.new.store _ _ _ _ c.in-Ok.stamps c.in-Ok-look_at_all.coming c.in-Err-put_coming.refusal c.in-Ok.ensures (rw c.deref.ensures.value at c.in-Ok-look_at_all.ensures) c.in-Err-put_coming.ensures.made
