use Rattle.std.proofs.Common.{◌∷◌, [], inl, inr, map, refl, true, false}
use Rattle.arbiter_server.specs.ServedLines.{refused_store}
use Rattle.host_commands.specs.Imports.{AllPut, NonePut}
use Rattle.line_teller.specs.ToldLines.{refused_memory}
use Rattle.timeline.specs.Events.{Committed, stamped}
use Rattle.host_commands.proofs.importing.put_coming.Goals as goal

pub returns-in-Ok-clause-made : goal.returns-in-Ok-clause-made
returns-in-Ok-clause-made g c =
    let path = (g.S.System.outside c.args.system.now).store_path c.args.store.now in
    let put = c.in-Ok.ensures in
    (Committed path (map stamped c.args.entries.items) true ∷ [], put.made, AllPut c.commit.new.store (record { has = put.all; settled = put.kept; path = put.path }) refl refl)

pub returns-in-Err-OutOfMemory-clause-made : goal.returns-in-Err-OutOfMemory-clause-made
returns-in-Err-OutOfMemory-clause-made g c =
    let path = (g.S.System.outside c.args.system.now).store_path c.args.store.now in
    (Committed path (map stamped c.args.entries.items) false ∷ [], c.in-Err-OutOfMemory.ensures.made, NonePut refused_memory (inr refl) refl refl)

pub returns-clause-made : goal.returns-clause-made
returns-clause-made g c =
    let path = (g.S.System.outside c.args.system.now).store_path c.args.store.now in
    (Committed path (map stamped c.args.entries.items) false ∷ [], c.in-Err-Failed.ensures.made, NonePut refused_store (inl refl) refl refl)
