use Rattle.std.proofs.Common.{◌∙◌, sym}
use Rattle.host_commands.proofs.LookLaws.{in_file, in_neither, in_store, not_there, unseen}
use Rattle.host_commands.proofs.arriving.look_at.Goals as goal

pub returns-then-is_some : goal.returns-then-is_some
returns-then-is_some g c =
    let found = rw c.as_bytes.ensures.bytes at c.find.ensures.found in
    let made = rw c.as_bytes.ensures.bytes at c.find.ensures.made in
    in_store (g.S.System.outside c.args.system.now) c.args.folder.now c.args.store.now c.args.stamp _ _ c.find.result (sym c.is_some.ensures ∙ c.if-is_some.true) found made

pub returns-in-Ok-Some : goal.returns-in-Ok-Some
returns-in-Ok-Some g c =
    let o = g.S.System.outside c.args.system.now in
    let found = rw c.as_bytes.ensures.bytes at c.find.ensures.found in
    let made = rw c.as_bytes.ensures.bytes at c.find.ensures.made in
    let none = not_there o c.args.folder.now c.args.store.now c.args.stamp _ _ c.find.result (sym c.is_some.ensures ∙ c.if-is_some.false) found made in
    in_file o c.args.folder.now c.args.store.now c.args.stamp _ _ _ c.in-Ok-Some.entry none.0 none.1 (rw c.in-Ok-Some.field-0-is at c.in-Ok-Some.ensures)

pub returns-in-Ok-None : goal.returns-in-Ok-None
returns-in-Ok-None g c =
    let o = g.S.System.outside c.args.system.now in
    let found = rw c.as_bytes.ensures.bytes at c.find.ensures.found in
    let made = rw c.as_bytes.ensures.bytes at c.find.ensures.made in
    let none = not_there o c.args.folder.now c.args.store.now c.args.stamp _ _ c.find.result (sym c.is_some.ensures ∙ c.if-is_some.false) found made in
    in_neither o c.args.folder.now c.args.store.now c.args.stamp _ _ _ none.0 none.1 (rw c.in-Ok-None.field-0-is at c.in-Ok-None.ensures)

pub returns-in-Err : goal.returns-in-Err
returns-in-Err g c =
    let o = g.S.System.outside c.args.system.now in
    let found = rw c.as_bytes.ensures.bytes at c.find.ensures.found in
    let made = rw c.as_bytes.ensures.bytes at c.find.ensures.made in
    let none = not_there o c.args.folder.now c.args.store.now c.args.stamp _ _ c.find.result (sym c.is_some.ensures ∙ c.if-is_some.false) found made in
    unseen o c.args.folder.now c.args.store.now c.args.stamp _ _ _ c.in-Err.refusal none.1 c.in-Err.ensures
