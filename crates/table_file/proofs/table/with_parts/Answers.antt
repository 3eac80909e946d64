use Rattle.std.proofs.Common.{sym}
use Rattle.table_file.proofs.PartsRead.{maps_for_each}
use Rattle.table_file.proofs.Opening.{no_parts, no_maps, with_mapped}
use Rattle.table_file.proofs.table.with_parts.Goals as goal

pub returns-in-Err : goal.returns-in-Err
returns-in-Err c = no_parts c.args.kind c.args.material c.args.bytes.now c.in-Err.fault c.in-Err.ensures.is

pub returns-in-Err-all_maps : goal.returns-in-Err-all_maps
returns-in-Err-all_maps c =
    no_maps c.args.kind c.args.material c.args.bytes.now (c.in-Ok.read.0.items, c.in-Ok.read.1.now) c.in-Err-all_maps.fault c.in-Ok.ensures.is (rw c.deref.ensures.value at c.in-Err-all_maps.ensures)

pub with_sections-requires-clause-maps : goal.with_sections-requires-clause-maps
with_sections-requires-clause-maps c =
    maps_for_each c.args.kind c.in-Ok.read.0.items c.in-Ok.read.1.now (c.in-Ok-all_maps.read.0.items, c.in-Ok-all_maps.read.1.now) (rw c.deref.ensures.value at c.in-Ok-all_maps.ensures)

pub returns : goal.returns
returns c =
    let whole = sym (with_mapped c.args.kind c.args.material c.args.bytes.now (c.in-Ok.read.0.items, c.in-Ok.read.1.now) (c.in-Ok-all_maps.read.0.items, c.in-Ok-all_maps.read.1.now) c.in-Ok.ensures.is (rw c.deref.ensures.value at c.in-Ok-all_maps.ensures)) in
    rw whole c.with_sections.ensures
