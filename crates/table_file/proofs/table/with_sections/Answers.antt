use Rattle.table_file.proofs.Opening.{table_made, no_table}
use Rattle.table_file.proofs.table.with_sections.Goals as goal

pub returns-in-Ok-opened_parts : goal.returns-in-Ok-opened_parts
returns-in-Ok-opened_parts c =
    let opened = c.in-Ok-opened_parts.ensures in
    rw (opened.parts, opened.entries, opened.lengths, opened.blocks)
    (table_made c.args.kind c.args.material c.args.parts.items c.args.maps.items c.args.bytes.now
    (record { entries = c.in-Ok.sections.entries.items; lengths = c.in-Ok.sections.lengths.items; blocks = c.in-Ok.sections.blocks.items }) (rw c.deref.ensures.value at c.in-Ok.ensures.is))

pub returns-in-Err : goal.returns-in-Err
returns-in-Err c = no_table c.args.kind c.args.material c.args.parts.items c.args.maps.items c.args.bytes.now c.in-Err.fault (rw c.deref.ensures.value at c.in-Err.ensures.is)
