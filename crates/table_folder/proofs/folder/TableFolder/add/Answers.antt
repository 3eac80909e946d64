use Rattle.std.proofs.Common.{◌≡◌, ◌<◌, Some, slice_set, arith}
use Rattle.judge_core.specs.Tables.{slot}
use Rattle.table_folder.proofs.Adding.{at_slot, taken, titled}
use Rattle.table_folder.proofs.Reading.{opens_by, opens_for_err, opens_no_more, opens_refused}
use Rattle.table_folder.proofs.folder.TableFolder.add.Goals as goal

pub returns-clause-added : goal.returns-clause-added
returns-clause-added g c =
    let says = rw c.in-Ok.is at c.in_ok-table.ensures.says in
    let known : c.args.missing.material < 145 = omega (arith, c.key-key.ensures.is, c.key-key.ensures.below) in
    let title = titled c.reads_what_is_laid_out.ensures c.names_differ.ensures _ _ _ c.args.missing.material c.in-Ok.table known says in
    let put : c.add.new.self ≡ record c.args.set.now { tables = slice_set c.args.set.now.tables (slot c.in-Ok.table.kind c.in-Ok.table.material) (Some c.in-Ok.table) } = taken c.add.result _ _ _ _ _ title.0 title.1 c.requires.lacks c.add.ensures.duplicate.0 c.add.ensures.no_memory c.add.ensures.added in
    record { table = c.in-Ok.table; says = says; put = at_slot _ _ title.0 title.1 put }

pub returns-in_err-table-clause-made : goal.returns-in_err-table-clause-made
returns-in_err-table-clause-made g c =
    let known : c.args.missing.material < 145 = omega (arith, c.key-key.ensures.is, c.key-key.ensures.below) in
    opens_for_err _ _ _ _ c.from_residual.result c.in_err-table.field-0.0 _ _ c.from_residual.ensures.0 (opens_no_more _ _ _ c.args.missing.kind c.args.missing.material _ _ _ known c.requires.lacks c.in_err-table.ensures.made)

pub returns-in-Err-clause-made : goal.returns-in-Err-clause-made
returns-in-Err-clause-made g c = opens_refused _ _ _ _ _ _ _ c.file_name-name.ensures (rw c.in-Err.is at c.in_ok-table.ensures.made)

pub returns-clause-made : goal.returns-clause-made
returns-clause-made g c =
    let says = rw c.in-Ok.is at c.in_ok-table.ensures.says in
    let known : c.args.missing.material < 145 = omega (arith, c.key-key.ensures.is, c.key-key.ensures.below) in
    let title = titled c.reads_what_is_laid_out.ensures c.names_differ.ensures _ _ _ c.args.missing.material c.in-Ok.table known says in
    let put : c.add.new.self ≡ record c.args.set.now { tables = slice_set c.args.set.now.tables (slot c.in-Ok.table.kind c.in-Ok.table.material) (Some c.in-Ok.table) } = taken c.add.result _ _ _ _ _ title.0 title.1 c.requires.lacks c.add.ensures.duplicate.0 c.add.ensures.no_memory c.add.ensures.added in
    opens_by _ _ c.args.set.now.tables c.add.new.self.tables c.args.missing.kind c.args.missing.material c.in-Ok.table _ _ known c.requires.slots c.requires.lacks (at_slot _ _ title.0 title.1 put) (rw c.in-Ok.is at c.in_ok-table.ensures.made)
