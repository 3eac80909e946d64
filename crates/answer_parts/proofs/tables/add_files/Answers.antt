use Rattle.std.proofs.Common.{map, sym, ◌∙◌, arith}
use Rattle.std.proofs.lemmas.List.{at_drop_all}
use Rattle.move_msg.specs.Files.{table_file_of}
use Rattle.answer_parts.specs.Looks.{look_at, tables_from_looks}
use Rattle.answer_parts.proofs.TableLaws.{goes_on, is_refused, none_left}
use Rattle.answer_parts.proofs.tables.add_files.Goals as goal

pub returns-in-Err-clause-tables : goal.returns-in-Err-clause-tables
returns-in-Err-clause-tables c =
    is_refused table_file_of look_at c.args.files.now c.loop-file.file-index c.file-item.result c.loop-file-test.true c.file-item.is _ _ _ _ (rw (c.as_str.ensures.value, c.deref.ensures.value) at c.in_ok-found.ensures) (rw c.in-Err.is at c.in_ok-add_found.ensures.tables) c.loop-file.invariant.0

pub loop-file-preserved : goal.loop-file-preserved
loop-file-preserved c =
    (goes_on table_file_of look_at c.args.files.now c.loop-file.file-index c.file-item.result c.loop-file-test.true c.file-item.is _ _ _ _ (rw (c.as_str.ensures.value, c.deref.ensures.value) at c.in_ok-found.ensures) (rw c.in-Ok.is at c.in_ok-add_found.ensures.tables) c.loop-file.invariant.0, c.in_ok-add_found.ensures.cache ∙ c.loop-file.invariant.1)

pub returns-clause-tables : goal.returns-clause-tables
returns-clause-tables c =
    sym (none_left c.loop-file.set.tables)
    ∙ sym (at_drop_all (λ files. tables_from_looks c.loop-file.set.tables (map look_at (map table_file_of files))) c.args.files.now c.loop-file.file-index (omega arith))
    ∙ c.loop-file.invariant.0
