use Rattle.std.proofs.Common.{map, sym, ◌∙◌, arith}
use Rattle.std.proofs.lemmas.List.{at_drop_all}
use Rattle.move_msg.specs.Manifests.{entry_of}
use Rattle.move_msg.specs.Files.{table_file_of}
use Rattle.answer_parts.specs.Looks.{look_for, tables_from_looks}
use Rattle.answer_parts.proofs.TableLaws.{goes_on, is_refused, none_left}
use Rattle.answer_parts.proofs.tables.add_lines.Goals as goal

pub returns-in-Err-clause-tables : goal.returns-in-Err-clause-tables
returns-in-Err-clause-tables c =
    is_refused entry_of (look_for (map table_file_of c.args.files.now)) c.args.lines.now c.loop-line.line-index c.line-item.result c.loop-line-test.true c.line-item.is _ _ _ _ c.in_ok-found.ensures (rw c.in-Err.is at c.in_ok-add_found.ensures.tables) c.loop-line.invariant.0

pub loop-line-preserved : goal.loop-line-preserved
loop-line-preserved c =
    (goes_on entry_of (look_for (map table_file_of c.args.files.now)) c.args.lines.now c.loop-line.line-index c.line-item.result c.loop-line-test.true c.line-item.is _ _ _ _ c.in_ok-found.ensures (rw c.in-Ok.is at c.in_ok-add_found.ensures.tables) c.loop-line.invariant.0, c.in_ok-add_found.ensures.cache ∙ c.loop-line.invariant.1)

pub returns-clause-tables : goal.returns-clause-tables
returns-clause-tables c =
    sym (none_left c.loop-line.set.tables)
    ∙ sym (at_drop_all (λ lines. tables_from_looks c.loop-line.set.tables (map (look_for (map table_file_of c.args.files.now)) (map entry_of lines))) c.args.lines.now c.loop-line.line-index (omega arith))
    ∙ c.loop-line.invariant.0
