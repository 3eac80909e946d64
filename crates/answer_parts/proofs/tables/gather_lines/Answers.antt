use Rattle.std.proofs.Common.{◌≡◌, ◌∙◌, sym, ap, map}
use Rattle.judge_core.specs.Tables.{Holding}
use Rattle.move_msg.specs.Files.{table_file_of}
use Rattle.move_msg.specs.Manifests.{entry_of}
use Rattle.answer_parts.specs.Looks.{look_for, no_tables, tables_from_looks}
use Rattle.answer_parts.specs.Refusals.{filled_unless_refused}
use Rattle.answer_parts.proofs.tables.gather_lines.Goals as goal

pub returns-in-Ok-clause-tables : goal.returns-in-Ok-clause-tables
returns-in-Ok-clause-tables c =
    let empty : c.in_ok-set.set.tables ≡ no_tables = ap (λ (s : Holding). s.tables) c.in_ok-set.ensures in
    sym (ap (λ added. filled_unless_refused added c.add_lines.new.set.tables) c.in-Ok.is) ∙ c.in_ok-add_lines.ensures.tables
    ∙ ap (λ tables. tables_from_looks tables (map (look_for (map table_file_of c.args.files.now)) (map entry_of c.args.lines.now))) empty

pub returns-clause-tables : goal.returns-clause-tables
returns-clause-tables c =
    let empty : c.in_ok-set.set.tables ≡ no_tables = ap (λ (s : Holding). s.tables) c.in_ok-set.ensures in
    sym (ap (λ added. filled_unless_refused added c.add_lines.new.set.tables) c.in-Err.is) ∙ c.in_ok-add_lines.ensures.tables
    ∙ ap (λ tables. tables_from_looks tables (map (look_for (map table_file_of c.args.files.now)) (map entry_of c.args.lines.now))) empty
