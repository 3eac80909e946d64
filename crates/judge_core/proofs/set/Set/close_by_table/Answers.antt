use Rattle.std.proofs.Common.{◌∙◌, ap}
use Rattle.judge_core.specs.Known.{known_of}
use Rattle.judge_core.specs.Probing.{worth_in}
use Rattle.judge_core.specs.Tables.{table_value}
use Rattle.judge_core.proofs.Readings.{with_own}
use Rattle.judge_core.proofs.set.Set.close_by_table.Goals as goal

pub returns-clause-is : goal.returns-clause-is
returns-clause-is c =
    c.worth_in.ensures
    ∙ ap worth_in
    (with_own c.args.self.now.tables (known_of c.args.self.now.tables) c.args.position.now _ _ _ _ c.requires (c.table_value-own.ensures.is ∙ ap (table_value c.args.self.now.tables) c.of.ensures) c.is_forced.ensures c.close.ensures)
