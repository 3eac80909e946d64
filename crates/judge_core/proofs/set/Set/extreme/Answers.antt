use Rattle.judge_core.proofs.Completed.{extreme-is}
use Rattle.judge_core.proofs.set.Set.extreme.Goals as goal

pub returns-clause-is : goal.returns-clause-is
returns-clause-is c = extreme-is c.args.self.now.tables c.args.probe.now _ c.args.odd_wins c.table_value-own.result c.men.result c.fill.result c.in_stead.result c.table_value-own.ensures.is c.position.ensures.is c.men.ensures.computed c.fill.ensures c.in_stead.ensures
