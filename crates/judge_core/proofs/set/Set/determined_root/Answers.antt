use Rattle.judge_core.proofs.Told.{root_is_determined}
use Rattle.judge_core.proofs.set.Set.determined_root.Goals as goal

pub returns-clause-moves : goal.returns-clause-moves
returns-clause-moves c = root_is_determined c.args.self.now.tables c.args.position.now (λ v. v.items) c.root_as.result c.root_as.ensures.moves
