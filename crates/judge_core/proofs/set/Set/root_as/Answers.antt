use Rattle.std.proofs.Common.{◌∙◌, rules, sym}
use Rattle.std.proofs.lemmas.List.Sorted.{answers_always}
use Rattle.judge_core.specs.Root.{move_rank}
use Rattle.judge_core.specs.Inside.Determined.{value_as, reach_as}
use Rattle.judge_core.proofs.RootList.{is_root}
use Rattle.judge_core.proofs.set.Set.root_as.Goals as goal

pub returns-clause-moves : goal.returns-clause-moves
returns-clause-moves c = (
  sym c.is_out_of_scope.ensures.is ∙ c.if-is_out_of_scope.false,
  is_root (value_as c.args.ask c.args.self.now.tables) (reach_as c.args.ask c.args.self.now.tables) c.args.position.now c.in_ok-moves.moves.items _ c.in_ok-moves.ensures.is c.in_ok-sort_by_key.ensures.permutation
      (c.in_ok-sort_by_key.ensures.sorted move_rank (answers_always _ _ _ (λ f a r g h. search rules)))
      (c.in_ok-sort_by_key.ensures.stable move_rank (answers_always _ _ _ (λ f a r g h. search rules))),
)
