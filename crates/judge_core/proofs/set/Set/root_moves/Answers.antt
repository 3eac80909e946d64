use Rattle.std.proofs.Common.{◌++◌, ◌∙◌, ap, option_to_list}
use Rattle.judge_core.specs.Root.{root_move_at}
use Rattle.judge_core.specs.Inside.Determined.{value_as, reach_as}
use Rattle.judge_core.specs.Tables.{Holding}
use Rattle.board_core.specs.Moves.{IsLegal}
use Rattle.judge_core.proofs.Asking.{at_item}
use Rattle.judge_core.proofs.RootList.{one_longer, root-all}
use Rattle.judge_core.proofs.set.Set.root_moves.Goals as goal

pub add_root_move-requires : goal.add_root_move-requires
add_root_move-requires c = at_item (IsLegal c.args.position.now) c.in_ok-moves.moves.items c.deref-m-items.result.now c.loop-m.m-index c.m-item.result c.in_ok-moves.ensures.legal.sound c.deref-m-items.ensures.value c.loop-m-test.true c.m-item.is

pub loop-m-preserved : goal.loop-m-preserved
loop-m-preserved c =
    let added = c.in_ok-add_root_move.ensures.added ∙ ap (λ (h : Holding). c.loop-m.found.items ++ option_to_list (root_move_at (value_as c.args.ask h.tables) (reach_as c.args.ask h.tables) c.args.position.now c.m-item.result)) c.loop-m.invariant.1 in (
      one_longer (value_as c.args.ask c.args.self.now.tables) (reach_as c.args.ask c.args.self.now.tables) c.args.position.now c.deref-m-items.result.now c.loop-m.m-index c.m-item.result c.loop-m.found.items _ c.loop-m-test.true c.m-item.is c.loop-m.invariant.0 added,
      c.add_root_move.ensures.unchanged ∙ c.loop-m.invariant.1,
    )

pub returns-clause-is : goal.returns-clause-is
returns-clause-is c =
    root-all (value_as c.args.ask c.args.self.now.tables) (reach_as c.args.ask c.args.self.now.tables) c.args.position.now c.deref-m-items.result.now c.loop-m.m-index c.loop-m.found.items c.loop-m-test.false (c.deref-m-items.ensures.value ∙ c.in_ok-moves.ensures.computed) c.loop-m.invariant.0
