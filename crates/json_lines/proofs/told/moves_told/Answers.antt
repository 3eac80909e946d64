use Rattle.std.proofs.Common.{◌∙◌, subst}
use Rattle.judge_core.specs.Tables.{Holding}
use Rattle.json_lines.specs.Told.{IsMoveTold}
use Rattle.json_lines.proofs.Playing.{all_are_told, one_more_told, playable_at}
use Rattle.json_lines.proofs.told.moves_told.Goals as goal

pub add_move_told-requires : goal.add_move_told-requires
add_move_told-requires c = playable_at c.args.position.now c.args.moves.now c.loop-m.m-index c.m-item.result c.loop-m-test.true c.m-item.is c.requires

pub loop-m-preserved : goal.loop-m-preserved
loop-m-preserved c =
    let added = c.in_ok-add_move_told.ensures.added in
    let one = subst (λ (s : Holding). IsMoveTold c.args.ask s.tables c.args.position.now c.m-item.result added.0) c.loop-m.invariant.1 added.1 in (
      one_more_told c.args.ask c.args.set.now.tables c.args.position.now c.args.moves.now c.loop-m.m-index c.m-item.result c.loop-m.told.items _ added.0 c.loop-m-test.true c.m-item.is c.loop-m.invariant.0 one added.2,
      c.add_move_told.ensures.unchanged ∙ c.loop-m.invariant.1,
    )

pub returns-clause-told : goal.returns-clause-told
returns-clause-told c = all_are_told c.args.ask c.args.set.now.tables c.args.position.now c.args.moves.now c.loop-m.m-index c.loop-m.told.items c.loop-m-test.false c.loop-m.invariant.0
