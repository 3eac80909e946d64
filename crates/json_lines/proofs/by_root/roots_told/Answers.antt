use Rattle.std.proofs.Common.{◌∙◌, subst, sym}
use Rattle.judge_core.specs.declared.ask.Ask.TheVariants.{Strict}
use Rattle.judge_core.specs.Tables.{Holding}
use Rattle.json_lines.specs.Inside.Playing.{IsRootMoveOf}
use Rattle.json_lines.specs.Told.{IsMoveTold}
use Rattle.json_lines.proofs.ByRoot.{all_roots, one_more_root, root_at}
use Rattle.json_lines.proofs.by_root.roots_told.Goals as goal

pub add_root_told-requires : goal.add_root_told-requires
add_root_told-requires c =
    subst (λ (s : Holding). IsRootMoveOf s.tables c.args.position.now c.root-item.result) (sym c.loop-root.invariant.1)
    (root_at c.args.set.now.tables c.args.position.now c.args.roots.now c.loop-root.root-index c.root-item.result c.loop-root-test.true c.root-item.is c.requires)

pub loop-root-preserved : goal.loop-root-preserved
loop-root-preserved c =
    let added = c.in_ok-add_root_told.ensures.added in
    let one = subst (λ (s : Holding). IsMoveTold Strict s.tables c.args.position.now c.root-item.result.played added.0) c.loop-root.invariant.1 added.1 in (
      one_more_root c.args.set.now.tables c.args.position.now c.args.roots.now c.loop-root.root-index c.root-item.result c.loop-root.told.items _ added.0 c.loop-root-test.true c.root-item.is c.loop-root.invariant.0 one added.2,
      c.add_root_told.ensures.unchanged ∙ c.loop-root.invariant.1,
    )

pub returns-clause-told : goal.returns-clause-told
returns-clause-told c = all_roots c.args.set.now.tables c.args.position.now c.args.roots.now c.loop-root.root-index c.loop-root.told.items c.loop-root-test.false c.loop-root.invariant.0
