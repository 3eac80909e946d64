use Rattle.std.proofs.Common.{List, map, refl, subst, sym, inr}
use Rattle.std.specs.List.{All}
use Rattle.std.proofs.lemmas.Result.{IfOk-weaker}
use Rattle.judge_core.specs.declared.ask.Ask.TheVariants.{Strict}
use Rattle.judge_core.specs.declared.root_move.RootMove.{RootMove}
use Rattle.judge_core.specs.Tables.{Holding}
use Rattle.json_lines.specs.Inside.Playing.{IsRootMoveOf}
use Rattle.json_lines.specs.Told.{AreMovesTold, IsRootTold, played_in}
use Rattle.json_lines.proofs.ByRoot.{are_root_moves}
use Rattle.json_lines.proofs.by_root.strict_root_told.Goals as goal

pub roots_told-requires : goal.roots_told-requires
roots_told-requires c =
    let found = rw c.in-Ok-Some.field-0-is at c.in-Ok-Some.ensures.moves in
    subst (λ (s : Holding). All (IsRootMoveOf s.tables c.args.position.now) c.deref.result.now) (sym c.in-Ok-Some.ensures.unchanged)
    (subst (λ (rs : List RootMove). All (IsRootMoveOf c.args.set.now.tables c.args.position.now) rs) (sym c.deref.ensures.value)
    (are_root_moves c.args.set.now.tables c.args.position.now c.in-Ok-Some.roots.items found.1))

pub returns-in-Ok-Some-clause-told : goal.returns-in-Ok-Some-clause-told
returns-in-Ok-Some-clause-told c =
    let found = rw c.in-Ok-Some.field-0-is at c.in-Ok-Some.ensures.moves in
    IfOk-weaker c.roots_told.result _ _ (λ ts h. record {
      moves = map played_in c.in-Ok-Some.roots.items;
      ordered = inr (found.0, (c.in-Ok-Some.roots.items, found.1, refl));
      told = subst (λ (rs : List RootMove). AreMovesTold Strict c.args.set.now.tables c.args.position.now (map played_in rs) ts.items) c.deref.ensures.value
          (subst (λ (s : Holding). AreMovesTold Strict s.tables c.args.position.now (map played_in c.deref.result.now) ts.items) c.in-Ok-Some.ensures.unchanged h);
    }) c.roots_told.ensures.told

pub returns-in-Ok-None-clause-told : goal.returns-in-Ok-None-clause-told
returns-in-Ok-None-clause-told c =
    IfOk-weaker c.root_told.result _ _ (λ ts h. subst (λ (s : Holding). IsRootTold Strict s.tables c.args.position.now ts.items) c.in-Ok-None.ensures.unchanged h) c.root_told.ensures.told
