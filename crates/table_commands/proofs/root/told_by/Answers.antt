use Rattle.std.proofs.Common.{List, subst, refl, sym, inl, inr}
use Rattle.std.proofs.lemmas.Result.{IfOk-weaker}
use Rattle.judge_core.specs.declared.root_move.RootMove.{RootMove}
use Rattle.judge_core.specs.Ask.{IsRanked}
use Rattle.judge_core.specs.Tables.{Holding}
use Rattle.table_commands.proofs.RootLines.{told_in}
use Rattle.table_commands.proofs.root.told_by.Goals as goal

pub returns-in-Ok-Some-clause-told : goal.returns-in-Ok-Some-clause-told
returns-in-Ok-Some-clause-told c =
    let found = rw c.in-Ok-Some.field-0-is at c.in-Ok-Some.ensures.moves in
    let root = subst (λ (h : Holding). IsRanked c.args.ask h.tables c.args.position.now c.in-Ok-Some.moves.items) c.in_ok-columns.ensures.unchanged found.1 in
    let moves = inr (found.0, subst (λ (ms : List RootMove). IsRanked c.args.ask c.args.set.now.tables c.args.position.now ms) (sym c.deref.ensures.value) root) in
    IfOk-weaker c.lines_of.result _ _ (λ a e. told_in c.args.ask c.args.set.now.tables c.args.position.now c.deref.result.now c.in_ok-columns.columns _ moves c.in_ok-columns.ensures.told c.in_ok-columns.ensures.verdict e) c.lines_of.ensures

pub returns-in-Ok-None-clause-told : goal.returns-in-Ok-None-clause-told
returns-in-Ok-None-clause-told c =
    let outside = rw c.in-Ok-None.field-0-is at c.in-Ok-None.ensures.moves in
    IfOk-weaker c.lines_of-in-Ok-None.result _ _ (λ a e. told_in c.args.ask c.args.set.now.tables c.args.position.now _ c.in_ok-columns.columns _ (inl (outside, refl)) c.in_ok-columns.ensures.told c.in_ok-columns.ensures.verdict e) c.lines_of-in-Ok-None.ensures
