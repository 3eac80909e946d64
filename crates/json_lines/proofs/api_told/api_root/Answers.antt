use Rattle.std.proofs.Common.{List, ◌∙◌, subst, sym}
use Rattle.std.specs.List.{All}
use Rattle.std.proofs.lemmas.Result.{IfOk-weaker}
use Rattle.judge_core.specs.declared.ask.Ask.TheVariants.{Strict}
use Rattle.judge_core.specs.Tables.{Holding}
use Rattle.json_lines.specs.declared.told.MoveTold.{MoveTold}
use Rattle.json_lines.specs.ApiTold.{IsPrecisionAfter}
use Rattle.json_lines.specs.Told.{IsRootTold}
use Rattle.json_lines.proofs.api_told.api_root.Goals as goal

pub returns-clause-told : goal.returns-clause-told
returns-clause-told c =
    IfOk-weaker c.with_precision.result _ _ (λ ts h. record {
      told = subst (λ (ms : List MoveTold). IsRootTold Strict c.args.set.now.tables c.args.position.now ms) (sym (h.0 ∙ c.deref.ensures.value)) c.in_ok-moves.ensures.told;
      precise = subst (λ (s : Holding). All (IsPrecisionAfter s.tables) ts.items) c.in_ok-moves.ensures.unchanged h.1;
    }) c.with_precision.ensures.told
