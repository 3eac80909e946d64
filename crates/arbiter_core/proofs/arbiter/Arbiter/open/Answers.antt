use Rattle.std.proofs.Common.{◌≡◌, true, ap, sym, ◌∙◌, subst, Ok, Err}
use Rattle.judge_core.specs.Tables.{Holding}
use Rattle.arbiter_core.specs.declared.fault.OpenFault.TheVariants.{BadSetup}
use Rattle.arbiter_core.specs.Setups.{IsGood, SetupView, terms_with}
use Rattle.arbiter_core.specs.Resting.{awake}
use Rattle.arbiter_core.specs.Views.{View}
use Rattle.arbiter_core.specs.Opens.{OpensIfGood}
use Rattle.arbiter_core.proofs.arbiter.Arbiter.open.Goals as goal

pub returns-in-Ok-open-clause-good : goal.returns-in-Ok-open-clause-good
returns-in-Ok-open-clause-good g c =
    let is : c.wake.result ≡ awake c.in-Ok-open.state c.in-Ok.parts.1 = c.wake.ensures ∙ ap (λ (h : Holding). awake c.in-Ok-open.state h) c.in-Ok-open.ensures.same in
    subst (λ (s : SetupView). OpensIfGood g.K.Keeper.facts s c.args.keeper.now c.open.new.keeper (Ok c.wake.result)) c.in-Ok.ensures.ok
    (subst (λ (v : View). OpensIfGood g.K.Keeper.facts (terms_with c.in-Ok.parts.0 c.in-Ok.parts.1) c.args.keeper.now c.open.new.keeper (Ok v)) (sym is) c.in-Ok-open.ensures.good)

pub returns-in-Err-open-clause-good : goal.returns-in-Err-open-clause-good
returns-in-Err-open-clause-good g c = subst (λ (s : SetupView). OpensIfGood g.K.Keeper.facts s c.args.keeper.now c.open.new.keeper (Err c.in-Err-open.refused.fault)) c.in-Ok.ensures.ok c.in-Err-open.ensures.good

pub returns-in-Err-open-clause-bad : goal.returns-in-Err-open-clause-bad
returns-in-Err-open-clause-bad g c = subst (λ (s : SetupView). (IsGood s → ⊥) → (c.in-Err-open.refused.fault ≡ BadSetup) × (true ≡ true) × (c.open.new.keeper ≡ c.args.keeper.now)) c.in-Ok.ensures.ok c.in-Err-open.ensures.bad
