use Rattle.std.proofs.Common.{◌∙◌, List, ℕ, subst, sym}
use Rattle.std.proofs.lemmas.Bool.{false≢true}
use Rattle.std.proofs.lemmas.List.{take_all}
use Rattle.std.specs.List.{Contains}
use Rattle.game_status.proofs.AmongLaws.{lacks_next}
use Rattle.game_reports.proofs.asked.is_among.Goals as goal

pub loop-other-preserved : goal.loop-other-preserved
loop-other-preserved c =
    lacks_next c.args.stamps.now c.loop-other.other-index c.args.stamp _ c.loop-other-test.true c.loop-other.invariant
    (λ same. false≢true (sym c.if-is_same_stamp.false ∙ c.is_same_stamp.ensures.1 (c.other-item.is ∙ same)))

pub returns : goal.returns
returns c = (
  λ no. absurd (false≢true no),
  λ h. absurd (c.loop-other.invariant (subst (λ (ss : List (List ℕ)). Contains ss c.args.stamp) (sym (take_all c.loop-other.other-index _ c.loop-other-test.false)) h)),
)
