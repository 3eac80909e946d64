use Rattle.std.proofs.Common.{◌∙◌, refl}
use Rattle.board_core.proofs.NextCapture.{if_played, if_not_played, starts_later}
use Rattle.board_core.proofs.position.Position.capture_after.Goals as goal

pub captures-init : goal.captures-init
captures-init c = refl

pub captures-preserved : goal.captures-preserved
captures-preserved c = c.captures-2.invariant ∙ if_not_played _ _ _ _ _ _ c.after.ensures.computed c.in_default-after.is c.in-Some.ensures.next

pub captures-smaller : goal.captures-smaller
captures-smaller c = starts_later _ _ c.in-Some.ensures.later c.in-Some.ensures.below

pub returns-in-Some-after-clause-next : goal.returns-in-Some-after-clause-next
returns-in-Some-after-clause-next c = c.captures-2.invariant ∙ if_played _ _ _ _ _ _ _ c.after.ensures.computed c.in-Some-after.is c.in-Some.ensures.next

pub returns-clause-none : goal.returns-clause-none
returns-clause-none c = c.captures-2.invariant ∙ c.in_default.ensures.none
