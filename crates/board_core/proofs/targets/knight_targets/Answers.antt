use Rattle.std.proofs.Common.{◌≡◌}
use Rattle.std.specs.Int.{bit_at}
use Rattle.std.proofs.lemmas.Nat.Bits.{bit_at-zero}
use Rattle.board_core.specs.declared.attack.KnightStep.{KnightStep}
use Rattle.board_core.specs.declared.attack.KnightStep.TheVariants.{EastEastNorth, EastEastSouth, EastNorthNorth, EastSouthSouth, WestWestNorth, WestWestSouth, WestNorthNorth, WestSouthSouth}
use Rattle.board_core.specs.Attack.{IsKnightStep}
use Rattle.board_core.specs.Inside.Search.{IsKnightStepBy}
use Rattle.board_core.specs.Moves.{IsFree}
use Rattle.board_core.proofs.Outward.{each_knight_step}
use Rattle.board_core.proofs.Sweep.{zero_one}
use Rattle.board_core.proofs.Grown.{eight_kept, came_from, knight_step_to, by_knight_step}
use Rattle.board_core.proofs.targets.knight_targets.Goals as goal

pub returns-clause-reached : goal.returns-clause-reached
returns-clause-reached c = λ s b step free.
    let way = knight_step_to c.args.from s step in
    let kept = eight_kept (λ set. bit_at set s ≡ 1) _ _ _ _ _ _ _ _ (c.with_knight_step-b.ensures.kept s) (c.with_knight_step-c.ensures.kept s) (c.with_knight_step-d.ensures.kept s) (c.with_knight_step-e.ensures.kept s) (c.with_knight_step-f.ensures.kept s) (c.with_knight_step-g.ensures.kept s) (c.with_knight_step.ensures.kept s) in
    each_knight_step (λ d. IsKnightStepBy d c.args.from s → bit_at c.with_knight_step.result s ≡ 1)
    (λ there. kept.0 (c.with_knight_step-a.ensures.reached s b there free))
    (λ there. kept.1 (c.with_knight_step-b.ensures.reached s b there free))
    (λ there. kept.2 (c.with_knight_step-c.ensures.reached s b there free))
    (λ there. kept.3 (c.with_knight_step-d.ensures.reached s b there free))
    (λ there. kept.4 (c.with_knight_step-e.ensures.reached s b there free))
    (λ there. kept.5 (c.with_knight_step-f.ensures.reached s b there free))
    (λ there. kept.6 (c.with_knight_step-g.ensures.reached s b there free))
    (λ there. c.with_knight_step.ensures.reached s b there free)
    way.0
    way.1

pub returns-clause-only : goal.returns-clause-only
returns-clause-only c = λ s.
    let step : (d : KnightStep) → IsKnightStepBy d c.args.from s × IsFree c.args.men.now c.args.side s → IsKnightStep c.args.from s × IsFree c.args.men.now c.args.side s = λ d h. (by_knight_step d c.args.from s h.0, h.1) in
    came_from (c.with_knight_step.ensures.only s) (step WestSouthSouth) (
    came_from (c.with_knight_step-g.ensures.only s) (step WestNorthNorth) (
    came_from (c.with_knight_step-f.ensures.only s) (step WestWestSouth) (
    came_from (c.with_knight_step-e.ensures.only s) (step WestWestNorth) (
    came_from (c.with_knight_step-d.ensures.only s) (step EastSouthSouth) (
    came_from (c.with_knight_step-c.ensures.only s) (step EastNorthNorth) (
    came_from (c.with_knight_step-b.ensures.only s) (step EastEastSouth) (
    came_from (c.with_knight_step-a.ensures.only s) (step EastEastNorth) (
    λ bit. absurd (zero_one _ (bit_at-zero s) (rw c.empty.ensures at bit))))))))))
