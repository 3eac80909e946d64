use Rattle.std.proofs.Common.{◌≡◌}
use Rattle.std.specs.Int.{bit_at}
use Rattle.std.proofs.lemmas.Nat.Bits.{bit_at-zero}
use Rattle.board_core.specs.declared.attack.Direction.{Direction}
use Rattle.board_core.specs.declared.attack.Direction.TheVariants.{North, South, East, West, NorthEast, NorthWest, SouthEast, SouthWest}
use Rattle.board_core.specs.Attack.{Along, IsKingStep}
use Rattle.board_core.specs.Moves.{IsFree}
use Rattle.board_core.proofs.Outward.{each_direction}
use Rattle.board_core.proofs.Sweep.{zero_one}
use Rattle.board_core.proofs.Grown.{eight_kept, came_from, king_step_to, by_king_step}
use Rattle.board_core.proofs.targets.king_targets.Goals as goal

pub returns-clause-reached : goal.returns-clause-reached
returns-clause-reached c = λ s b step free.
    let way = king_step_to c.args.from s step in
    let kept = eight_kept (λ set. bit_at set s ≡ 1) _ _ _ _ _ _ _ _ (c.with_step-b.ensures.kept s) (c.with_step-c.ensures.kept s) (c.with_step-d.ensures.kept s) (c.with_step-e.ensures.kept s) (c.with_step-f.ensures.kept s) (c.with_step-g.ensures.kept s) (c.with_step.ensures.kept s) in
    each_direction (λ d. Along d 1 c.args.from s → bit_at c.with_step.result s ≡ 1)
    (λ there. kept.0 (c.with_step-a.ensures.reached s b there free))
    (λ there. kept.1 (c.with_step-b.ensures.reached s b there free))
    (λ there. kept.2 (c.with_step-c.ensures.reached s b there free))
    (λ there. kept.3 (c.with_step-d.ensures.reached s b there free))
    (λ there. kept.4 (c.with_step-e.ensures.reached s b there free))
    (λ there. kept.5 (c.with_step-f.ensures.reached s b there free))
    (λ there. kept.6 (c.with_step-g.ensures.reached s b there free))
    (λ there. c.with_step.ensures.reached s b there free)
    way.0
    way.1

pub returns-clause-only : goal.returns-clause-only
returns-clause-only c = λ s.
    let step : (d : Direction) → Along d 1 c.args.from s × IsFree c.args.men.now c.args.side s → IsKingStep c.args.from s × IsFree c.args.men.now c.args.side s = λ d h. (by_king_step d c.args.from s h.0, h.1) in
    came_from (c.with_step.ensures.only s) (step SouthWest) (
    came_from (c.with_step-g.ensures.only s) (step SouthEast) (
    came_from (c.with_step-f.ensures.only s) (step NorthWest) (
    came_from (c.with_step-e.ensures.only s) (step NorthEast) (
    came_from (c.with_step-d.ensures.only s) (step West) (
    came_from (c.with_step-c.ensures.only s) (step East) (
    came_from (c.with_step-b.ensures.only s) (step South) (
    came_from (c.with_step-a.ensures.only s) (step North) (
    λ bit. absurd (zero_one _ (bit_at-zero s) (rw c.empty.ensures at bit))))))))))
