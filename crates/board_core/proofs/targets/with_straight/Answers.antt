use Rattle.std.proofs.Common.{◌≡◌, ◌<◌, inl, inr}
use Rattle.std.specs.Int.{bit_at}
use Rattle.board_core.specs.declared.attack.Direction.TheVariants.{North, South, East, West}
use Rattle.board_core.specs.Attack.{Along, IsClear, IsStraight}
use Rattle.board_core.specs.Moves.{IsFree}
use Rattle.board_core.proofs.Outward.{each_direction}
use Rattle.board_core.proofs.Grown.{four_kept, came_from}
use Rattle.board_core.proofs.targets.with_straight.Goals as goal

pub returns-clause-kept : goal.returns-clause-kept
returns-clause-kept c = λ s bit. c.with_ray.ensures.kept s (c.with_ray-east.ensures.kept s (c.with_ray-south.ensures.kept s (c.with_ray-north.ensures.kept s bit)))

pub returns-clause-reached : goal.returns-clause-reached
returns-clause-reached c = λ d n s.
    let kept = four_kept (λ set. bit_at set s ≡ 1) _ _ _ _ (c.with_ray-south.ensures.kept s) (c.with_ray-east.ensures.kept s) (c.with_ray.ensures.kept s) in
    each_direction
    (λ d. IsStraight d → 0 < n → s < 64 → Along d n c.args.from s → IsClear c.args.men.now d n c.args.from → IsFree c.args.men.now c.args.side s → bit_at c.with_ray.result s ≡ 1)
    (λ _ away b along clear free. kept.0 (c.with_ray-north.ensures.reached n s away b along clear free))
    (λ _ away b along clear free. kept.1 (c.with_ray-south.ensures.reached n s away b along clear free))
    (λ _ away b along clear free. kept.2 (c.with_ray-east.ensures.reached n s away b along clear free))
    (λ _ away b along clear free. c.with_ray.ensures.reached n s away b along clear free)
    (λ x _ _ _ _ _. absurd x)
    (λ x _ _ _ _ _. absurd x)
    (λ x _ _ _ _ _. absurd x)
    (λ x _ _ _ _ _. absurd x)
    d

pub returns-clause-only : goal.returns-clause-only
returns-clause-only c = λ s.
    came_from (c.with_ray.ensures.only s) (λ x. inr (West, tt, x)) (
    came_from (c.with_ray-east.ensures.only s) (λ x. inr (East, tt, x)) (
    came_from (c.with_ray-south.ensures.only s) (λ x. inr (South, tt, x)) (
    came_from (c.with_ray-north.ensures.only s) (λ x. inr (North, tt, x)) (
    inl))))
