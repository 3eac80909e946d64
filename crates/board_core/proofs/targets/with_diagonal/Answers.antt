use Rattle.std.proofs.Common.{◌≡◌, ◌<◌, inl, inr}
use Rattle.std.specs.Int.{bit_at}
use Rattle.board_core.specs.declared.attack.Direction.TheVariants.{NorthEast, NorthWest, SouthEast, SouthWest}
use Rattle.board_core.specs.Attack.{Along, IsClear, IsDiagonal}
use Rattle.board_core.specs.Moves.{IsFree}
use Rattle.board_core.proofs.Outward.{each_direction}
use Rattle.board_core.proofs.Grown.{four_kept, came_from}
use Rattle.board_core.proofs.targets.with_diagonal.Goals as goal

pub returns-clause-kept : goal.returns-clause-kept
returns-clause-kept c = λ s bit. c.with_ray.ensures.kept s (c.with_ray-c.ensures.kept s (c.with_ray-b.ensures.kept s (c.with_ray-a.ensures.kept s bit)))

pub returns-clause-reached : goal.returns-clause-reached
returns-clause-reached c = λ d n s.
    let kept = four_kept (λ set. bit_at set s ≡ 1) _ _ _ _ (c.with_ray-b.ensures.kept s) (c.with_ray-c.ensures.kept s) (c.with_ray.ensures.kept s) in
    each_direction
    (λ d. IsDiagonal d → 0 < n → s < 64 → Along d n c.args.from s → IsClear c.args.men.now d n c.args.from → IsFree c.args.men.now c.args.side s → bit_at c.with_ray.result s ≡ 1)
    (λ x _ _ _ _ _. absurd x)
    (λ x _ _ _ _ _. absurd x)
    (λ x _ _ _ _ _. absurd x)
    (λ x _ _ _ _ _. absurd x)
    (λ _ away b along clear free. kept.0 (c.with_ray-a.ensures.reached n s away b along clear free))
    (λ _ away b along clear free. kept.1 (c.with_ray-b.ensures.reached n s away b along clear free))
    (λ _ away b along clear free. kept.2 (c.with_ray-c.ensures.reached n s away b along clear free))
    (λ _ away b along clear free. c.with_ray.ensures.reached n s away b along clear free)
    d

pub returns-clause-only : goal.returns-clause-only
returns-clause-only c = λ s.
    came_from (c.with_ray.ensures.only s) (λ x. inr (SouthWest, tt, x)) (
    came_from (c.with_ray-c.ensures.only s) (λ x. inr (SouthEast, tt, x)) (
    came_from (c.with_ray-b.ensures.only s) (λ x. inr (NorthWest, tt, x)) (
    came_from (c.with_ray-a.ensures.only s) (λ x. inr (NorthEast, tt, x)) (
    inl))))
