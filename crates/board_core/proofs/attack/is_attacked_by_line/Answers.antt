use Rattle.std.proofs.Common.{arith, sym, ◌∙◌}
use Rattle.std.proofs.lemmas.Bool.{false≢true}
use Rattle.board_core.specs.Inside.Search.{IsAttackedAlong}
use Rattle.board_core.proofs.Outward.{no_direction_more, direction_below}
use Rattle.board_core.proofs.attack.is_attacked_by_line.Goals as goal

pub directions-preserved : goal.directions-preserved
directions-preserved c =
    no_direction_more (λ d. IsAttackedAlong c.args.men.now c.args.by d c.args.to) c.directions.direction-index
    (λ h. false≢true (sym c.if-is_attacked_along.false ∙ c.is_attacked_along.ensures.1 h)) c.directions.invariant

pub returns : goal.returns
returns c = (λ t. absurd (false≢true t), λ a. absurd (c.directions.invariant a.0 (omega (arith, direction_below a.0)) a.1))
