use Rattle.std.proofs.Common.{arith, sym, ◌∙◌}
use Rattle.std.proofs.lemmas.Bool.{false≢true}
use Rattle.board_core.specs.Inside.Search.{IsAttackedByKnight}
use Rattle.board_core.proofs.Outward.{no_step_more, step_below}
use Rattle.board_core.proofs.attack.is_attacked_by_hop.Goals as goal

pub steps-preserved : goal.steps-preserved
steps-preserved c =
    no_step_more (λ d. IsAttackedByKnight c.args.men.now c.args.by d c.args.to) c.steps.knight_step-index
    (λ h. false≢true (sym c.if-is_attacked_by_knight.false ∙ c.is_attacked_by_knight.ensures.1 h)) c.steps.invariant

pub returns : goal.returns
returns c = (λ t. absurd (false≢true t), λ a. absurd (c.steps.invariant a.0 (omega (arith, step_below a.0)) a.1))
