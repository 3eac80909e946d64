use Rattle.std.proofs.Common.{◌∙◌, sym, ap}
use Rattle.board_core.specs.declared.parts.Parts.{Parts}
use Rattle.judge_core.specs.Distances.{pawns_reach}
use Rattle.judge_core.specs.Precision.{unless_pawn}
use Rattle.judge_core.proofs.Rounding.{lost_source, won_source}
use Rattle.judge_core.proofs.set.Set.source_by_moves.Goals as goal

pub returns-then-not-is_won-clause-is : goal.returns-then-not-is_won-clause-is
returns-then-not-is_won-clause-is c =
    c.source_in_table-own.ensures ∙ lost_source c.args.self.now.tables c.args.probe.now c.args.outcome c.args.value (sym c.is_won.ensures ∙ c.if-not-is_won.true)

pub returns-clause-is : goal.returns-clause-is
returns-clause-is c =
    let reached = c.in_ok-reached.ensures.is ∙ ap (λ (p : Parts). pawns_reach c.args.self.now.tables p c.args.value) c.position.ensures.is in
    c.unless_pawn.ensures
    ∙ ap (unless_pawn c.in_ok-reached.reached) c.source_in_table-own.ensures
    ∙ won_source c.args.self.now.tables c.args.probe.now c.args.outcome c.args.value c.in_ok-reached.reached (sym c.is_won.ensures ∙ c.if-not-is_won.false) reached
