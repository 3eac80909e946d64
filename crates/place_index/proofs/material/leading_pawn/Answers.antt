use Rattle.std.proofs.Common.{◌≡◌, ◌∙◌, sym, subst}
use Rattle.place_index.specs.Material.{IsPieceCode}
use Rattle.place_index.specs.Shape.{lead_code}
use Rattle.place_index.proofs.Materials.KeyTables.{lead_code_none, lead_code_some, lead_code_known}
use Rattle.place_index.proofs.material.leading_pawn.Goals as goal

pub at-requires : goal.at-requires
at-requires c =
    let is : c.leading_code-code.result ≡ lead_code c.args.material =
    c.leading_code-code.ensures.is ∙ lead_code_some c.args.material c.leading_code-code.ensures.known (λ e. c.if-code-eq0.false (c.leading_code-code.ensures.is ∙ e)) in
    subst IsPieceCode (sym is) (lead_code_known c.args.material)

pub returns-then-code-eq0-clause-is : goal.returns-then-code-eq0-clause-is
returns-then-code-eq0-clause-is c = lead_code_none c.args.material c.leading_code-code.ensures.known (sym c.leading_code-code.ensures.is ∙ c.if-code-eq0.true)

pub returns-else-code-eq0-clause-is : goal.returns-else-code-eq0-clause-is
returns-else-code-eq0-clause-is c =
    c.at.ensures ∙ c.leading_code-code.ensures.is ∙ lead_code_some c.args.material c.leading_code-code.ensures.known (λ e. c.if-code-eq0.false (c.leading_code-code.ensures.is ∙ e))
