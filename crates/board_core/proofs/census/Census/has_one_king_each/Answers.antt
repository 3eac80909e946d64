use Rattle.std.proofs.Common.{◌∙◌, ap, arith, bit_and, count_ones}
use Rattle.std.proofs.lemmas.Bool.Decides.{Decides-eqb}
use Rattle.board_core.specs.declared.piece.Side.TheVariants.{White, Black}
use Rattle.board_core.specs.declared.census.Census.{Census}
use Rattle.board_core.proofs.CensusLaws.{kings_counted}
use Rattle.board_core.proofs.census.Census.has_one_king_each.Goals as goal

pub returns-then-len-eq1 : goal.returns-then-len-eq1
returns-then-len-eq1 c = λ men e.
    let w = c.len.ensures ∙ ap count_ones c.bitand.ensures ∙ ap (λ (x : Census). count_ones (bit_and x.kings x.sides.white)) e ∙ kings_counted White men in
    let b = c.len-then-len-eq1.ensures ∙ ap count_ones c.bitand-then-len-eq1.ensures ∙ ap (λ (x : Census). count_ones (bit_and x.kings x.sides.black)) e ∙ kings_counted Black men in (
      λ t. (omega (arith, w, c.if-len-eq1.true), let h = (Decides-eqb c.len-then-len-eq1.result 1).0 t in omega (arith, b, h)),
      λ h. (Decides-eqb c.len-then-len-eq1.result 1).1 (omega (arith, b, h.1)),
    )

pub returns-else-len-eq1 : goal.returns-else-len-eq1
returns-else-len-eq1 c = λ men e.
    let w = c.len.ensures ∙ ap count_ones c.bitand.ensures ∙ ap (λ (x : Census). count_ones (bit_and x.kings x.sides.white)) e ∙ kings_counted White men in (
      λ t. absurd (c.if-len-eq1.false ((Decides-eqb c.len.result 1).0 t)),
      λ h. absurd (c.if-len-eq1.false (omega (arith, w, h.0))),
    )
