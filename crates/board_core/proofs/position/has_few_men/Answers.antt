use Rattle.std.proofs.Common.{◌∙◌, ap, arith, count_ones}
use Rattle.board_core.specs.declared.piece.Side.TheVariants.{White, Black}
use Rattle.board_core.specs.declared.sides.Sides.{Sides}
use Rattle.board_core.specs.Position.{is_of}
use Rattle.board_core.proofs.Computed.{Decides-leb}
use Rattle.board_core.proofs.SetBits.{squares_counted}
use Rattle.board_core.proofs.position.has_few_men.Goals as goal

pub returns-then-len-le16 : goal.returns-then-len-le16
returns-then-len-le16 c = λ men e.
    let w = c.len.ensures ∙ ap (λ (x : Sides). count_ones x.white) e ∙ squares_counted (is_of White) men in
    let b = c.len-then-len-le16.ensures ∙ ap (λ (x : Sides). count_ones x.black) e ∙ squares_counted (is_of Black) men in (
      λ t. (omega (arith, w, c.if-len-le16.true), let h = (Decides-leb c.len-then-len-le16.result 16).0 t in omega (arith, b, h)),
      λ h. (Decides-leb c.len-then-len-le16.result 16).1 (omega (arith, b, h.1)),
    )

pub returns-else-len-le16 : goal.returns-else-len-le16
returns-else-len-le16 c = λ men e.
    let w = c.len.ensures ∙ ap (λ (x : Sides). count_ones x.white) e ∙ squares_counted (is_of White) men in (
      λ t. let h = (Decides-leb c.len.result 16).0 t in absurd (omega (arith, h, c.if-len-le16.false)),
      λ h. absurd (omega (arith, w, h.0, c.if-len-le16.false)),
    )
