use Rattle.std.proofs.Common.{arith, refl, ap, sym, ◌∙◌, ◌≡◌, count_by, count_ones}
use Rattle.board_core.specs.declared.parts.Parts.{Parts}
use Rattle.board_core.specs.declared.sides.Sides.{Sides}
use Rattle.board_core.specs.declared.piece.Side.TheVariants.{White, Black}
use Rattle.board_core.specs.Position.{is_of}
use Rattle.board_core.proofs.ComputedMen.{men_by_side}
use Rattle.board_core.proofs.SetBits.{squares_counted}
use Rattle.board_core.proofs.position.Position.men.Goals as goal

white : (c : goal.After-len-2) → c.len.result ≡ count_by (is_of White) c.args.self.now.men
white c =
    c.len.ensures
    ∙ ap (λ (x : Sides). count_ones x.white) c.self.invariant.1
    ∙ squares_counted (is_of White) c.self.inside.parts.men
    ∙ ap (λ (p : Parts). count_by (is_of White) p.men) c.self.view_is

black : (c : goal.After-len-2) → c.len-2.result ≡ count_by (is_of Black) c.args.self.now.men
black c =
    c.len-2.ensures
    ∙ ap (λ (x : Sides). count_ones x.black) c.self.invariant.1
    ∙ squares_counted (is_of Black) c.self.inside.parts.men
    ∙ ap (λ (p : Parts). count_by (is_of Black) p.men) c.self.view_is

pub overflow_add-result : goal.overflow_add-result
overflow_add-result c =
    let few = (rw c.self.view_is at c.self.invariant.0).few in
    omega (arith, white c, black c, few)

pub returns-clause-by_side : goal.returns-clause-by_side
returns-clause-by_side c = rw (white c, black c) refl

pub returns-clause-computed : goal.returns-clause-computed
returns-clause-computed c = rw (white c, black c) (sym (men_by_side c.args.self.now.men))
