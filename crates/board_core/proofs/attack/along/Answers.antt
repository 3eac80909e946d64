use Rattle.std.proofs.Common.{arith, sym, ◌∙◌}
use Rattle.board_core.proofs.Strides.{up_along, down_along}
use Rattle.board_core.proofs.attack.along.Goals as goal

pub returns-then-rises : goal.returns-then-rises
returns-then-rises c =
    rw (c.at.ensures, c.number.ensures.value, c.stride.ensures) (up_along c.args.direction c.args.k c.args.from (sym c.rises.ensures ∙ c.if-rises.true) (omega arith) c.requires)

pub returns-else-rises : goal.returns-else-rises
returns-else-rises c =
    rw (c.at-else-rises.ensures, c.number-else-rises.ensures.value, c.stride.ensures) (down_along c.args.direction c.args.k c.args.from (sym c.rises.ensures ∙ c.if-rises.false) (omega arith) c.requires)
