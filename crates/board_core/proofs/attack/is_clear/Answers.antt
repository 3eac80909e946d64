use Rattle.std.proofs.Common.{◌∙◌, refl, sym, arith}
use Rattle.std.proofs.lemmas.Bool.{false≢true}
use Rattle.board_core.proofs.Clearing.{clear_more, nobody, somebody}
use Rattle.board_core.proofs.attack.is_clear.Goals as goal

pub loop-k-preserved : goal.loop-k-preserved
loop-k-preserved c =
    clear_more c.args.men.now c.args.direction c.loop-k.k c.args.from c.along-square.result c.loop-k.invariant c.along-square.ensures
    (sym c.at.ensures.man ∙ nobody _ (sym c.is_some.ensures ∙ c.if-is_some.false))

pub returns-then-is_some : goal.returns-then-is_some
returns-then-is_some c = (
  λ t. absurd (false≢true t),
  λ clear. absurd (
      somebody _ (sym c.is_some.ensures ∙ c.if-is_some.true)
      (c.at.ensures.man ∙ clear c.loop-k.k c.along-square.result (omega arith) (omega arith) c.along-square.ensures)
      ),
)

pub returns : goal.returns
returns c = (λ t n s away below along. c.loop-k.invariant n s away (omega arith) along, λ clear. refl)
