use Rattle.std.proofs.Common.{sym, ◌∙◌}
use Rattle.move_msg.proofs.TableNameLaws.{men_end, men_out_of_order, no_man, one_man_more}
use Rattle.move_msg.proofs.table_name.are_men.Goals.{then-place-least-via-then-place-least, then-place-least-via-else-place-least+then-place-eq5}
use Rattle.move_msg.proofs.table_name.are_men.Goals as goal

pub returns-then-place-least : goal.returns-then-place-least
returns-then-place-least c = elim c.then-place-least.branch [
  | then-place-least-via-then-place-least w ↦
      sym (men_out_of_order _ _ _ _ c.loop-letter-test.true c.man_place-place.ensures w.if-place-least.true) ∙ c.loop-letter.invariant
  | then-place-least-via-else-place-least+then-place-eq5 w ↦
      sym (no_man _ _ _ _ c.loop-letter-test.true c.man_place-place.ensures w.if-place-eq5.true) ∙ c.loop-letter.invariant
]

pub loop-letter-preserved : goal.loop-letter-preserved
loop-letter-preserved c =
    one_man_more _ _ _ _ c.loop-letter-test.true c.man_place-place.ensures c.if-place-least.false c.if-place-eq5.false ∙ c.loop-letter.invariant

pub returns : goal.returns
returns c = sym (men_end _ _ _ c.loop-letter-test.false) ∙ c.loop-letter.invariant
