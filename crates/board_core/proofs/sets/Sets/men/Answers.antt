use Rattle.std.proofs.Common.{◌≡◌, set, arith, ap, sym, ◌∙◌}
use Rattle.board_core.specs.Attack.{man_at}
use Rattle.board_core.specs.Sets.{men_shown}
use Rattle.board_core.proofs.Shown.{length_shown, shown_at, copied_none, copied_put, copied_all}
use Rattle.board_core.proofs.sets.Sets.men.Goals as goal

pub squares-init : goal.squares-init
squares-init c = copied_none (men_shown c.args.self.now) _ _ c.requires c.none-men.ensures

pub squares-preserved : goal.squares-preserved
squares-preserved c =
    let shown = men_shown c.args.self.now in
    let to = c.lowest-square.result in
    let is : c.put.new.self ≡ set c.squares.men to (man_at shown to) = c.put.ensures ∙ ap (set c.squares.men to) (c.man_on.ensures ∙ sym (shown_at c.args.self.now to (omega arith))) in
    rw (is, c.number-next.ensures.value) (copied_put shown c.squares.men c.squares.next c.squares.rest to c.without-rest.result c.squares.invariant (omega arith) c.lowest-square.ensures.first c.lowest-square.ensures.here c.without-rest.ensures.gone c.without-rest.ensures.kept)

pub returns : goal.returns
returns c = copied_all (men_shown c.args.self.now) c.squares.men c.squares.next c.squares.rest (length_shown c.args.self.now) c.squares.invariant (c.is_empty.ensures.0 c.squares-test.false)
