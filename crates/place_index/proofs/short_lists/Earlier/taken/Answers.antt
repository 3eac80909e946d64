use Rattle.std.proofs.Common.{◌∙◌, ap, arith}
use Rattle.place_index.specs.Others.{taken}
use Rattle.place_index.proofs.Indices.ShortLists.{taken_first}
use Rattle.place_index.proofs.short_lists.Earlier.taken.Goals as goal

pub returns : goal.returns
returns c =
    c.taken.ensures ∙ taken_first c.self.inside.squares c.self.inside.men c.number.result (omega (arith, c.number.ensures.on_board)) c.self.invariant.few c.self.invariant.past
    ∙ ap (λ l. taken l c.number.result) c.self.view_is ∙ ap (taken c.args.self.now) c.number.ensures.value
