use Rattle.std.proofs.Common.{◌∙◌, ap, sym, subst}
use Rattle.place_index.specs.Choose.{IsFallingBelow}
use Rattle.place_index.specs.Index.{first_square}
use Rattle.place_index.specs.Men.{squares_of}
use Rattle.place_index.specs.Others.{free_number}
use Rattle.place_index.proofs.Indices.LoneGroups.{lone_number}
use Rattle.place_index.proofs.Indices.Settled.{squares_fall}
use Rattle.place_index.proofs.group.number_group.Goals as goal

pub free_set_number-requires-clause-falling : goal.free_set_number-requires-clause-falling
free_set_number-requires-clause-falling c =
    subst (IsFallingBelow 64) (sym (c.as_slice.ensures ∙ c.squares_of-squares.ensures)) (squares_fall c.args.turned.now.men c.args.group.code)

pub returns-clause-number : goal.returns-clause-number
returns-clause-number c =
    c.free_number-number.ensures.is ∙ ap (λ f. free_number f c.args.earlier.now c.square_of-square.result) c.first_square-first.ensures
    ∙ lone_number (first_square c.args.group.code) c.args.earlier.now (squares_of c.args.turned.now.men c.args.group.code) c.square_of-square.result c.square_of-square.ensures
