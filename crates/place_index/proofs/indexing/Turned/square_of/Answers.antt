use Rattle.std.proofs.Common.{◌≡◌, ◌∙◌, ap, sym, subst}
use Rattle.place_index.specs.Material.{count_of, pieces_of}
use Rattle.place_index.specs.Men.{squares_of}
use Rattle.place_index.proofs.Indices.LoneGroups.{lone_found}
use Rattle.place_index.proofs.indexing.Turned.square_of.Goals as goal

pub returns : goal.returns
returns c =
    let one : count_of (pieces_of c.self.inside.shape.now.material) c.args.code ≡ 1 = subst (λ v. count_of (pieces_of v.shape.material) c.args.code ≡ 1) (sym c.self.view_is) c.requires in
    ap (λ v. squares_of v.men c.args.code) (sym c.self.view_is)
    ∙ lone_found c.self.inside.shape.now.material c.self.inside.men.now c.self.inside.turn c.self.inside.lone_squares.now c.args.code c.of-from.result c.square.result c.self.invariant.turned.shape.material c.self.invariant.men
    c.self.invariant.lone_squares one c.of-from.ensures c.square.ensures
