use Rattle.std.proofs.Common.{◌∙◌, ◌<◌, ap, length, arith}
use Rattle.place_index.specs.Inside.ShortLists.{inserted}
use Rattle.place_index.proofs.Indices.ShortLists.{few_more, front_length}
use Rattle.place_index.proofs.short_lists.UpToThree.insert.Goals as goal

pub returns : goal.returns
returns c =
    let room : c.self.inside.count < 3 = omega (arith, c.requires, ap length c.self.view_is, front_length c.self.inside.count c.self.inside.numbers (omega (arith, c.self.invariant.few, c.self.invariant.size))) in
    (few_more c.self.inside.numbers c.with_number-self-inside.result c.self.inside.count c.args.number c.self.invariant.size room c.self.invariant.first c.self.invariant.second c.with_number-self-inside.ensures).is
    ∙ ap (inserted c.args.number) c.self.view_is
