use Rattle.std.proofs.Common.{◌≡◌, ap, ◌∙◌, length, arith}
use Rattle.place_index.specs.Shape.{lead_men, lead_size, product}
use Rattle.place_index.specs.Inside.Arranged.{sizes_in}
use Rattle.place_index.proofs.Shapes.Greatest.{size_is_some, size_is_within}
use Rattle.place_index.proofs.Shapes.ShapeParts.{made_length, made_sizes, made_men}
use Rattle.place_index.proofs.sizes.Sizes.of.Goals as goal

pub all_sizes-requires-clause-groups : goal.all_sizes-requires-clause-groups
all_sizes-requires-clause-groups c = omega (arith, c.groups-groups.ensures.few, made_length c.groups-groups.result.now)

pub all_sizes-requires-clause-men : goal.all_sizes-requires-clause-men
all_sizes-requires-clause-men c =
    made_men c.args.arrangement.now.material c.args.arrangement.now.pieces 0 0 0 c.groups-groups.result.now c.material-material.ensures.known c.material-material.ensures.good c.groups-groups.ensures.is

pub returns-clause-is : goal.returns-clause-is
returns-clause-is c =
    made_sizes c.args.arrangement.now.material c.leading_men-lead.result 0 0 c.args.file c.leading_size-first.result c.args.arrangement.now.pieces c.groups-groups.result.now c.all_sizes.result.items
    (c.leading_men-lead.ensures.is ∙ ap lead_men c.material-material.ensures.is) c.groups-groups.ensures.is
    (c.leading_size-first.ensures.is ∙ ap (λ k. lead_size k c.args.file) c.material-material.ensures.is) c.all_sizes.ensures.is

pub returns-clause-len : goal.returns-clause-len
returns-clause-len c = omega (arith, c.all_sizes.ensures.len, made_length c.groups-groups.result.now, ap length c.groups-groups.ensures.is)

pub invariant_of-result : goal.invariant_of-result
invariant_of-result c =
    let is : c.all_sizes.result.items ≡ sizes_in c.args.arrangement.now c.args.file = returns-clause-is c in
    record {
      few = omega (arith, c.all_sizes.ensures.len, c.groups-groups.ensures.few, made_length c.groups-groups.result.now, ap length c.groups-groups.ensures.is);
      some = omega (
        arith,
        ap product is,
        size_is_some c.args.arrangement.now.material c.args.arrangement.now.pieces 0 0 c.args.file c.material-material.ensures.known c.leading_size-first.ensures.left c.material-material.ensures.good,
      );
      fits = omega (
        arith,
        ap product is,
        size_is_within c.args.arrangement.now.material c.args.arrangement.now.pieces 0 0 c.args.file c.material-material.ensures.known c.leading_size-first.ensures.left c.material-material.ensures.good,
      );
    }
