use Rattle.std.proofs.Common.{◌<◌, ◌+◌, ◌*◌, ◌∙◌, ap, arith}
use Rattle.place_index.specs.Pawns.{pawns_before}
use Rattle.place_index.proofs.Indices.IndexTables.{before_table, before_most}
use Rattle.place_index.proofs.numbers.pawns_before.Goals as goal

pub returns-clause-is : goal.returns-clause-is
returns-clause-is c =
    before_table c.number-file.result c.args.others c.args.ranks c.number-file.ensures.left c.requires.others c.requires.ranks
    ∙ ap (λ f. pawns_before f c.args.others c.args.ranks) c.number-file.ensures.is

pub returns-clause-few : goal.returns-clause-few
returns-clause-few c =
    let lt : (c.args.others * 4 + c.number-file.result) * 7 + c.args.ranks < 84 = omega (arith, c.number-file.ensures.left, c.requires.others, c.requires.ranks) in
    before_most ((c.args.others * 4 + c.number-file.result) * 7 + c.args.ranks) lt
