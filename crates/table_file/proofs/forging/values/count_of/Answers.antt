use Rattle.std.proofs.Common.{length, arith, ap, ◌∙◌}
use Rattle.pair_dict.proofs.Settling.{has_some}
use Rattle.table_file.proofs.forging.values.count_of.Goals as goal

pub returns-clause-is : goal.returns-clause-is
returns-clause-is c =
    let h = c.requires.values c.args.symbol c.requires.known in
    c.count_in.ensures.is h.0 h.1 ∙ ap length (c.values_are_computed.ensures c.args.symbols.now c.args.symbol h.0 h.1 h.2)

pub returns-clause-some : goal.returns-clause-some
returns-clause-some c =
    let h = c.requires.values c.args.symbol c.requires.known in
    omega (arith, c.count_in.ensures.is h.0 h.1, has_some h.1)
