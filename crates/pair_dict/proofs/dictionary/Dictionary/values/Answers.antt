use Rattle.std.proofs.Common.{sym, ◌∙◌, arith}
use Rattle.pair_dict.specs.Inside.Nodes.{counts_in}
use Rattle.pair_dict.proofs.NodeLemmas.{read_byte, length-counts_in}
use Rattle.pair_dict.proofs.SymbolValues.{length-values_of}
use Rattle.pair_dict.proofs.dictionary.Dictionary.values.Goals as goal

pub index-requires : goal.index-requires
index-requires c =
    let lt = rw (← c.self.view_is) at c.requires in
    omega (arith, lt, c.self.invariant.counts.lengths, length-counts_in c.self.inside.bytes.items, c.self.inside.bytes.ok.0)

pub returns-clause-is : goal.returns-clause-is
returns-clause-is c =
    let symbols = c.self.inside.symbols.now in
    let bytes = c.self.inside.bytes.items in
    let lt = rw (← c.self.view_is) at c.requires in
    rw (← c.self.view_is) (read_byte symbols bytes c.self.invariant.counts c.args.symbol c.index.result.now lt c.index.ensures ∙ sym (length-values_of symbols (counts_in bytes) c.self.invariant.counts c.args.symbol lt))
