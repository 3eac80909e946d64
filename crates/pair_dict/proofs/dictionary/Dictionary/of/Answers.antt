use Rattle.pair_dict.proofs.dictionary.Dictionary.of.Goals as goal

pub invariant_of-result : goal.invariant_of-result
invariant_of-result c =
    let t = c.in_ok-tables.ensures in
    record {
      codes = t.codes;
      all_symbols = t.all_symbols;
      counts = t.counts;
      nodes = t.nodes;
      some_bits = t.some_bits;
      few_bits = t.few_bits;
      all_runs = t.all_runs;
      runs = rw (t.least, t.lowest) t.runs;
    }
