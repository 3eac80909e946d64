use Rattle.std.proofs.Common.{◌≡◌, ◌<◌, get_or}
use Rattle.pair_dict.specs.Symbols.{symbol_count}
use Rattle.pair_dict.specs.Symbols.{values_of}
use Rattle.pair_dict.specs.Inside.Nodes.{counts_in}
use Rattle.pair_dict.proofs.dictionary.Dictionary.value_in.Given as goal

abbrev pub invariant-down : goal.invariant-down
invariant-down l =
    record {
      known : l.symbol < symbol_count l.self-inside.symbols.now;
      within : l.left < get_or (counts_in l.self-inside.bytes.items) l.symbol 0;
      same : get_or (values_of l.self-inside.symbols.now l.symbol) l.left 0 ≡ get_or (values_of l.self-inside.symbols.now l.fn.symbol) l.fn.offset 0;
    }

abbrev pub decreases-down : goal.decreases-down
decreases-down l = get_or (counts_in l.self-inside.bytes.items) l.symbol 0
