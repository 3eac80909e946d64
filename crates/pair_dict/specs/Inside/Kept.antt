-- A dictionary as it is kept.
use Rattle.std.specs.Prelude.{◌≡◌, ◌^◌, ◌≤◌, length}
use Rattle.pair_dict.specs.Symbols.{symbol_count}
use Rattle.pair_dict.specs.Codes.{Pairing}
use Rattle.pair_dict.specs.Inside.Counts.{AreCounts}
use Rattle.pair_dict.specs.Inside.Nodes.{AreNodes, counts_in}
use Rattle.pair_dict.specs.Inside.Windows.{lowest_in}
use Rattle.pair_dict.specs.Inside.Words.{AreCodes, codes_in, nodes_in}
use Rattle.pair_dict.specs.Inside.Runs.{AreRuns}
use Rattle.pair_dict.specs.declared.dictionary.Dictionary.TheInside.{Inside}

abbrev pub kept_pairing : Inside → Pairing
kept_pairing a = record { least = a.search.least; lowest = lowest_in (codes_in a.search.lengths a.words.items); symbols = a.symbols.now }

pub record IsSoundDictionary (a : Inside) : Type 0 where
  pub codes : AreCodes a.search a.words.items a.bytes.items
  pub all_symbols : a.search.symbols ≡ symbol_count a.symbols.now
  pub counts : AreCounts a.symbols.now (counts_in a.bytes.items)
  pub nodes : AreNodes a.symbols.now (nodes_in a.search.lengths a.words.items)
  pub some_bits : 1 ≤ a.search.run_width
  pub few_bits : a.search.run_width ≤ 13
  pub all_runs : length a.runs.items ≡ 2 ^ a.search.run_width
  pub runs : AreRuns (kept_pairing a) a.search.run_width a.runs.items
