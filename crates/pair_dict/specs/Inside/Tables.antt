-- What values are found by, for a layout.
use Rattle.std.specs.Prelude.{◌≡◌, ◌^◌, ◌≤◌, length}
use Rattle.pair_dict.specs.Symbols.{symbol_count}
use Rattle.pair_dict.specs.Reading.{words}
use Rattle.pair_dict.specs.Inside.Layouts.{pairing_in}
use Rattle.pair_dict.specs.Inside.Counts.{AreCounts}
use Rattle.pair_dict.specs.Inside.Windows.{lowest_in}
use Rattle.pair_dict.specs.Inside.Nodes.{AreNodes, counts_in}
use Rattle.pair_dict.specs.Inside.Words.{AreCodes, codes_in, nodes_in}
use Rattle.pair_dict.specs.Inside.Runs.{AreRuns}
use Rattle.pair_dict.specs.declared.layout.Layout.{Layout}
use Rattle.pair_dict.specs.declared.dictionary.CodeTables.{CodeTables}

pub record AreCodeTables (a : Layout) (t : CodeTables) : Type 0 where
  pub least : t.search.least ≡ a.least
  pub lowest : lowest_in (codes_in t.search.lengths t.words.items) ≡ words a.lowest.now
  pub codes : AreCodes t.search t.words.items t.bytes.items
  pub all_symbols : t.search.symbols ≡ symbol_count a.symbols.now
  pub counts : AreCounts a.symbols.now (counts_in t.bytes.items)
  pub nodes : AreNodes a.symbols.now (nodes_in t.search.lengths t.words.items)
  pub some_bits : 1 ≤ t.search.run_width
  pub few_bits : t.search.run_width ≤ 13
  pub all_runs : length t.runs.items ≡ 2 ^ t.search.run_width
  pub runs : AreRuns (pairing_in a).0 t.search.run_width t.runs.items
