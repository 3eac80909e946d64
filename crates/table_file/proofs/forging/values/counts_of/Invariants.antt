use Rattle.std.proofs.Common.{◌≡◌, ◌<◌, ℕ, length, get_or}
use Rattle.pair_dict.specs.Symbols.{values_of}
use Rattle.table_file.proofs.forging.values.counts_of.Given as goal

abbrev pub invariant-loop-symbol : goal.invariant-loop-symbol
invariant-loop-symbol l = record {
  long : length l.counts.items ≡ l.symbol;
  each : (s : ℕ) → s < length l.counts.items → get_or l.counts.items s 0 ≡ length (values_of l.symbols s);
}
