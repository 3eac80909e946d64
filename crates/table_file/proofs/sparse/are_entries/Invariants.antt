use Rattle.std.proofs.Common.{◌≡◌, true}
use Rattle.table_file.specs.Sparse.{sizes_of, are_entries}
use Rattle.table_file.proofs.sparse.are_entries.Given as goal

abbrev pub invariant-loop-k : goal.invariant-loop-k
invariant-loop-k l = are_entries (sizes_of l.lengths) l.span l.entries l.k ≡ true
