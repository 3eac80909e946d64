use Rattle.std.proofs.Common.{◌≡◌, drop}
use Rattle.table_file.specs.Sparse.{all_fit}
use Rattle.table_file.proofs.table.all_fit.Given as goal

abbrev pub invariant-loop-i : goal.invariant-loop-i
invariant-loop-i l = all_fit (drop l.i l.parts) (drop l.i l.entries) (drop l.i l.lengths) ≡ all_fit l.parts l.entries l.lengths
