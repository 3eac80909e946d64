use Rattle.std.proofs.Common.{◌≤◌, ◌+◌, ◌*◌, ℕ, List}
use Rattle.pair_dict.specs.Inside.Windows.{Shows}
use Rattle.pair_dict.specs.Inside.Runs.{AreTaken, IsRunAt, sum_values, sum_bits, run_bits}
use Rattle.pair_dict.proofs.dictionary.Dictionary.four_runs.Given as goal

abbrev pub invariant-loop-taken : goal.invariant-loop-taken
invariant-loop-taken l =
    record {
      are : (block : List ℕ) (p : ℕ) → Shows block p l.fn.buffer → AreTaken l.self block p l.sum l.rest;
      held : 52 ≤ l.rest.held + 13 * l.taken;
      values : sum_values l.sum ≤ 1023 * l.taken;
      bits : sum_bits l.sum ≤ 13 * l.taken;
      last : run_bits l.run ≤ sum_bits l.sum;
      first : (block : List ℕ) (p : ℕ) → Shows block p l.fn.buffer → IsRunAt l.self block p (sum_values l.first) (sum_bits l.first);
      first_few : sum_bits l.first ≤ 52;
      first_fit : sum_values l.first ≤ l.most;
    }
