use Rattle.std.proofs.Common.{ℕ, ◌+◌, ◌<◌, IsTrue}
use Rattle.pair_dict.specs.Inside.Runs.{IsRunWithin}
use Rattle.pair_dict.proofs.runs.are_within.Given as goal

abbrev pub invariant-loop-rest : goal.invariant-loop-rest
invariant-loop-rest l = IsTrue l.within → (rest : ℕ) → rest < l.rest → IsRunWithin l.runs (l.behind + rest) l.most
