use Rattle.std.proofs.Common.{◌<◌, ℕ}
use Rattle.pair_dict.specs.Codes.{IsCode}
use Rattle.table_file.specs.Plan.{pairing_of, code_of}
use Rattle.table_file.proofs.forging.codes.are_good_codes.Given as goal

abbrev pub invariant-loop-symbol : goal.invariant-loop-symbol
invariant-loop-symbol l = (s : ℕ) → s < l.symbol → IsCode (pairing_of l.plan) (code_of l.plan s).length (code_of l.plan s).bits s
