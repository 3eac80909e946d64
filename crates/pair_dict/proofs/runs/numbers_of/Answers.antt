use Rattle.std.proofs.Common.{arith, ◌∙◌}
use Rattle.std.proofs.lemmas.Nat.{shl_whole}
use Rattle.pair_dict.proofs.runs.numbers_of.Goals as goal

pub returns : goal.returns
returns c = shl_whole 1 1 c.args.bits 64 (omega arith) (omega (arith, c.requires)) ∙ (omega arith)
