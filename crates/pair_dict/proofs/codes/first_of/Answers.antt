use Rattle.std.proofs.Common.{◌-◌, arith}
use Rattle.std.proofs.lemmas.Nat.{shl_whole}
use Rattle.pair_dict.proofs.codes.first_of.Goals as goal

pub returns-then-base-length : goal.returns-then-base-length
returns-then-base-length c = record {
  possible = λ lt. shl_whole c.args.base c.args.length (32 - c.args.length) 64 lt (omega arith);
  impossible = λ le. absurd (omega (arith, le, c.if-base-length.true, shl_whole 1 1 c.args.length 64 (omega arith) (omega arith)));
}
