use Rattle.std.proofs.Common.{◌≡◌, ◌≤◌, ◌-◌, ◌*◌, length, vec_len, vec_capacity}
use Rattle.pair_dict.proofs.BlockValues.{IsCut}
use Rattle.pair_dict.proofs.dictionary.Dictionary.decode.Given as goal

abbrev pub invariant-codes : goal.invariant-codes
invariant-codes l =
    record {
      within : l.at ≤ 8 * length l.block;
      slow : l.at ≤ 32 * vec_len l.values;
      short : vec_len l.values ≤ l.limit;
      room : l.limit ≤ vec_capacity l.values;
      exact : vec_capacity l.values ≡ l.limit;
      cut : IsCut l.self l.block l.at l.limit l.values.items;
    }

abbrev pub decreases-codes : goal.decreases-codes
decreases-codes l = 8 * length l.block - l.at
