use Rattle.std.proofs.Common.{◌≡◌, ◌≤◌, ◌-◌, ◌*◌, ◌++◌, length, take, vec_len, vec_capacity}
use Rattle.pair_dict.specs.Symbols.{values_of}
use Rattle.pair_dict.proofs.Pending.{after, IsPending}
use Rattle.pair_dict.proofs.dictionary.Dictionary.push_values.Given as goal

abbrev pub invariant-values : goal.invariant-values
invariant-values l =
    record {
      pending : IsPending l.self-inside.symbols.now l.limit l.values.items (l.fn.values.items ++ values_of l.self-inside.symbols.now l.fn.symbol) l.symbol l.top l.waiting;
      places : length l.waiting ≡ 256;
      grown : vec_len l.fn.values ≤ vec_len l.values;
      room : vec_capacity l.values ≡ vec_capacity l.fn.values;
    }

abbrev pub decreases-values : goal.decreases-values
decreases-values l = 2 * length (values_of l.self-inside.symbols.now l.symbol ++ after l.self-inside.symbols.now (take l.top l.waiting)) - l.top
