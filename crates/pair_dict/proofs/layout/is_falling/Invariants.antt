use Rattle.std.proofs.Common.{◌≡◌, ◌-◌, drop}
use Rattle.pair_dict.specs.Reading.{falls, words}
use Rattle.pair_dict.proofs.layout.is_falling.Given as goal

abbrev pub invariant-loop-i : goal.invariant-loop-i
invariant-loop-i l = falls (drop (l.i - 1) (words l.bytes)) ≡ falls (words l.bytes)
