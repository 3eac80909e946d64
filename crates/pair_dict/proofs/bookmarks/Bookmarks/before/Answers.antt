use Rattle.std.proofs.Common.{◌≡◌, ◌-◌, arith}
use Rattle.pair_dict.proofs.PlaceLemmas.{mark_first}
use Rattle.pair_dict.proofs.bookmarks.Bookmarks.before.Goals as goal

pub loop-i-init : goal.loop-i-init
loop-i-init c = record {
  is = λ d block are.
      let none : c.args.offset - c.args.offset ≡ 0 = omega arith in
      record { left = omega arith; mark = rw none (mark_first d block) };
  near = omega arith;
  left = omega arith;
}
