use Rattle.std.proofs.Common.{◌≡◌, ◌+◌, ◌-◌, arith}
use Rattle.pair_dict.specs.Marks.{IsMark}
use Rattle.pair_dict.proofs.PlaceLemmas.{further_then}
use Rattle.pair_dict.proofs.dictionary.Dictionary.skip_marked.Goals as goal

pub loop-number-preserved : goal.loop-number-preserved
loop-number-preserved c =
    let d = c.args.self.now in
    let block = c.args.block.now in
    let from = c.args.from in
    let place = c.skip_words-place.result in
    let further = further_then d block from c.loop-number.place place c.loop-number.invariant.further c.skip_words-place.ensures in
    let values : c.args.offset - from.left + (from.left - place.left) ≡ c.args.offset - place.left = omega (arith, further.back, c.requires.before.left) in
    let mark : IsMark d block place.at (c.args.offset - place.left) = rw values at (further.passed (c.args.offset - from.left) c.requires.before.mark) in
    record {
      further = further;
      marks = c.add.ensures d block c.loop-number.invariant.marks mark;
    }
