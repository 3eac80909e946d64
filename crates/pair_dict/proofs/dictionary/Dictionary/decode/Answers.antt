use Rattle.std.proofs.Common.{◌∙◌, ◌++◌, sym, ap, arith, length}
use Rattle.pair_dict.specs.Symbols.{values_of}
use Rattle.pair_dict.proofs.BlockValues.{cut_first, cut_next, cut_none, cut_full}
use Rattle.std.proofs.lemmas.List.{length-take}
use Rattle.pair_dict.proofs.dictionary.Dictionary.decode.Goals as goal
use Rattle.pair_dict.proofs.dictionary.Dictionary.decode.Goals.{else-codes-test, then-codes-test+in_default}

pub codes-init : goal.codes-init
codes-init c = record {
  within = omega arith;
  slow = omega arith;
  short = omega (arith, c.in_ok-values.ensures.len);
  room = c.in_ok-values.ensures.capacity;
  exact = c.in_ok-values.ensures.exact;
  cut = rw c.in_ok-values.ensures.items (cut_first c.args.self.now c.args.block.now c.limit_of-limit.result);
}

pub codes-preserved : goal.codes-preserved
codes-preserved c = record {
  within = c.in-Some.ensures.sound.within;
  slow = omega (arith, c.codes.invariant.slow, c.in-Some.ensures.sound.short, c.push_values.ensures.more, c.codes-test.true, c.len.ensures);
  short = omega (arith, c.push_values.new.values.ok.0, ap length c.push_values.ensures.is, length-take c.limit_of-limit.result (c.codes.values.items ++ values_of c.args.self.now.symbols c.in-Some.symbol));
  room = omega (arith, c.codes.invariant.room, c.push_values.ensures.room);
  exact = c.push_values.ensures.room ∙ c.codes.invariant.exact;
  cut = cut_next c.args.self.now c.args.block.now c.codes.at c.limit_of-limit.result c.codes.values.items c.push_values.new.values.items c.in-Some.symbol c.in-Some.length (sym c.in-Some.ensures.is)
      c.in-Some.ensures.sound.some c.in-Some.ensures.sound.within c.push_values.ensures.is c.codes.invariant.cut;
}

pub returns-clause-values : goal.returns-clause-values
returns-clause-values c = elim c.codes-test.branch [
  | else-codes-test w ↦ cut_full c.args.self.now c.args.block.now c.codes.at c.limit_of-limit.result c.codes.values.items (omega (arith, w.codes-test.false, c.len.ensures, c.codes.values.ok.0)) c.codes.invariant.cut
  | then-codes-test+in_default w ↦ cut_none c.args.self.now c.args.block.now c.codes.at c.limit_of-limit.result c.codes.values.items (sym w.in_default.ensures.is) c.codes.invariant.cut
] ∙ c.limit_of-limit.ensures.same

pub returns-clause-room : goal.returns-clause-room
returns-clause-room c = omega (arith, c.codes.invariant.exact, c.limit_of-limit.ensures.small)

pub returns-clause-asked : goal.returns-clause-asked
returns-clause-asked c = omega (arith, c.codes.invariant.exact, c.limit_of-limit.ensures.few)
