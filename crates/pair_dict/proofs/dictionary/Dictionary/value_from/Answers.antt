use Rattle.std.proofs.Common.{◌∙◌, ap, sym, arith, Some}
use Rattle.pair_dict.proofs.BlockValues.{left_found, left_none}
use Rattle.pair_dict.proofs.PlaceLemmas.{further_then, further_code}
use Rattle.pair_dict.proofs.dictionary.Dictionary.value_from.Goals as goal

pub returns-then-next-skipped-clause-found : goal.returns-then-next-skipped-clause-found
returns-then-next-skipped-clause-found c = λ offset rest.
    let d = c.args.self.now in
    let block = c.args.block.now in
    let further = further_then d block c.args.from c.codes.place c.skip_runs-next.result c.codes.invariant c.skip_runs-next.ensures in
    left_found d block c.skip_runs-next.result.at c.skip_runs-next.result.left offset c.in-Some.symbol c.in-Some.length (sym c.in-Some.ensures.is) c.in-Some.ensures.sound.some c.in-Some.ensures.sound.within
    (rw c.values-skipped.ensures.is at c.if-next-skipped.true) (further.rest offset rest)
    ∙ ap Some (sym c.value_in.ensures)

pub codes-preserved : goal.codes-preserved
codes-preserved c =
    let d = c.args.self.now in
    let block = c.args.block.now in
    let further = further_then d block c.args.from c.codes.place c.skip_runs-next.result c.codes.invariant c.skip_runs-next.ensures in
    further_code d block c.args.from c.skip_runs-next.result c.after-place.result c.in-Some.symbol c.in-Some.length c.values-skipped.result further (sym c.in-Some.ensures.is) c.in-Some.ensures.sound.some c.in-Some.ensures.sound.short
    c.values-skipped.ensures.some c.values-skipped.ensures.is (omega (arith, c.if-next-skipped.false)) c.in-Some.ensures.sound.within c.after-place.ensures.at c.after-place.ensures.left

pub returns-in_default-clause-damaged : goal.returns-in_default-clause-damaged
returns-in_default-clause-damaged c = λ offset rest.
    let d = c.args.self.now in
    let block = c.args.block.now in
    let further = further_then d block c.args.from c.codes.place c.skip_runs-next.result c.codes.invariant c.skip_runs-next.ensures in
    left_none d block c.skip_runs-next.result.at c.skip_runs-next.result.left offset (sym c.in_default.ensures.is) (further.rest offset rest)
