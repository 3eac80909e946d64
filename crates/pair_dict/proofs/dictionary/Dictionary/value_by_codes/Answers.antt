use Rattle.std.proofs.Common.{◌∙◌, ap, sym, arith, Some}
use Rattle.pair_dict.proofs.BlockValues.{left_found, left_none}
use Rattle.pair_dict.proofs.PlaceLemmas.{code_skipped}
use Rattle.pair_dict.proofs.dictionary.Dictionary.value_by_codes.Goals as goal

pub returns-in_default-clause-damaged : goal.returns-in_default-clause-damaged
returns-in_default-clause-damaged c = λ offset rest.
    let d = c.args.self.now in
    let block = c.args.block.now in
    let place = c.codes.place in
    left_none d block place.at place.left offset (sym (c.in_default.ensures.is block place.at c.filled-bits.ensures)) (c.codes.invariant.further.rest offset rest)

pub returns-then-place-skipped-clause-found : goal.returns-then-place-skipped-clause-found
returns-then-place-skipped-clause-found c = λ offset rest.
    let d = c.args.self.now in
    let block = c.args.block.now in
    let place = c.codes.place in
    let code = c.in-Some.ensures in
    left_found d block place.at place.left offset c.in-Some.symbol c.in-Some.length (sym (code.is block place.at c.filled-bits.ensures)) code.sound.some (omega (arith, c.filled-bits.ensures.within, c.held.ensures, c.if-held-lt32.false, code.sound.short))
    (rw c.values-skipped.ensures.is at c.if-place-skipped.true) (c.codes.invariant.further.rest offset rest)
    ∙ ap Some (sym c.value_in.ensures)

pub codes-preserved : goal.codes-preserved
codes-preserved c =
    let place = c.codes.place in
    let code = c.in-Some.ensures in
    let next = code_skipped c.args.self.now c.args.block.now c.args.from place c.after-place.result c.filled-bits.result c.without-buffer.result c.in-Some.symbol c.in-Some.length c.values-skipped.result
    c.codes.invariant.further c.filled-bits.ensures (sym (code.is c.args.block.now place.at c.filled-bits.ensures)) code.sound.some code.sound.short (omega (arith, c.held.ensures, c.if-held-lt32.false)) c.values-skipped.ensures.some c.values-skipped.ensures.is
    (omega (arith, c.if-place-skipped.false)) c.after-place.ensures.at c.after-place.ensures.left c.without-buffer.ensures.bits c.without-buffer.ensures.held in
    record { further = next.further; shows = next.shows }
