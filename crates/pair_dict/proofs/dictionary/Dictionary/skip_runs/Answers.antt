use Rattle.std.proofs.Common.{arith}
use Rattle.pair_dict.proofs.PlaceLemmas.{run_skipped}
use Rattle.pair_dict.proofs.dictionary.Dictionary.skip_runs.Goals as goal

pub runs-preserved : goal.runs-preserved
runs-preserved c =
    let i = c.runs.invariant in
    let next = run_skipped c.args.self.now c.args.block.now c.args.from c.runs.place c.after-place.result c.runs.buffer c.without-buffer.result c.values-values.result c.bits-bits.result i.further i.shows
    (λ le. rw (c.values-values.ensures, c.bits-bits.ensures) (c.run-run.ensures.is c.args.block.now c.runs.place.at i.shows (rw c.bits-bits.ensures at le))) (omega (arith, c.if-values-place.false)) (omega (arith, c.if-bits-held.false, c.held.ensures))
    c.after-place.ensures.at c.after-place.ensures.left c.without-buffer.ensures.bits c.without-buffer.ensures.held in
    record { further = next.further; shows = next.shows }
