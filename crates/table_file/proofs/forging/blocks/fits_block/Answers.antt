use Rattle.std.proofs.Common.{◌≡◌, ◌<◌, ◌+◌, ◌*◌, ◌^◌, get_or, arith, ap, rules}
use Rattle.std.proofs.lemmas.Bool.{false≢true}
use Rattle.std.proofs.lemmas.List.Elements.{All-more}
use Rattle.pair_dict.specs.Symbols.{symbol_count}
use Rattle.table_file.specs.Plan.{code_of, symbol_bytes}
use Rattle.table_file.proofs.Counting.{size_more, size_front}
use Rattle.table_file.proofs.forging.blocks.fits_block.Goals as goal

pub returns-then-left-length : goal.returns-then-left-length
returns-then-left-length c = (
  λ t. absurd (false≢true t),
  λ h. absurd (
      let i = c.loop-symbol.symbol-index in
      let s = get_or c.args.block.now i 0 in
      let more = size_more (code_of c.args.plan.now) c.args.block.now i s c.loop-symbol-test.true (search rules) in
      let front = size_front (code_of c.args.plan.now) c.args.block.now (i + 1) in
      let long : c.code_of-length.result.length ≡ (code_of c.args.plan.now s).length = ap (λ x. x.length) c.code_of-length.ensures.is in
      let size : 8 * c.args.size ≡ 8 * 2 ^ c.args.plan.now.block_exponent = ap (λ n. 8 * n) c.requires.size in
      omega (arith, more, front, long, size, h.fits, c.loop-symbol.invariant.left, c.if-left-length.true)),
)

pub loop-symbol-preserved : goal.loop-symbol-preserved
loop-symbol-preserved c =
    let i = c.loop-symbol.symbol-index in
    let s = get_or c.args.block.now i 0 in
    let more = size_more (code_of c.args.plan.now) c.args.block.now i s c.loop-symbol-test.true (search rules) in
    let long : c.code_of-length.result.length ≡ (code_of c.args.plan.now s).length = ap (λ x. x.length) c.code_of-length.ensures.is in
    record {
      left = omega (arith, more, long, c.loop-symbol.invariant.left, c.if-left-length.false);
      known = All-more (λ s. s < symbol_count (symbol_bytes c.args.plan.now)) c.args.block.now i 0 c.loop-symbol-test.true c.loop-symbol.invariant.known (omega (arith, c.if-count-symbol.false, c.requires.count));
    }
