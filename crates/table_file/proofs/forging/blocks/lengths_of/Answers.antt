use Rattle.std.proofs.Common.{◌≡◌, ◌<◌, ◌≤◌, length, get_or, arith, ◌∙◌}
use Rattle.std.proofs.lemmas.List.Elements.{All-more, All-get_or}
use Rattle.std.proofs.Common.{below_more}
use Rattle.table_file.specs.Plan.{symbol_bytes, symbols_values, value_count, first_values, FitsBlock}
use Rattle.table_file.proofs.Planned.{more_values}
use Rattle.table_file.proofs.Counting.{sum_is, cut_next}
use Rattle.table_file.proofs.forging.blocks.lengths_of.Goals as goal

pub loop-block-preserved : goal.loop-block-preserved
unfolding first_values
loop-block-preserved c =
    let q = c.args.plan.now in
    let i = c.loop-block.block-index in
    let inv = c.loop-block.invariant in
    let block = c.block-item.result in
    let value = c.deref-block-items.ensures.value in
    let lt : i < length q.blocks.items = rw value at c.loop-block-test.true in
    let is : block ≡ get_or q.blocks.items i block = rw value at c.block-item.is in
    let fits : FitsBlock q block.items = rw (← is) at (All-get_or (λ b. FitsBlock q b.items) q.blocks.items i block lt c.requires.fit) in
    let sum = sum_is (symbol_bytes q) c.args.counts.now block.items c.requires.counts (λ j below. omega (arith, fits.known j 0 below, c.requires.counts.lengths)) in
    let found = rw c.deref.ensures.value at c.in-Some.ensures.found in
    let count : c.in-Some.count ≡ value_count (symbol_bytes q) block.items = found.0 ∙ sum in
    let more = more_values (λ b. symbols_values (symbol_bytes q) b.items) q.blocks.items i block lt is in
    let some : 1 ≤ value_count (symbol_bytes q) block.items = omega (arith, count, found.1) in
    let few : value_count (symbol_bytes q) block.items ≤ 65536 = omega (arith, count, found.2) in
    record {
      lengths = rw c.in_ok-push.ensures.items (cut_next (λ b. value_count (symbol_bytes q) b.items) q.blocks.items i block c.loop-block.lengths.items _ c.loop-block.left c.in-Some.count c.min-held.result lt is count
          (λ le. omega (arith, le, c.min-held.ensures)) (λ below. omega (arith, below, c.min-held.ensures)) inv.lengths);
      left = omega (arith, more, count, inv.left, c.min-held.ensures);
      some = All-more (λ b. 1 ≤ value_count (symbol_bytes q) b.items) q.blocks.items i block lt inv.some (rw (← is) some);
      few = All-more (λ b. value_count (symbol_bytes q) b.items ≤ 65536) q.blocks.items i block lt inv.few (rw (← is) few);
      needed = below_more _ _ inv.needed (omega (arith, inv.left, c.if-left-eq0.false));
    }

pub returns-in_default-clause-bad : goal.returns-in_default-clause-bad
returns-in_default-clause-bad c = λ h.
    let q = c.args.plan.now in
    let i = c.loop-block.block-index in
    let block = c.block-item.result in
    let value = c.deref-block-items.ensures.value in
    let lt : i < length q.blocks.items = rw value at c.loop-block-test.true in
    let is : block ≡ get_or q.blocks.items i block = rw value at c.block-item.is in
    let fits : FitsBlock q block.items = rw (← is) at (All-get_or (λ b. FitsBlock q b.items) q.blocks.items i block lt c.requires.fit) in
    let sum = sum_is (symbol_bytes q) c.args.counts.now block.items c.requires.counts (λ j below. omega (arith, fits.known j 0 below, c.requires.counts.lengths)) in
    let some : 1 ≤ value_count (symbol_bytes q) block.items = rw (← is) at (All-get_or (λ b. 1 ≤ value_count (symbol_bytes q) b.items) q.blocks.items i block lt h.some) in
    let few : value_count (symbol_bytes q) block.items ≤ 65536 = rw (← is) at (All-get_or (λ b. value_count (symbol_bytes q) b.items ≤ 65536) q.blocks.items i block lt h.few) in
    let none = rw c.deref.ensures.value at c.in_default.ensures.none in
    none (omega (arith, sum, some)) (omega (arith, sum, few))
