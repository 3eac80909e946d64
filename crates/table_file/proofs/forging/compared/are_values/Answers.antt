use Rattle.std.proofs.Common.{◌<◌, ◌≤◌, length, arith, sym, ap, ◌∙◌}
use Rattle.table_file.specs.Sparse.{sizes_of}
use Rattle.table_file.proofs.Planned.{block_step, blocks_done, stripped, block_back, back_step, not_stripped, done_back, back_expansion, coded_lengths, coded_values, coded_expansion}
use Rattle.std.proofs.lemmas.Bool.{eqb-true, eq-eqb}
use Rattle.table_file.proofs.Loops.{nothing_left}
use Rattle.table_file.proofs.Before.{length-sizes}
use Rattle.table_file.proofs.forging.compared.are_values.Goals as goal

pub loop-block-preserved : goal.loop-block-preserved
loop-block-preserved c =
    let codes = c.args.codes.now in
    let lengths = c.args.view.lengths.now in
    let blocks = c.args.view.blocks.now in
    let held = c.in_ok-held.held.items in
    let lt : c.loop-block.block < codes.blocks = omega (arith, c.loop-block-test.true, c.blocks-block-end.ensures.is) in
    let long = coded_lengths c.args.view.size c.args.view.coding.now codes lengths c.requires.coded c.requires.checked.lengths_fit in
    let few : codes.blocks ≤ length (sizes_of lengths) = omega (arith, long, length-sizes lengths) in
    let held-is = coded_values c.args.view.coding.now codes lengths blocks held c.loop-block.block c.requires.coded c.in_ok-held.ensures.is in
    let cut = stripped c.loop-block.rest.now c.deref.result.now held c.in-Some.after c.in-Some.ensures.cases c.deref.ensures.value in
    record {
      to = λ h. c.loop-block.invariant.to (block_step codes lengths blocks held c.loop-block.rest.now c.in-Some.after.now c.loop-block.block lt few held-is (omega (arith, c.if-len-size_at.false, c.len.ensures, c.size_at.ensures.size)) cut h);
      from = λ h. back_step codes lengths blocks held c.loop-block.rest.now c.in-Some.after.now c.loop-block.block (block_back codes lengths blocks held c.loop-block.rest.now c.loop-block.block lt few held-is (c.loop-block.invariant.from h)) cut;
    }

pub returns-clause-is : goal.returns-clause-is
returns-clause-is c = λ t.
    coded_expansion c.args.view.coding.now c.args.codes.now c.args.view.lengths.now c.args.view.blocks.now c.args.values.now c.requires.coded
    (c.loop-block.invariant.to (blocks_done c.args.codes.now c.args.view.lengths.now c.args.view.blocks.now c.loop-block.rest.now c.loop-block.block (omega (arith, c.loop-block-test.false, c.blocks-block-end.ensures.is)) (nothing_left c.loop-block.rest.now (eqb-true (length c.loop-block.rest.now) 0 (sym c.is_empty.ensures ∙ t)))))

pub returns-clause-all : goal.returns-clause-all
returns-clause-all c = λ h.
    let none = done_back c.args.codes.now c.args.view.lengths.now c.args.view.blocks.now c.loop-block.rest.now c.loop-block.block (omega (arith, c.loop-block-test.false, c.blocks-block-end.ensures.is))
    (c.loop-block.invariant.from (back_expansion c.args.view.coding.now c.args.codes.now c.args.view.lengths.now c.args.view.blocks.now c.args.values.now c.requires.coded h)) in
    c.is_empty.ensures ∙ eq-eqb (length c.loop-block.rest.now) 0 (ap length none)

pub returns-then-len-size_at-clause-all : goal.returns-then-len-size_at-clause-all
returns-then-len-size_at-clause-all c = λ h.
    let codes = c.args.codes.now in
    let lengths = c.args.view.lengths.now in
    let blocks = c.args.view.blocks.now in
    let long = coded_lengths c.args.view.size c.args.view.coding.now codes lengths c.requires.coded c.requires.checked.lengths_fit in
    let held-is = coded_values c.args.view.coding.now codes lengths blocks c.in_ok-held.held.items c.loop-block.block c.requires.coded c.in_ok-held.ensures.is in
    let f = block_back codes lengths blocks c.in_ok-held.held.items c.loop-block.rest.now c.loop-block.block (omega (arith, c.loop-block-test.true, c.blocks-block-end.ensures.is)) (omega (arith, long, length-sizes lengths)) held-is
    (c.loop-block.invariant.from (back_expansion c.args.view.coding.now codes lengths blocks c.args.values.now c.requires.coded h)) in
    absurd (omega (arith, f.full, c.if-len-size_at.true, c.len.ensures, c.size_at.ensures.size))

pub returns-in_default-clause-all : goal.returns-in_default-clause-all
returns-in_default-clause-all c = λ h.
    let codes = c.args.codes.now in
    let lengths = c.args.view.lengths.now in
    let blocks = c.args.view.blocks.now in
    let long = coded_lengths c.args.view.size c.args.view.coding.now codes lengths c.requires.coded c.requires.checked.lengths_fit in
    let held-is = coded_values c.args.view.coding.now codes lengths blocks c.in_ok-held.held.items c.loop-block.block c.requires.coded c.in_ok-held.ensures.is in
    let f = block_back codes lengths blocks c.in_ok-held.held.items c.loop-block.rest.now c.loop-block.block (omega (arith, c.loop-block-test.true, c.blocks-block-end.ensures.is)) (omega (arith, long, length-sizes lengths)) held-is
    (c.loop-block.invariant.from (back_expansion c.args.view.coding.now codes lengths blocks c.args.values.now c.requires.coded h)) in
    absurd (not_stripped c.loop-block.rest.now c.deref.result.now c.in_ok-held.held.items c.in_default.ensures.cases c.deref.ensures.value f.after f.front)
