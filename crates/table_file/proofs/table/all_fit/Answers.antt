use Rattle.std.proofs.Common.{◌≡◌, ◌∙◌, sym, true, false}
use Rattle.table_file.specs.Files.{indices}
use Rattle.table_file.specs.Sparse.{fits_in}
use Rattle.table_file.proofs.Sized.{fit_step, fit_end}
use Rattle.table_file.proofs.table.all_fit.Goals as goal

pub returns-in-Ok-false : goal.returns-in-Ok-false
returns-in-Ok-false c =
    let p = c.index-parts-i.result in
    let e = c.index-entries-i.result in
    let l = c.index-lengths-i.result in
    let step = fit_step c.args.parts.now c.args.entries.now c.args.lengths.now c.loop-i.i p e l c.loop-i-test.true c.requires.entries.lengths c.requires.lengths.lengths c.index-parts-i.is c.index-entries-i.is c.index-lengths-i.is in
    let no : fits_in (indices p.shape) p.size_record.coding e l ≡ false = sym c.in-Ok-false.ensures ∙ c.in-Ok-false.field-0-test in
    let two = sym c.loop-i.invariant ∙ step in
    sym (rw no at two)

pub loop-i-preserved : goal.loop-i-preserved
loop-i-preserved c =
    let p = c.index-parts-i.result in
    let e = c.index-entries-i.result in
    let l = c.index-lengths-i.result in
    let step = fit_step c.args.parts.now c.args.entries.now c.args.lengths.now c.loop-i.i p e l c.loop-i-test.true c.requires.entries.lengths c.requires.lengths.lengths c.index-parts-i.is c.index-entries-i.is c.index-lengths-i.is in
    let yes : fits_in (indices p.shape) p.size_record.coding e l ≡ true = sym c.in-Ok-true.ensures ∙ c.in-Ok-true.field-0-test in
    sym (rw yes at step) ∙ c.loop-i.invariant

pub returns : goal.returns
returns c = sym (fit_end c.args.parts.now c.args.entries.now c.args.lengths.now c.loop-i.i c.loop-i-test.false) ∙ c.loop-i.invariant
