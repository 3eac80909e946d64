use Rattle.std.proofs.Common.{◌≡◌, ◌∷◌, ◌+◌, ◌∙◌, sym, ap, drop}
use Rattle.std.proofs.lemmas.Result.{err_from_is_err_and}
use Rattle.std.proofs.lemmas.List.{drop_more, drop_all}
use Rattle.table_file.specs.Reading.{each_at}
use Rattle.table_file.specs.Files.{section_at}
use Rattle.table_file.proofs.Loops.{goes_on, ends, is_done}
use Rattle.table_file.proofs.Sized.{sized}
use Rattle.table_file.proofs.parts.sections.Goals as goal

pub returns-in_err-run-clause-is : goal.returns-in_err-run-clause-is
returns-in_err-run-clause-is c =
    let p = err_from_is_err_and c.from_residual.result c.from_residual.ensures.1 in
    let step = section_at c.args.section in
    let a = c.index-parts-i.result in
    let more = drop_more c.args.parts.now c.loop-i.i a c.loop-i-test.true ∙ ap (λ x. x ∷ drop (c.loop-i.i + 1) c.args.parts.now) (sym c.index-parts-i.is) in
    rw (p.1, p.2) (ends c.in_err-run.field-0.0 step c.loop-i.runs.items a (drop c.loop-i.i c.args.parts.now) (drop (c.loop-i.i + 1) c.args.parts.now) c.loop-i.rest.now (each_at step c.args.parts.now c.args.bytes.now)
    more c.in_err-run.ensures.is c.loop-i.invariant)

pub loop-i-preserved : goal.loop-i-preserved
loop-i-preserved c =
    let step = section_at c.args.section in
    let a = c.index-parts-i.result in
    let more = drop_more c.args.parts.now c.loop-i.i a c.loop-i-test.true ∙ ap (λ x. x ∷ drop (c.loop-i.i + 1) c.args.parts.now) (sym c.index-parts-i.is) in
    let new-is : c.new.result ≡ c.in_ok-run.run'.now = c.new.ensures in
    rw (c.in_ok-push.ensures.items, new-is) (goes_on step c.loop-i.runs.items a (drop c.loop-i.i c.args.parts.now) (drop (c.loop-i.i + 1) c.args.parts.now) c.loop-i.rest.now c.in_ok-run.run'.now c.in_ok-run.after.now (each_at step c.args.parts.now c.args.bytes.now)
    more c.in_ok-run.ensures.is c.loop-i.invariant)

pub returns-clause-is : goal.returns-clause-is
returns-clause-is c =
    let step = section_at c.args.section in
    is_done step c.loop-i.runs.items (drop c.loop-i.i c.args.parts.now) c.loop-i.rest.now (each_at step c.args.parts.now c.args.bytes.now) (drop_all c.loop-i.i c.args.parts.now c.loop-i-test.false) c.loop-i.invariant

pub returns-clause-sized : goal.returns-clause-sized
returns-clause-sized c = sized c.args.section c.args.parts.now c.args.bytes.now (c.loop-i.runs.items, c.loop-i.rest.now) (returns-clause-is c)
