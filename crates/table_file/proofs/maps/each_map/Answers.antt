use Rattle.std.proofs.Common.{◌∷◌, ◌+◌, ◌∙◌, sym, ap, drop}
use Rattle.std.proofs.lemmas.Result.{err_from_is_err_and}
use Rattle.std.proofs.lemmas.List.{drop_more, drop_all}
use Rattle.table_file.specs.Reading.{each_at}
use Rattle.table_file.specs.Maps.{maps_at}
use Rattle.table_file.proofs.Loops.{goes_on, ends, is_done}
use Rattle.table_file.proofs.maps.each_map.Goals as goal

pub returns-in_err-four : goal.returns-in_err-four
returns-in_err-four c =
    let p = err_from_is_err_and c.from_residual.result c.from_residual.ensures.1 in
    let step = maps_at in
    let a = c.index-parts-i.result in
    let more = drop_more c.args.parts.now c.loop-i.i a c.loop-i-test.true ∙ ap (λ x. x ∷ drop (c.loop-i.i + 1) c.args.parts.now) (sym c.index-parts-i.is) in
    rw (p.1, p.2) (ends c.in_err-four.field-0.0 step c.loop-i.maps.items a (drop c.loop-i.i c.args.parts.now) (drop (c.loop-i.i + 1) c.args.parts.now) c.loop-i.rest.now (each_at step c.args.parts.now c.args.bytes.now)
    more c.in_err-four.ensures.is c.loop-i.invariant)

pub loop-i-preserved : goal.loop-i-preserved
loop-i-preserved c =
    let step = maps_at in
    let a = c.index-parts-i.result in
    let more = drop_more c.args.parts.now c.loop-i.i a c.loop-i-test.true ∙ ap (λ x. x ∷ drop (c.loop-i.i + 1) c.args.parts.now) (sym c.index-parts-i.is) in
    rw c.in_ok-push.ensures.items (goes_on step c.loop-i.maps.items a (drop c.loop-i.i c.args.parts.now) (drop (c.loop-i.i + 1) c.args.parts.now) c.loop-i.rest.now c.in_ok-four.four c.in_ok-four.after.now (each_at step c.args.parts.now c.args.bytes.now)
    more c.in_ok-four.ensures.is c.loop-i.invariant)

pub returns : goal.returns
returns c =
    let step = maps_at in
    is_done step c.loop-i.maps.items (drop c.loop-i.i c.args.parts.now) c.loop-i.rest.now (each_at step c.args.parts.now c.args.bytes.now) (drop_all c.loop-i.i c.args.parts.now c.loop-i-test.false) c.loop-i.invariant
