use Rattle.std.proofs.Common.{◌∙◌, ◌<◌, ◌+◌, ap, sym, length, take, arith}
use Rattle.place_index.specs.Shape.{factors_of}
use Rattle.place_index.specs.Index.{numbers_of, sum_of_products}
use Rattle.place_index.proofs.Indices.IndexLaw.{factors_size, products_length}
use Rattle.place_index.proofs.Indices.Numbering.{first_number, first_before, some_numbers}
use Rattle.place_index.proofs.Indices.Summing.{summed_first, first_within, summed_next, summed_within, summed_all}
use Rattle.place_index.proofs.indexing.sum_of_groups.Goals as goal

pub bounds-factors-0 : goal.bounds-factors-0
bounds-factors-0 c =
    omega (
      arith,
      ap length (c.factors-factors.ensures ∙ ap factors_of c.shape.ensures.is),
      products_length c.args.turned.now.shape c.args.turned.now.men c.shape.ensures.turned.shape,
      some_numbers c.args.turned.now.shape c.args.turned.now.men,
    )

pub overflow_mul-sum : goal.overflow_mul-sum
overflow_mul-sum c =
    let numbers = numbers_of c.args.turned.now.shape c.args.turned.now.men in
    let factors = c.factors-factors.ensures ∙ ap factors_of c.shape.ensures.is in
    let within = first_within numbers c.factors-factors.result.now c.number_leading-leading.result (some_numbers c.args.turned.now.shape c.args.turned.now.men)
    (c.number_leading-leading.ensures.number ∙ first_number c.args.turned.now.shape c.args.turned.now.men) in
    omega (arith, within, ap (sum_of_products numbers) factors, c.shape.ensures.turned.fits)

pub loop-place-init : goal.loop-place-init
loop-place-init c =
    let numbers = numbers_of c.args.turned.now.shape c.args.turned.now.men in
    let factors = c.factors-factors.ensures ∙ ap factors_of c.shape.ensures.is in
    record {
      before = first_before c.args.turned.now c.number_leading-leading.new.earlier c.number_leading-leading.ensures.earlier;
      sum = summed_first numbers c.factors-factors.result.now c.number_leading-leading.result (some_numbers c.args.turned.now.shape c.args.turned.now.men)
          (c.number_leading-leading.ensures.number ∙ first_number c.args.turned.now.shape c.args.turned.now.men)
          ∙ ap (sum_of_products (take 1 numbers)) factors;
    }

pub number_at-number-requires-clause-place : goal.number_at-number-requires-clause-place
number_at-number-requires-clause-place c =
    omega (arith, c.loop-place-test.true, ap length (c.factors-factors.ensures ∙ ap factors_of c.shape.ensures.is), factors_size c.args.turned.now.shape c.shape.ensures.turned.shape)

pub overflow_mul-sum-in-loop-place : goal.overflow_mul-sum-in-loop-place
overflow_mul-sum-in-loop-place c =
    let factors = c.factors-factors.ensures ∙ ap factors_of c.shape.ensures.is in
    let lt : c.loop-place.place < length (numbers_of c.args.turned.now.shape c.args.turned.now.men) =
    omega (arith, c.loop-place-test.true, ap length factors, products_length c.args.turned.now.shape c.args.turned.now.men c.shape.ensures.turned.shape) in
    let within = summed_within (numbers_of c.args.turned.now.shape c.args.turned.now.men) c.factors-factors.result.now c.loop-place.place c.number_at-number.result c.loop-place.sum lt
    (c.loop-place.invariant.sum ∙ ap (sum_of_products (take c.loop-place.place (numbers_of c.args.turned.now.shape c.args.turned.now.men))) (sym factors)) c.number_at-number.ensures.number in
    omega (arith, within, ap (sum_of_products (numbers_of c.args.turned.now.shape c.args.turned.now.men)) factors, c.shape.ensures.turned.fits)

pub overflow_add-sum : goal.overflow_add-sum
overflow_add-sum c =
    let factors = c.factors-factors.ensures ∙ ap factors_of c.shape.ensures.is in
    let lt : c.loop-place.place < length (numbers_of c.args.turned.now.shape c.args.turned.now.men) =
    omega (arith, c.loop-place-test.true, ap length factors, products_length c.args.turned.now.shape c.args.turned.now.men c.shape.ensures.turned.shape) in
    let within = summed_within (numbers_of c.args.turned.now.shape c.args.turned.now.men) c.factors-factors.result.now c.loop-place.place c.number_at-number.result c.loop-place.sum lt
    (c.loop-place.invariant.sum ∙ ap (sum_of_products (take c.loop-place.place (numbers_of c.args.turned.now.shape c.args.turned.now.men))) (sym factors)) c.number_at-number.ensures.number in
    omega (arith, within, ap (sum_of_products (numbers_of c.args.turned.now.shape c.args.turned.now.men)) factors, c.shape.ensures.turned.fits)

pub loop-place-preserved : goal.loop-place-preserved
loop-place-preserved c =
    let numbers = numbers_of c.args.turned.now.shape c.args.turned.now.men in
    let factors = c.factors-factors.ensures ∙ ap factors_of c.shape.ensures.is in
    let lt : c.loop-place.place < length (numbers_of c.args.turned.now.shape c.args.turned.now.men) =
    omega (arith, c.loop-place-test.true, ap length factors, products_length c.args.turned.now.shape c.args.turned.now.men c.shape.ensures.turned.shape) in
    record {
      before = c.number_at-number.ensures.after;
      sum = summed_next numbers c.factors-factors.result.now c.loop-place.place c.number_at-number.result c.loop-place.sum lt
          (c.loop-place.invariant.sum ∙ ap (sum_of_products (take c.loop-place.place numbers)) (sym factors)) c.number_at-number.ensures.number
          ∙ ap (sum_of_products (take (c.loop-place.place + 1) numbers)) factors;
    }

pub returns : goal.returns
returns c =
    c.loop-place.invariant.sum
    ∙ summed_all (numbers_of c.args.turned.now.shape c.args.turned.now.men) (factors_of c.args.turned.now.shape) c.loop-place.place
    (omega (arith, c.loop-place-test.false, ap length (c.factors-factors.ensures ∙ ap factors_of c.shape.ensures.is), products_length c.args.turned.now.shape c.args.turned.now.men c.shape.ensures.turned.shape))
