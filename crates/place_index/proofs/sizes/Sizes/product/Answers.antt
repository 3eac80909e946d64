use Rattle.std.proofs.Common.{◌≡◌, ℕ, ◌*◌, ◌+◌, ◌≤◌, drop, get_or, sym, ap, ◌∙◌, arith}
use Rattle.place_index.specs.Shape.{product}
use Rattle.place_index.proofs.Shapes.Products.{product_drop, part_most, some_drop, product_all}
use Rattle.place_index.proofs.sizes.Sizes.product.Goals as goal

again : (a b x : ℕ) → a * b * x ≡ a * (b * x)
again a b x = omega arith

once : (a : ℕ) → a * 1 ≡ a
once a = omega arith

pub overflow_mul-product : goal.overflow_mul-product
overflow_mul-product c =
    let within : c.loop-size.product * get_or c.as_slice-all.result.now c.loop-size.size-index 0 ≤ product c.as_slice-all.result.now =
    part_most (c.loop-size.product * get_or c.as_slice-all.result.now c.loop-size.size-index 0) (product (drop (c.loop-size.size-index + 1) c.as_slice-all.result.now)) (product c.as_slice-all.result.now)
    (again c.loop-size.product (get_or c.as_slice-all.result.now c.loop-size.size-index 0) (product (drop (c.loop-size.size-index + 1) c.as_slice-all.result.now))
    ∙ ap (λ x. c.loop-size.product * x) (sym (product_drop c.as_slice-all.result.now c.loop-size.size-index c.loop-size-test.true)) ∙ c.loop-size.invariant)
    (some_drop c.as_slice-all.result.now (c.loop-size.size-index + 1) (omega (arith, ap product c.as_slice-all.ensures.is, c.as_slice-all.ensures.some))) in
    omega (arith, within, ap product c.as_slice-all.ensures.is, c.as_slice-all.ensures.fits)

pub loop-size-preserved : goal.loop-size-preserved
loop-size-preserved c =
    again c.loop-size.product (get_or c.as_slice-all.result.now c.loop-size.size-index 0) (product (drop (c.loop-size.size-index + 1) c.as_slice-all.result.now))
    ∙ ap (λ x. c.loop-size.product * x) (sym (product_drop c.as_slice-all.result.now c.loop-size.size-index c.loop-size-test.true)) ∙ c.loop-size.invariant

pub returns-clause-is : goal.returns-clause-is
returns-clause-is c =
    sym (once c.loop-size.product) ∙ ap (λ x. c.loop-size.product * x) (sym (product_all c.as_slice-all.result.now c.loop-size.size-index c.loop-size-test.false)) ∙ c.loop-size.invariant ∙ ap product c.as_slice-all.ensures.is
