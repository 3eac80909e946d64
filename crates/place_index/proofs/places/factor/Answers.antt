use Rattle.std.proofs.Common.{◌≡◌, ℕ, ◌*◌, ◌+◌, ◌≤◌, length, drop, get_or, sym, ap, ◌∙◌, arith}
use Rattle.place_index.specs.Shape.{factor_at, product}
use Rattle.place_index.proofs.Shapes.Products.{factor_most, factor_some, factor_next_below, factor_next_above, factor_all, part_most, some_drop}
use Rattle.place_index.proofs.places.factor.Goals as goal
use Rattle.place_index.proofs.places.factor.Goals.{then-places-i, else-places-i}

again : (a b x : ℕ) → a * b * x ≡ a * (b * x)
again a b x = omega arith

once : (a : ℕ) → a * 1 ≡ a
once a = omega arith

pub overflow_mul-factor : goal.overflow_mul-factor
overflow_mul-factor c =
    let within : c.loop-i.factor * get_or c.as_slice-all.result.now c.loop-i.i 0 ≤ factor_at c.args.places.now c.as_slice-all.result.now c.args.place =
    part_most (c.loop-i.factor * get_or c.as_slice-all.result.now c.loop-i.i 0) (factor_at (drop (c.loop-i.i + 1) c.args.places.now) (drop (c.loop-i.i + 1) c.as_slice-all.result.now) c.args.place) _
    (again c.loop-i.factor (get_or c.as_slice-all.result.now c.loop-i.i 0) _
    ∙ ap (λ x. c.loop-i.factor * x) (sym (factor_next_below c.args.places.now c.as_slice-all.result.now c.args.place c.loop-i.i (omega (arith, c.requires, ap length c.as_slice-all.ensures.is, c.loop-i-test.true)) c.loop-i-test.true c.if-places-i.true))
    ∙ c.loop-i.invariant)
    (factor_some (drop (c.loop-i.i + 1) c.args.places.now) (drop (c.loop-i.i + 1) c.as_slice-all.result.now) c.args.place (some_drop c.as_slice-all.result.now (c.loop-i.i + 1) (omega (arith, ap product c.as_slice-all.ensures.is, c.as_slice-all.ensures.some)))) in
    omega (arith, within, factor_most c.args.places.now c.as_slice-all.result.now c.args.place (omega (arith, ap product c.as_slice-all.ensures.is, c.as_slice-all.ensures.some)), ap product c.as_slice-all.ensures.is, c.as_slice-all.ensures.fits)

pub loop-i-preserved : goal.loop-i-preserved
loop-i-preserved c =
    elim c.if-places-i.branch [
      | then-places-i w ↦
          ap (λ x. x * factor_at (drop (c.loop-i.i + 1) c.args.places.now) (drop (c.loop-i.i + 1) c.as_slice-all.result.now) c.args.place) w.factor-is
          ∙ again c.loop-i.factor (get_or c.as_slice-all.result.now c.loop-i.i 0) (factor_at (drop (c.loop-i.i + 1) c.args.places.now) (drop (c.loop-i.i + 1) c.as_slice-all.result.now) c.args.place)
          ∙ ap (λ x. c.loop-i.factor * x) (sym (factor_next_below c.args.places.now c.as_slice-all.result.now c.args.place c.loop-i.i (omega (arith, c.requires, ap length c.as_slice-all.ensures.is, c.loop-i-test.true)) c.loop-i-test.true w.if-places-i.true))
          ∙ c.loop-i.invariant
      | else-places-i w ↦
          ap (λ x. x * factor_at (drop (c.loop-i.i + 1) c.args.places.now) (drop (c.loop-i.i + 1) c.as_slice-all.result.now) c.args.place) w.factor-is
          ∙ ap (λ x. c.loop-i.factor * x) (sym (factor_next_above c.args.places.now c.as_slice-all.result.now c.args.place c.loop-i.i (omega (arith, c.requires, ap length c.as_slice-all.ensures.is, c.loop-i-test.true)) c.loop-i-test.true w.if-places-i.false))
          ∙ c.loop-i.invariant
    ]

pub returns-clause-is : goal.returns-clause-is
returns-clause-is c =
    sym (once c.loop-i.factor) ∙ ap (λ x. c.loop-i.factor * x) (sym (factor_all c.args.places.now c.as_slice-all.result.now c.args.place c.loop-i.i c.loop-i-test.false)) ∙ c.loop-i.invariant
    ∙ ap (λ xs. factor_at c.args.places.now xs c.args.place) c.as_slice-all.ensures.is

pub returns-clause-fits : goal.returns-clause-fits
returns-clause-fits c =
    let all : c.loop-i.factor ≡ factor_at c.args.places.now c.as_slice-all.result.now c.args.place =
    sym (once c.loop-i.factor) ∙ ap (λ x. c.loop-i.factor * x) (sym (factor_all c.args.places.now c.as_slice-all.result.now c.args.place c.loop-i.i c.loop-i-test.false)) ∙ c.loop-i.invariant in
    omega (arith, all, factor_most c.args.places.now c.as_slice-all.result.now c.args.place (omega (arith, ap product c.as_slice-all.ensures.is, c.as_slice-all.ensures.some)), ap product c.as_slice-all.ensures.is, c.as_slice-all.ensures.fits)

pub bounds-places-i : goal.bounds-places-i
bounds-places-i c = omega (arith, c.requires, ap length c.as_slice-all.ensures.is, c.loop-i-test.true)
