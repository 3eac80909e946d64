use Rattle.std.proofs.Common.{ℕ, ◌∙◌, sym, arith, subst}
use Rattle.std.proofs.lemmas.Option.{slice_get_within}
use Rattle.table_file.specs.declared.plan.PartPlan.{PartPlan}
use Rattle.table_file.specs.Tables.{PartAt, nth_part}
use Rattle.table_file.specs.Forged.{IsPartOf}
use Rattle.table_file.proofs.PartPlaces.{nth_is}
use Rattle.table_file.proofs.Planned.{each_more}
use Rattle.table_file.proofs.Views.{got}
use Rattle.table_file.proofs.forging.compared.are_parts.Goals as goal

pub loop-k-preserved : goal.loop-k-preserved
loop-k-preserved c =
    let t = c.args.table.now in
    let k = c.loop-k.k in
    let nth = c.part-part.ensures ∙ nth_is t c.kind.result c.material.result.now k c.in-Some.place c.in-Some.ensures.is c.kind.ensures c.material.ensures in
    let here = subst (λ (at : PartAt). IsPartOf c.args.plan.now.material at c.index.result.now) nth (c.in-Ok-true.ensures.is c.in-Ok-true.field-0-test) in
    each_more (λ (q : PartPlan) (j : ℕ). IsPartOf c.args.plan.now.material (nth_part t j) q) c.args.plan.now.parts.items k c.index.result.now (omega (arith, c.loop-k-test.true, c.len-k-end.ensures)) c.index.ensures here c.loop-k.invariant

pub returns-in-Ok-false-clause-all : goal.returns-in-Ok-false-clause-all
returns-in-Ok-false-clause-all c = λ h.
    let t = c.args.table.now in
    let k = c.loop-k.k in
    let x = c.index.result.now in
    let nth = c.part-part.ensures ∙ nth_is t c.kind.result c.material.result.now k c.in-Some.place c.in-Some.ensures.is c.kind.ensures c.material.ensures in
    let here = h k x (got c.args.plan.now.parts.items k x (omega (arith, c.loop-k-test.true, c.len-k-end.ensures)) c.index.ensures) in
    sym c.in-Ok-false.field-0-test ∙ c.in-Ok-false.ensures.all (subst (λ (at : PartAt). IsPartOf c.args.plan.now.material at x) (sym nth) here)

pub returns-clause-is : goal.returns-clause-is
returns-clause-is c = λ t j p e. c.loop-k.invariant j p (omega (arith, slice_get_within c.args.plan.now.parts.items j p e, c.loop-k-test.false, c.len-k-end.ensures)) e
