use Rattle.std.proofs.Common.{ℕ, ◌≡◌, ◌<◌, ◌/◌, ◌∙◌, length, get_or, sym, ap, subst, arith}
use Rattle.std.proofs.lemmas.Option.{slice_get_within}
use Rattle.table_file.specs.Files.{side_count}
use Rattle.table_file.specs.Plan.{IsGoodPart}
use Rattle.table_file.specs.PlannedFile.{laid_part}
use Rattle.table_file.specs.declared.plan.PartPlan.{PartPlan}
use Rattle.table_file.proofs.Planned.{each_more}
use Rattle.table_file.proofs.Counting.{laid_next, laid_end}
use Rattle.table_file.proofs.Views.{got}
use Rattle.table_file.proofs.forging.layout.laid_parts.Goals as goal

pub loop-k-preserved : goal.loop-k-preserved
loop-k-preserved c =
    let kind = c.args.plan.now.kind in
    let m = c.args.plan.now.material in
    let sides = side_count kind m in
    let parts = c.args.plan.now.parts.items in
    let k = c.loop-k.k in
    let x = c.index.result.now in
    let lt : k < length parts = omega (arith, c.loop-k-test.true, c.len-k-end.ensures) in
    let is : x ≡ get_or parts k x = c.index.ensures in
    let file = c.in-Some.ensures.is.file in
    let found = (rw c.in-Ok-Some.field-0-is at c.in-Ok-Some.ensures.found) ∙ ap (λ f. laid_part m x f) file in
    let good = subst (λ f. IsGoodPart kind m x f) file (rw c.in-Ok-Some.field-0-is at c.in-Ok-Some.ensures.good) in
    record {
      laid = rw c.in_ok-push-in-Ok-Some.ensures.items (laid_next m sides k parts x c.loop-k.laid.items _ c.in-Ok-Some.part lt is found c.loop-k.invariant.laid);
      good = each_more (λ (q : PartPlan) (j : ℕ). IsGoodPart kind m q (j / sides)) parts k x lt is good c.loop-k.invariant.good;
    }

pub returns-in_default-clause-bad : goal.returns-in_default-clause-bad
returns-in_default-clause-bad c = λ h. absurd (omega (arith, c.in_default.ensures.none, c.loop-k-test.true, c.len-k-end.ensures, h.count))

pub returns-in-Ok-None-clause-found : goal.returns-in-Ok-None-clause-found
returns-in-Ok-None-clause-found c = tt

pub returns-in-Ok-None-clause-good : goal.returns-in-Ok-None-clause-good
returns-in-Ok-None-clause-good c = tt

pub returns-in-Ok-None-clause-bad : goal.returns-in-Ok-None-clause-bad
returns-in-Ok-None-clause-bad c = λ h.
    let parts = c.args.plan.now.parts.items in
    let k = c.loop-k.k in
    let x = c.index.result.now in
    let bad = rw c.in-Ok-None.field-0-is at c.in-Ok-None.ensures.bad in
    let here = h.each k x (got parts k x (omega (arith, c.loop-k-test.true, c.len-k-end.ensures)) c.index.ensures) in
    bad (subst (λ f. IsGoodPart c.args.plan.now.kind c.args.plan.now.material x f) (sym c.in-Some.ensures.is.file) here)

pub returns-clause-found : goal.returns-clause-found
returns-clause-found c =
    laid_end c.args.plan.now.material (side_count c.args.plan.now.kind c.args.plan.now.material) c.loop-k.k c.args.plan.now.parts.items c.loop-k.laid.items _ (omega (arith, c.loop-k-test.false, c.len-k-end.ensures)) c.loop-k.invariant.laid

pub returns-clause-good : goal.returns-clause-good
returns-clause-good c = record {
  count = omega (arith, c.if-len-part_count.false, c.len.ensures, c.part_count.ensures.is);
  each = λ k p e. c.loop-k.invariant.good k p (omega (arith, slice_get_within c.args.plan.now.parts.items k p e, c.loop-k-test.false, c.len-k-end.ensures)) e;
}

pub returns-clause-bad : goal.returns-clause-bad
returns-clause-bad c = tt
