use Rattle.std.proofs.Common.{length, arith, sym, ap, ◌∙◌}
use Rattle.std.proofs.lemmas.List.{length-map}
use Rattle.table_file.specs.Plan.{planned_maps_of}
use Rattle.table_file.proofs.Planned.{one_more_mapped, all_mapped, each_mapped}
use Rattle.table_file.proofs.forging.compared.are_each_maps.Goals as goal

pub loop-i-preserved : goal.loop-i-preserved
loop-i-preserved c =
    one_more_mapped planned_maps_of c.args.parts.now c.args.maps.now c.loop-i.i c.index-parts-i.result c.index-maps-i.result
    (omega (arith, c.loop-i-test.true)) (omega (arith, c.loop-i-test.true, c.if-maps-parts.false)) c.index-parts-i.is c.index-maps-i.is (c.in-Ok-true.ensures.is c.in-Ok-true.field-0-test) c.loop-i.invariant

pub returns-in-Ok-false-clause-all : goal.returns-in-Ok-false-clause-all
returns-in-Ok-false-clause-all c = λ h.
    sym c.in-Ok-false.field-0-test ∙ c.in-Ok-false.ensures.all (each_mapped planned_maps_of c.args.parts.now c.args.maps.now c.loop-i.i c.index-parts-i.result c.index-maps-i.result h (omega (arith, c.loop-i-test.true)) c.index-parts-i.is c.index-maps-i.is)

pub returns-clause-is : goal.returns-clause-is
returns-clause-is c = λ t. all_mapped planned_maps_of c.args.parts.now c.args.maps.now c.loop-i.i (omega (arith, c.loop-i-test.false)) (omega (arith, c.loop-i-test.false, c.if-maps-parts.false)) c.loop-i.invariant

pub returns-then-maps-parts-clause-all : goal.returns-then-maps-parts-clause-all
returns-then-maps-parts-clause-all c = λ h. absurd (c.if-maps-parts.true (ap length h ∙ length-map c.args.parts.now planned_maps_of))
