use Rattle.std.proofs.Common.{arith, rules}
use Rattle.table_file.proofs.Planned.{part_is, part_has, if_both, if_one}
use Rattle.table_file.proofs.forging.compared.is_part.Goals as goal

pub returns-clause-is : goal.returns-clause-is
returns-clause-is c = if_both c.has_values.result c.has_values.ensures.enough c.has_values.ensures.values (λ b enough values t.
    part_is c.args.material.now c.args.part.now c.args.planned.now c.view.result c.flags.result c.indices.result c.shape-shape.result.now
    c.view.ensures.part c.flags.ensures.is (omega (arith, c.if-flags-planned.false)) c.shape-shape.ensures.is (rw c.file.ensures at (c.has_shape.ensures.0 (search rules))) c.indices.ensures.is (enough t) (values t))

pub returns-clause-all : goal.returns-clause-all
returns-clause-all c = if_one c.has_values.result c.has_values.ensures.all (λ b all is.
    let has = part_has c.args.material.now c.args.part.now c.args.planned.now c.view.result c.indices.result c.shape-shape.result.now c.view.ensures.part c.shape-shape.ensures.is c.indices.ensures.is is in
    all has.0 has.1)
