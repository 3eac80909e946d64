use Rattle.std.proofs.Common.{◌∙◌, arith}
use Rattle.std.proofs.lemmas.Bool.{false≢true}
use Rattle.table_file.proofs.PartPlaces.{file_below}
use Rattle.table_file.proofs.places.place_at.Goals as goal

pub returns-in_default-clause-none : goal.returns-in_default-clause-none
returns-in_default-clause-none c =
    absurd (false≢true (c.in_default.ensures.left.1 (file_below c.args.kind c.args.material.now c.args.k c.count-sides.result c.part_count.result (c.count-sides.ensures ∙ c.of.ensures) c.part_count.ensures.is (omega (arith, c.if-part_count-k.false)))))
