use Rattle.std.proofs.Common.{◌∙◌, ap}
use Rattle.table_file.specs.Tables.{PartAt, part_file}
use Rattle.table_file.proofs.PartPlaces.{fits_part}
use Rattle.table_file.proofs.table_part.TablePart.shape.Goals as goal

pub returns-clause-fits : goal.returns-clause-fits
returns-clause-fits c = λ placed asked.
    let stands = c.self.invariant.stands in
    fits_part c.args.self.now placed c.self.inside.part.now.head.shape (stands.material ∙ ap (λ (p : PartAt). p.table.material) c.self.view_is)
    (stands.file ∙ ap (λ (p : PartAt). part_file p.table.material p.file) c.self.view_is) asked
