use Rattle.std.proofs.Common.{refl}
use Rattle.table_file.specs.Sections.{AreShaped}
use Rattle.table_file.specs.Files.{side_count}
use Rattle.table_file.proofs.PartsRead.{are_shaped}
use Rattle.table_file.proofs.Opening.{if_given}
use Rattle.table_file.proofs.table.all_parts.Goals as goal

pub returns-clause-shaped : goal.returns-clause-shaped
returns-clause-shaped c =
    if_given (λ x. (x.0.items, x.1.now)) c.parts.result _ (λ x. AreShaped c.args.kind c.args.material.now x.0.items) c.parts.ensures.is
    (λ x read. are_shaped c.args.kind c.args.material.now (side_count c.args.kind c.args.material.now) _ c.args.bytes.now _ (c.in_ok-shapes.shapes.items, c.in_ok-shapes.rest.now) (x.0.items, x.1.now)
    refl c.in_ok-shapes.ensures.is read)
