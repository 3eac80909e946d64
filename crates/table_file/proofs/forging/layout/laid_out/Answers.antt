use Rattle.table_file.specs.Files.{side_count}
use Rattle.table_file.proofs.Counting.{good_maps}
use Rattle.table_file.proofs.forging.layout.laid_out.Goals as goal

pub file_with-requires : goal.file_with-requires
file_with-requires c =
    let good = rw c.in-Some.is at c.in_ok-laid.ensures.good in
    good_maps c.args.plan.now.kind c.args.plan.now.material (side_count c.args.plan.now.kind c.args.plan.now.material) c.args.plan.now.parts.items good.each
