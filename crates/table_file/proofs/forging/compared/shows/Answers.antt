use Rattle.table_file.specs.Files.{side_count}
use Rattle.table_file.proofs.Counting.{good_maps, all_good_values}
use Rattle.table_file.proofs.forging.compared.shows.Goals as goal

pub are_parts-requires-clause-good : goal.are_parts-requires-clause-good
are_parts-requires-clause-good c = all_good_values c.args.plan.now.kind c.args.plan.now.material (side_count c.args.plan.now.kind c.args.plan.now.material) c.args.plan.now.parts.items c.requires.each

pub are_all_maps-requires : goal.are_all_maps-requires
are_all_maps-requires c = good_maps c.args.plan.now.kind c.args.plan.now.material (side_count c.args.plan.now.kind c.args.plan.now.material) c.args.plan.now.parts.items c.requires.each
