use Rattle.table_file.proofs.Expanded.{is_past}
use Rattle.table_file.proofs.spots.spot_in.Goals as goal

pub returns-in_default-clause-damaged : goal.returns-in_default-clause-damaged
returns-in_default-clause-damaged g c =
    rw c.in-Pairs.is (is_past c.in-Pairs.codes c.args.view.lengths.now c.args.view.blocks.now c.args.index c.in_default.ensures.damaged)
