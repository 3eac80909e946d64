use Rattle.std.proofs.Common.{arith}
use Rattle.table_file.proofs.Views.{view_real}
use Rattle.table_file.proofs.AtSpots.{found_in, damaged_in}
use Rattle.table_file.proofs.table_part.TablePart.value_in_block.Goals as goal

pub unreachable-requires : goal.unreachable-requires
unreachable-requires c =
    let real = rw c.in-Single.is at (view_real c.args.self.now c.args.block c.view-view.result c.view-view.ensures.part c.requires.real) in
    omega (arith, real)

pub block_of-requires-clause-known : goal.block_of-requires-clause-known
block_of-requires-clause-known c = rw c.in-Pairs.is at (view_real c.args.self.now c.args.block c.view-view.result c.view-view.ensures.part c.requires.real)

pub returns-clause-found : goal.returns-clause-found
returns-clause-found c = λ index spot.
    found_in c.args.self.now c.view-view.result c.view-view.ensures.part c.view-view.ensures.checked c.in-Pairs.codes c.in-Pairs.is index c.args.block c.args.offset spot c.value.result (rw (c.dictionary.ensures, c.block_of.ensures.is) at c.value.ensures.found)

pub returns-clause-damaged : goal.returns-clause-damaged
returns-clause-damaged c = λ index spot.
    damaged_in c.args.self.now c.view-view.result c.view-view.ensures.part c.view-view.ensures.checked c.in-Pairs.codes c.in-Pairs.is index c.args.block c.args.offset spot c.value.result (rw (c.dictionary.ensures, c.block_of.ensures.is) at c.value.ensures.damaged)
