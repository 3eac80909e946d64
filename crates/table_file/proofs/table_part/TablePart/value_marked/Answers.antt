use Rattle.std.proofs.Common.{arith}
use Rattle.table_file.proofs.Views.{view_real}
use Rattle.table_file.proofs.AtSpots.{found_in, damaged_in}
use Rattle.table_file.proofs.Marks.{view_marks, marks_view}
use Rattle.table_file.proofs.table_part.TablePart.value_marked.Goals as goal

pub unreachable-requires : goal.unreachable-requires
unreachable-requires c =
    let real = rw c.in-Single.is at (view_real c.args.self.now c.args.block c.view-view.result c.view-view.ensures.part c.requires.real) in
    omega (arith, real)

pub block_of-requires-clause-known : goal.block_of-requires-clause-known
block_of-requires-clause-known c = rw c.in-Pairs.is at (view_real c.args.self.now c.args.block c.view-view.result c.view-view.ensures.part c.requires.real)

pub value_marked-requires-clause-marks : goal.value_marked-requires-clause-marks
value_marked-requires-clause-marks c =
    rw (c.dictionary.ensures, c.block_of.ensures.is) (rw c.in-Pairs.is at (view_marks c.args.self.now c.view-view.result c.args.block c.args.marks.now c.view-view.ensures.part c.requires.marks))

pub returns-clause-found : goal.returns-clause-found
returns-clause-found c = λ index spot.
    found_in c.args.self.now c.view-view.result c.view-view.ensures.part c.view-view.ensures.checked c.in-Pairs.codes c.in-Pairs.is index c.args.block c.args.offset spot c.value_marked.result (rw (c.dictionary.ensures, c.block_of.ensures.is) at c.value_marked.ensures.found)

pub returns-clause-damaged : goal.returns-clause-damaged
returns-clause-damaged c = λ index spot.
    damaged_in c.args.self.now c.view-view.result c.view-view.ensures.part c.view-view.ensures.checked c.in-Pairs.codes c.in-Pairs.is index c.args.block c.args.offset spot c.value_marked.result (rw (c.dictionary.ensures, c.block_of.ensures.is) at c.value_marked.ensures.damaged)

pub returns-clause-marks : goal.returns-clause-marks
returns-clause-marks c =
    let p = c.args.self.now in
    let v = c.view-view.result in
    let h = c.view-view.ensures.part in
    let here = rw (c.dictionary.ensures, c.block_of.ensures.is) at c.value_marked.ensures.marks in
    marks_view p v c.args.block c.value_marked.new.marks h (rw c.in-Pairs.is here)
