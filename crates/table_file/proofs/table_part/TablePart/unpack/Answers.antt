use Rattle.table_file.proofs.Views.{view_real, view_values}
use Rattle.table_file.proofs.table_part.TablePart.unpack.Goals as goal

pub values_in-requires-clause-real : goal.values_in-requires-clause-real
values_in-requires-clause-real c = view_real c.args.self.now c.args.block c.view.result c.view.ensures.part c.requires.real

pub returns-clause-is : goal.returns-clause-is
returns-clause-is c = rw (← view_values c.args.self.now c.args.block c.view.result c.view.ensures.part) c.values_in.ensures.is
