use Rattle.table_file.proofs.Views.{view_expansion}
use Rattle.table_file.proofs.table_part.TablePart.value.Goals as goal

pub returns-clause-found : goal.returns-clause-found
returns-clause-found c = rw (← view_expansion c.args.self.now c.view.result c.view.ensures.part) c.value_in.ensures.found

pub returns-clause-damaged : goal.returns-clause-damaged
returns-clause-damaged c = rw (← view_expansion c.args.self.now c.view.result c.view.ensures.part) c.value_in.ensures.damaged
