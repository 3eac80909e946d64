use Rattle.table_file.proofs.Views.{view_expansion, view_spot, view_short, view_steps, if_ok, if_both}
use Rattle.table_file.proofs.table_part.TablePart.locate.Goals as goal

pub returns-clause-found : goal.returns-clause-found
returns-clause-found g c = if_ok c.spot_in.result c.spot_in.ensures.found (λ spot. view_spot c.args.self.now c.args.index spot c.view.result c.view.ensures.part)

pub returns-clause-damaged : goal.returns-clause-damaged
returns-clause-damaged g c = rw (← view_expansion c.args.self.now c.view.result c.view.ensures.part) c.spot_in.ensures.damaged

pub returns-clause-real : goal.returns-clause-real
returns-clause-real g c = if_both c.spot_in.result c.spot_in.ensures.found c.spot_in.ensures.fits (λ spot. view_short c.args.self.now c.args.index spot c.view.result c.view.ensures.part)

pub returns-clause-cost : goal.returns-clause-cost
returns-clause-cost g c = view_steps c.args.self.now c.args.index c.args.steps.now c.spot_in.new.steps c.view.result c.view.ensures.part c.spot_in.ensures.cost
