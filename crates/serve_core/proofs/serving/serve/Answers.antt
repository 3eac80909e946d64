use Rattle.serve_core.specs.Refusals.{unbound_in}
use Rattle.serve_core.proofs.serving.serve.Goals as goal

pub returns-clause-made : goal.returns-clause-made
returns-clause-made g c = record {
  why = unbound_in c.open_noted-bound.result;
  noted = c.open_noted-bound.new.timeline;
  notes = c.open_noted-bound.ensures;
  serves = c.serve_task.ensures.made;
}
