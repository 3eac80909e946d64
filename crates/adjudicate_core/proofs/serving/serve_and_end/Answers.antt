use Rattle.adjudicate_core.proofs.serving.serve_and_end.Goals as goal

pub returns : goal.returns
returns g c = record {
  answered = c.serve-answered.result;
  done = c.serve-answered.new.timeline;
  serves = c.serve-answered.ensures.made;
  cause = c.serve-answered.ensures.cause;
  closes = c.end.ensures;
}
