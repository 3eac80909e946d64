use Rattle.std.proofs.Common.{ap}
use Rattle.serve_core.proofs.answering.Answering.end.Goals as goal

pub returns-clause-same : goal.returns-clause-same
returns-clause-same g c = ap (λ v. v.ground.timeline) c.self.view_is

pub returns-clause-now : goal.returns-clause-now
returns-clause-now g c = ap (λ v. v.now) c.self.view_is
