use Rattle.arbiter_server.proofs.LogLaws.{hides_nothing, verdicts_logged}
use Rattle.arbiter_server.proofs.laws.changes_hide_nothing.Goals as goal

pub returns-clause-lines : goal.returns-clause-lines
returns-clause-lines c = hides_nothing

pub returns-clause-verdicts : goal.returns-clause-verdicts
returns-clause-verdicts c = verdicts_logged
