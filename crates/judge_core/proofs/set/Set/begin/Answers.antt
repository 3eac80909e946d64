use Rattle.std.proofs.Common.{sym, ap, ◌∙◌}
use Rattle.judge_core.specs.Tables.{Tables}
use Rattle.judge_core.specs.Ruling.{ruling}
use Rattle.judge_core.proofs.StoodPlies.{begins}
use Rattle.judge_core.proofs.set.Set.begin.Goals as goal

pub returns-clause-at : goal.returns-clause-at
returns-clause-at c = λ rules start tables.
    begins rules _ _ start (c.in_ok-judged.ensures.value ∙ ap (λ (t : Tables). ruling t c.args.start.now) (sym tables))
