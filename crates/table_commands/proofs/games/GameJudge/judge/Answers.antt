use Rattle.std.proofs.Common.{ap, length}
use Rattle.judge_core.specs.Words.{outcome_words}
use Rattle.table_commands.specs.Games.{Played}
use Rattle.table_commands.proofs.games.GameJudge.judge.Goals as goal

pub returns-clause-told : goal.returns-clause-told
returns-clause-told c =
    Played c.args.start.now c.requires.spelled c.requires.position c.args.moves.now c.requires.moves c.in_ok-outcome.outcome (rw c.plies.ensures.value at c.in_ok-outcome.ensures.value)
    (ap (λ legal. record { words = outcome_words c.in_ok-outcome.outcome (length c.args.moves.now); done = legal }) c.are_all_legal.ensures)
