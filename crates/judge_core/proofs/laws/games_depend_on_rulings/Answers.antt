use Rattle.judge_core.proofs.ByRulings.{depend_on_rulings}
use Rattle.judge_core.proofs.laws.games_depend_on_rulings.Goals as goal

pub returns : goal.returns
returns c = depend_on_rulings
