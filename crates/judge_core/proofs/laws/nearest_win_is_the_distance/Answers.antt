use Rattle.judge_core.proofs.RootWins.{nearest_win}
use Rattle.judge_core.proofs.laws.nearest_win_is_the_distance.Goals as goal

pub returns : goal.returns
returns c = nearest_win
