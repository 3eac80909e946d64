use Rattle.pgn_games.proofs.ScoreLaws.{only_scores_are_read, scores_are_read_back}
use Rattle.pgn_games.proofs.laws.scores_are_read_back.Goals as goal

pub returns-clause-read : goal.returns-clause-read
returns-clause-read c = scores_are_read_back

pub returns-clause-only : goal.returns-clause-only
returns-clause-only c = only_scores_are_read c.one_list_is_spelled.ensures
