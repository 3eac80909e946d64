use Rattle.pgn_games.proofs.OneLaws.{one_list_is_spelled}
use Rattle.pgn_games.proofs.laws.one_list_is_spelled.Goals as goal

pub returns : goal.returns
returns c = one_list_is_spelled c.one_game_is_read.ensures c.none_is_the_end.ensures
