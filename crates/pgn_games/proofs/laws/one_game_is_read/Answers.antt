use Rattle.pgn_games.proofs.OneLaws.{one_game_is_read}
use Rattle.pgn_games.proofs.laws.one_game_is_read.Goals as goal

pub returns : goal.returns
returns c = one_game_is_read c.one_text.ensures c.one_position.ensures c.one_thing.ensures c.position_after_is_computed.ensures
