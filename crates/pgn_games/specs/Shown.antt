-- What the values that a caller is given show.
use Rattle.std.specs.Prelude.{option_map}
use Rattle.pgn_games.specs.declared.tags.Tags.{Tags}
use Rattle.pgn_games.specs.declared.game.Game.{Game}
use Rattle.pgn_games.specs.declared.game.Reading.{Reading}
use Rattle.pgn_games.specs.declared.game.Reading.TheVariants as reading
use Rattle.pgn_games.specs.Tags.{TagTexts}
use Rattle.pgn_games.specs.Games.{GameTold, ReadingTold, GameRead, FaultRead}

abbrev pub texts_of : Tags → TagTexts
texts_of tags = record {
  event = option_map (λ v. v.items) tags.event;
  white = option_map (λ v. v.items) tags.white;
  black = option_map (λ v. v.items) tags.black;
  round = option_map (λ v. v.items) tags.round;
  result = option_map (λ v. v.items) tags.result;
  fen = option_map (λ v. v.items) tags.fen;
}

-- what a game tells
abbrev pub game_of : Game → GameTold
game_of game = record { line = game.line; tags = texts_of game.tags; start = game.start; moves = game.moves.items; result = game.result }

abbrev pub reading_of : Reading → ReadingTold
reading_of (reading.Game game) = GameRead (game_of game)
reading_of (reading.Fault fault) = FaultRead fault
