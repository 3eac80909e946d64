-- The texts of a game's object.
use Rattle.std.specs.Prelude.{◌≡◌, option_map, string_bytes}
use Rattle.fen_text.specs.Written.{fen_of}
use Rattle.pgn_games.specs.Games.{GameTold}
use Rattle.pgn_teller.specs.declared.game_object.Texts.{Texts}
use Rattle.pgn_teller.specs.GameObjects.{lossy, moves_text}

pub record AreTextsOf (game : GameTold) (t : Texts) : Type 0 where
  pub start : t.start.bytes ≡ fen_of game.start
  pub event : option_map string_bytes t.event ≡ option_map lossy game.tags.event
  pub white : option_map string_bytes t.white ≡ option_map lossy game.tags.white
  pub black : option_map string_bytes t.black ≡ option_map lossy game.tags.black
  pub round : option_map string_bytes t.round ≡ option_map lossy game.tags.round
  pub result : option_map string_bytes t.result ≡ option_map lossy game.tags.result
  pub moves : string_bytes t.moves ≡ moves_text game.moves
