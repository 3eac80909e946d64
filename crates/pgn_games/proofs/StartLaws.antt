-- The position of a new game.
use Rattle.std.proofs.Common.{◌≡◌}
use Rattle.board_core.specs.declared.parts.Parts.{Parts}
use Rattle.board_core.specs.Position.{IsPosition}
use Rattle.fen_text.specs.Written.{fen_of}
use Rattle.pgn_games.specs.Games.{IsUsualStart, usual_start}

pub is_usual_start : (p : Parts) → usual_start ≡ fen_of p → IsPosition p → IsUsualStart p
unfolding IsUsualStart
is_usual_start p spelled position = (spelled, position)

pub usual_spelled_so : (p : Parts) → IsUsualStart p → usual_start ≡ fen_of p
unfolding IsUsualStart
usual_spelled_so p h = h.0

pub usual_is_position : (p : Parts) → IsUsualStart p → IsPosition p
unfolding IsUsualStart
usual_is_position p h = h.1
