-- The two players (FIDE article 1.1).
use Rattle.board_core.specs.declared.piece.Side.{Side}
use Rattle.board_core.specs.declared.piece.Side.TheVariants.{White, Black}

-- the opponent
abbrev pub other : Side → Side
other White = Black
other Black = White
