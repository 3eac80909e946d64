use Rattle.std.proofs.Common.{ℕ, ◌<◌, arith}
use Rattle.board_core.specs.Inside.Search.{IsInside}
use Rattle.board_core.specs.declared.piece.Side.{Side}
use Rattle.board_core.specs.declared.piece.Side.TheVariants.{White, Black}
use Rattle.board_core.specs.Side.{other}
use Rattle.board_core.specs.Attack.{IsPawnAttack, forward}

-- behind a square that a pawn attacks there is a square
pub has_behind : (side : Side) (from to : ℕ) → from < 64 → IsPawnAttack side from to → IsInside (forward (other side)) 1 to
has_behind White from to b h = omega arith
has_behind Black from to b h = omega arith
