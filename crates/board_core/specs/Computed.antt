-- Attack and check as computed tests, beside the relations of Attack.antt. Functions of a position in the crates above use
-- these.
use Rattle.std.specs.Prelude.{ℕ, zero, suc, ◌+◌, ◌-◌, ◌*◌, Bool, true, false, not, ◌&&◌, ◌||◌, ◌==◌, nat_lt, nat_le, List, [], ◌∷◌, Option, Some, None, is_none}
use Rattle.std.specs.List.{list_any}
use Rattle.board_core.specs.declared.piece.Piece.{Piece}
use Rattle.board_core.specs.declared.piece.Side.{Side}
use Rattle.board_core.specs.declared.piece.Side.TheVariants.{White, Black}
use Rattle.board_core.specs.declared.piece.Kind.{Kind}
use Rattle.board_core.specs.declared.piece.Kind.TheVariants.{Pawn, Knight, Bishop, Rook, Queen, King}
use Rattle.board_core.specs.declared.attack.Direction.{Direction}
use Rattle.board_core.specs.declared.attack.Direction.TheVariants.{North, South, East, West, NorthEast, NorthWest, SouthEast, SouthWest}
use Rattle.board_core.specs.Side.{other}
use Rattle.board_core.specs.Square.{file_of, rank_of, apart}
use Rattle.board_core.specs.Attack.{man_at}
use Rattle.board_core.specs.Position.{is_same_side, is_king_of}

-- some number below n passes the test, and each of them does
unfoldable pub some_below : ℕ → (ℕ → Bool) → Bool
some_below zero test = false
some_below (suc n) test = test n || some_below n test

unfoldable pub each_below : ℕ → (ℕ → Bool) → Bool
each_below zero test = true
each_below (suc n) test = test n && each_below n test

-- `to` is n squares from `from` in this direction
abbrev pub is_along : Direction → ℕ → ℕ → ℕ → Bool
is_along North n from to = (file_of to == file_of from) && (rank_of to == rank_of from + n)
is_along South n from to = (file_of to == file_of from) && (rank_of to + n == rank_of from)
is_along East n from to = (file_of to == file_of from + n) && (rank_of to == rank_of from)
is_along West n from to = (file_of to + n == file_of from) && (rank_of to == rank_of from)
is_along NorthEast n from to = (file_of to == file_of from + n) && (rank_of to == rank_of from + n)
is_along NorthWest n from to = (file_of to + n == file_of from) && (rank_of to == rank_of from + n)
is_along SouthEast n from to = (file_of to == file_of from + n) && (rank_of to + n == rank_of from)
is_along SouthWest n from to = (file_of to + n == file_of from) && (rank_of to + n == rank_of from)

-- the square n squares on in this direction
abbrev pub onward : Direction → ℕ → ℕ → ℕ
onward North n from = from + 8 * n
onward South n from = from - 8 * n
onward East n from = from + n
onward West n from = from - n
onward NorthEast n from = from + 9 * n
onward NorthWest n from = from + 7 * n
onward SouthEast n from = from - 7 * n
onward SouthWest n from = from - 9 * n

-- each square between `from` and the one n squares on in this direction is empty
abbrev pub is_clear : List (Option Piece) → Direction → ℕ → ℕ → Bool
is_clear men d n from = each_below n (λ k. (k == 0) || is_none (man_at men (onward d k from)))

-- the directions in which a kind of man goes any distance
abbrev pub is_straight : Direction → Bool
is_straight North = true
is_straight South = true
is_straight East = true
is_straight West = true
is_straight NorthEast = false
is_straight NorthWest = false
is_straight SouthEast = false
is_straight SouthWest = false

abbrev pub goes : Kind → Direction → Bool
goes Pawn d = false
goes Knight d = false
goes Bishop d = not (is_straight d)
goes Rook d = is_straight d
goes Queen d = true
goes King d = false

abbrev pub directions : List Direction
directions = North ∷ South ∷ East ∷ West ∷ NorthEast ∷ NorthWest ∷ SouthEast ∷ SouthWest ∷ []

-- `to` is n squares from `from` in this direction, and the way there is empty
abbrev pub is_line : List (Option Piece) → Direction → ℕ → ℕ → ℕ → Bool
is_line men d from to n = nat_lt 0 n && is_along d n from to && is_clear men d n from

-- a man of this kind on `from` reaches `to` along a line over empty squares
unfoldable pub is_ray : List (Option Piece) → Kind → ℕ → ℕ → Bool
is_ray men kind from to = list_any (λ d. goes kind d && some_below 8 (is_line men d from to)) directions

abbrev pub is_king_step : ℕ → ℕ → Bool
is_king_step from to =
    not (from == to) && nat_le (apart (file_of from) (file_of to)) 1 && nat_le (apart (rank_of from) (rank_of to)) 1

abbrev pub is_knight_step : ℕ → ℕ → Bool
is_knight_step from to =
    ((apart (file_of from) (file_of to) == 1) && (apart (rank_of from) (rank_of to) == 2))
    || ((apart (file_of from) (file_of to) == 2) && (apart (rank_of from) (rank_of to) == 1))

-- a pawn attacks the two squares diagonally before it
abbrev pub is_pawn_attack : Side → ℕ → ℕ → Bool
is_pawn_attack White from to =
    (apart (file_of from) (file_of to) == 1) && (rank_of to == rank_of from + 1)
is_pawn_attack Black from to =
    (apart (file_of from) (file_of to) == 1) && (rank_of to + 1 == rank_of from)

-- the man, standing on `from`, attacks `to`
abbrev pub reaches_square : List (Option Piece) → Side → Kind → ℕ → ℕ → Bool
reaches_square men side Pawn from to = is_pawn_attack side from to
reaches_square men side Knight from to = is_knight_step from to
reaches_square men side Bishop from to = is_ray men Bishop from to
reaches_square men side Rook from to = is_ray men Rook from to
reaches_square men side Queen from to = is_ray men Queen from to
reaches_square men side King from to = is_king_step from to

-- what stands on `from` is a man of this side, and attacks `to`
abbrev pub attacks : List (Option Piece) → Side → Option Piece → ℕ → ℕ → Bool
attacks men by None from to = false
attacks men by (Some man) from to = is_same_side by man.side && reaches_square men by man.kind from to

-- some man of this side attacks the square
unfoldable pub is_attacked : List (Option Piece) → Side → ℕ → Bool
is_attacked men by to = some_below 64 (λ from. attacks men by (man_at men from) from to)

-- a king of this side is attacked
unfoldable pub is_in_check : List (Option Piece) → Side → Bool
is_in_check men side = some_below 64 (λ s. is_king_of side (man_at men s) && is_attacked men (other side) s)
