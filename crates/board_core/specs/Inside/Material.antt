-- The men that are looked for, as tests of a square and a kind.
use Rattle.std.specs.Prelude.{ℕ, Bool, List, Option}
use Rattle.std.specs.List.{list_any, range_with_len}
use Rattle.board_core.specs.declared.piece.Piece.{Piece}
use Rattle.board_core.specs.declared.piece.Kind.{Kind}
use Rattle.board_core.specs.declared.material.Wanted.{Wanted}
use Rattle.board_core.specs.declared.material.Wanted.TheVariants.{PawnOrMajor, Knight, LightBishop, DarkBishop}
use Rattle.board_core.specs.Attack.{man_at}
use Rattle.board_core.specs.Ends.{pawn_or_major, knight, light_bishop, dark_bishop, is_man}

abbrev pub test_of : Wanted → ℕ → Kind → Bool
test_of PawnOrMajor = pawn_or_major
test_of Knight = knight
test_of LightBishop = light_bishop
test_of DarkBishop = dark_bishop

-- such a man stands on one of the first squares
abbrev pub stands_below : (ℕ → Kind → Bool) → List (Option Piece) → ℕ → Bool
stands_below test men n = list_any (λ s. is_man (test s) (man_at men s)) (range_with_len 0 n)
