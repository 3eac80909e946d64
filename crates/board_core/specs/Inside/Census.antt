-- The squares by which the first fault is found; no public contract cites these.
use Rattle.std.specs.Prelude.{◌≡◌, ◌≢◌, ℕ, Bool, true, false, cond, List, Option, Some, None}
use Rattle.std.specs.Int.{bit_at}
use Rattle.board_core.specs.declared.piece.Piece.{Piece}
use Rattle.board_core.specs.declared.piece.Kind.{Kind}
use Rattle.board_core.specs.declared.piece.Kind.TheVariants.{Pawn, Knight, Bishop, Rook, Queen, King}
use Rattle.board_core.specs.declared.census.Census.{Census}
use Rattle.board_core.specs.Position.{is_king}
use Rattle.board_core.specs.Sides.{squares_where, sides_of}

abbrev pub is_pawn_kind : Kind → Bool
is_pawn_kind Pawn = true
is_pawn_kind Knight = false
is_pawn_kind Bishop = false
is_pawn_kind Rook = false
is_pawn_kind Queen = false
is_pawn_kind King = false

-- a man stands there whose kind passes the test
abbrev pub is_kind_passing : (Kind → Bool) → Option Piece → Bool
is_kind_passing test None = false
is_kind_passing test (Some man) = test man.kind

-- where the men of each side stand, the kings and the pawns
abbrev pub census_of : List (Option Piece) → Census
census_of men = record {
  sides = sides_of men;
  kings = squares_where (is_kind_passing is_king) men;
  pawns = squares_where (is_kind_passing is_pawn_kind) men;
}

-- the one set is the other with this square where it belongs to it, and had not been in it
pub record IsAdded (set square : ℕ) (belongs : Bool) (result : ℕ) : Type 0 where
  pub here : bit_at set square ≡ 0 → bit_at result square ≡ cond belongs 1 0
  pub others : (s : ℕ) → s ≢ square → bit_at result s ≡ bit_at set s
