-- The turning of all men of a placement (Syzygy index, mirrorings).
use Rattle.std.specs.Prelude.{ℕ, List, [], ◌∷◌, take, Bool, false, cond, nat_lt, slice_index}
use Rattle.place_index.specs.Square.{file, rank, left_file, on_diagonal, left_right, bottom_top, across}
use Rattle.place_index.specs.Men.{square_of, moved}
use Rattle.place_index.specs.Pawns.{pawn_square, pawn_numbers_of}
use Rattle.place_index.specs.Shape.{Layout, has_pawns, lead_men, lead_code}
use Rattle.place_index.specs.declared.man.Man.{Man}

-- the leading pawn's square: of the leading colour's pawns the one with the greatest pawn number
unfoldable pub lead_pawn : ℕ → List Man → ℕ
lead_pawn key men = pawn_square (slice_index (pawn_numbers_of men (lead_code key)) 0)

-- men of whom a given one stands on files e to h are mirrored left to right
abbrev pub leftward : ℕ → List Man → List Man
leftward s men = cond (nat_lt (file s) 4) men (moved left_right men)

-- men of whom a given one stands on ranks 5 to 8 are mirrored top to bottom
abbrev pub downward : ℕ → List Man → List Man
downward s men = cond (nat_lt (rank s) 4) men (moved bottom_top men)

-- whether the first of these men off the diagonal a1-h8, if there is one, stands above it
abbrev pub is_above : List Man → List ℕ → Bool
is_above men [] = false
is_above men (c ∷ cs) = cond (on_diagonal (square_of men c)) (is_above men cs) (nat_lt (file (square_of men c)) (rank (square_of men c)))

-- if so, all men exchange file and rank
unfoldable pub under : List ℕ → List Man → List Man
under lead men = cond (is_above men lead) (moved across men) men

-- by the square of the man with this code
unfoldable pub to_left : ℕ → List Man → List Man
to_left c men = leftward (square_of men c) men

unfoldable pub to_bottom : ℕ → List Man → List Man
to_bottom c men = downward (square_of men c) men

-- with pawns: by the leading pawn's file
unfoldable pub turned_pawns : ℕ → List Man → List Man
turned_pawns key men = leftward (lead_pawn key men) men

-- without pawns: to the left and to the bottom by the first man, then below the diagonal, each by the men as they then stand
unfoldable pub turned_pieces : List ℕ → List Man → List Man
turned_pieces lead men = under lead (to_bottom (slice_index lead 0) (to_left (slice_index lead 0) men))

unfoldable pub turned : Layout → List Man → List Man
turned l men = cond (has_pawns l.material) (turned_pawns l.material men) (turned_pieces (take (lead_men l.material) l.pieces) men)

-- the file that picks the table's record, 0 to 3: that of the leading pawn after the turning, and 0 without pawns
unfoldable pub lead_file : ℕ → List Man → ℕ
lead_file key men = cond (has_pawns key) (left_file (lead_pawn key men)) 0
