-- How the men of a placement stand for the numbers of its groups.
use Rattle.std.specs.Prelude.{◌≡◌, ℕ, ◌<◌, ◌≤◌, List, length, true, false, cond, slice_index}
use Rattle.place_index.specs.Square.{file, rank}
use Rattle.place_index.specs.Men.{stands, square_of}
use Rattle.place_index.specs.Kings.{AreTurnedKings}
use Rattle.place_index.specs.Pawns.{pawn_square, pawn_numbers_of}
use Rattle.place_index.specs.Shape.{Layout, has_pawns, has_unique, lead_code}
use Rattle.place_index.specs.declared.man.Man.{Man}
use Rattle.std.specs.Prelude.{◌≡◌, ℕ, ◌<◌, ◌≤◌, List, length, cond}
use Rattle.std.specs.Prelude.{◌≡◌, ℕ, ◌<◌, ◌≤◌, List, length, true, false, cond, slice_index}
use Rattle.place_index.specs.Index.{AreAlone}
use Rattle.place_index.specs.Others.{taken}
use Rattle.place_index.specs.Shape.{has_pawns, lead_code}

-- men on squares of the board, no two on one
pub record AreMen (men : List Man) : Type 0 where
  pub few : length men ≤ 5
  pub alone : AreAlone men
  pub board : (c s : ℕ) → stands men c s ≡ true → s < 64

-- leading pawns of these numbers stand as their number wants
pub record ArePawnsAt (f : ℕ) (numbers : List ℕ) : Type 0 where
  pub some : 1 ≤ length numbers
  pub few : length numbers ≤ 3
  pub lead : slice_index numbers 0 < 48
  pub all : (k : ℕ) → k < length numbers → slice_index numbers k < 48
  pub file : file (pawn_square (slice_index numbers 0)) ≡ f
  pub off_last : rank (pawn_square (slice_index numbers 0)) ≤ 6

-- the leading group of turned men stands as its number wants
pub record IsLeadTurned (l : Layout) (men : List Man) : Type 0 where
  pub range : has_pawns l.material ≡ true → (s : ℕ) → stands men (lead_code l.material) s ≡ true → (8 ≤ s) × (s < 56)
  pub pawns : has_pawns l.material ≡ true → ArePawnsAt l.file (pawn_numbers_of men (lead_code l.material))
  pub kings : has_pawns l.material ≡ false → has_unique l.material ≡ false → AreTurnedKings (square_of men (slice_index l.pieces 0)) (square_of men (slice_index l.pieces 1))

-- one man alone has this code, and stands on this square
abbrev pub IsOnly : List Man → ℕ → ℕ → Type 0
IsOnly men c s = (stands men c s ≡ true) × ((t : ℕ) → t < 64 → stands men c t ≡ true → t ≡ s)

-- by each code a square, that of the man if he is the only one with it
pub record AreLoneSquares (men : List Man) (lone_squares : List ℕ) : Type 0 where
  pub size : length lone_squares ≡ 16
  pub is : (c s : ℕ) → c < 16 → IsOnly men c s → slice_index lone_squares c ≡ s
  pub board : (c : ℕ) → c < 16 → slice_index lone_squares c < 64

-- as many men as on these squares, with as many on squares lower than any one
abbrev pub CountLike : List ℕ → List ℕ → Type 0
CountLike earlier squares = (length earlier ≡ length squares) × ((s : ℕ) → taken earlier s ≡ taken squares s)

-- the leading pawns' code, 0 without pawns
unfoldable pub leading_code : ℕ → ℕ
leading_code key = cond (has_pawns key) (lead_code key) 0
