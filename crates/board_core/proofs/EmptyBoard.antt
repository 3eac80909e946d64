-- The table of the squares that a man reaches on an empty board: whatever stands on the board, he reaches no other.
use Rattle.std.proofs.Common.{ℕ, zero, suc, ◌≡◌, ◌≢◌, ◌<◌, ◌+◌, ◌*◌, ◌/◌, ◌%◌, ◌⊎◌, List, [], ◌∷◌, Option, Bool, true, false, take, drop, length, slice_index, Decides, refl, sym, ap, ◌∙◌, arith, inl, inr}
use Rattle.std.specs.Prelude.{not, ◌&&◌, ◌||◌, ◌==◌}
use Rattle.std.specs.Int.{bit_at}
use Rattle.std.proofs.lemmas.Bool.{and_parts, eqb-true, false≢true}
use Rattle.std.proofs.lemmas.Bool.Decides.{Decides-and, Decides-or, Decides-not, Decides-eqb}
use Rattle.std.proofs.lemmas.Nat.Bits.{bit_at_lowest, bit_at-suc}
use Rattle.std.proofs.lemmas.List.{get_or-take, get_or-drop}
use Rattle.board_core.specs.declared.piece.Piece.{Piece}
use Rattle.board_core.specs.declared.piece.Side.{Side}
use Rattle.board_core.specs.declared.piece.Side.TheVariants.{White, Black}
use Rattle.board_core.specs.declared.piece.Kind.{Kind}
use Rattle.board_core.specs.declared.piece.Kind.TheVariants.{Pawn, Knight, Bishop, Rook, Queen, King}
use Rattle.board_core.specs.declared.attack.Direction.{Direction}
use Rattle.board_core.specs.declared.attack.Direction.TheVariants.{North, South, East, West, NorthEast, NorthWest, SouthEast, SouthWest}
use Rattle.board_core.specs.Square.{file_of, rank_of, apart}
use Rattle.board_core.specs.Attack.{Along, IsStraight, IsDiagonal, Reaches}
use Rattle.board_core.specs.Computed.{is_king_step, is_knight_step, is_pawn_attack}
use Rattle.board_core.specs.Inside.EmptyBoard.{row_of}
use Rattle.board_core.specs.declared.empty_board.TheConstants.{REACHED}
use Rattle.board_core.proofs.Computed.{Decides-king_step, Decides-knight_step, Decides-pawn_attack}

-- ---- bits by one walk

-- the n lowest bits are set where the squares from this one on pass the test
unfoldable covers : (ℕ → Bool) → ℕ → ℕ → ℕ → Bool
covers test zero first bits = true
covers test (suc n) first bits = (not (test first) || (bits % 2 == 1)) && covers test n (suc first) (bits / 2)

lowest_set : (t : Bool) (bit : ℕ) → (not t || (bit == 1)) ≡ true → t ≡ true → bit ≡ 1
lowest_set true bit e t = eqb-true bit 1 e
lowest_set false bit e t = absurd (false≢true t)

covers_at : (test : ℕ → Bool) (n first bits i : ℕ) → covers test n first bits ≡ true → i < n → test (first + i) ≡ true → bit_at bits i ≡ 1
unfolding covers
covers_at test zero first bits i e lt t = absurd (omega arith)
covers_at test (suc n) first bits zero e lt t =
    let at : first + 0 ≡ first = omega arith in
    bit_at_lowest bits ∙ lowest_set (test first) (bits % 2) (and_parts (not (test first) || (bits % 2 == 1)) (covers test n (suc first) (bits / 2)) e).0 (sym (ap test at) ∙ t)
covers_at test (suc n) first bits (suc i) e lt t =
    let at : suc first + i ≡ first + suc i = omega arith in
    bit_at-suc bits i ∙ covers_at test n (suc first) (bits / 2) i (and_parts (not (test first) || (bits % 2 == 1)) (covers test n (suc first) (bits / 2)) e).1 (omega arith) (ap test at ∙ t)

-- so is each set of a row, for the square that it stands for
unfoldable rows : (ℕ → ℕ → Bool) → ℕ → List ℕ → Bool
rows test from [] = true
rows test from (set ∷ sets) = covers (test from) 64 0 set && rows test (suc from) sets

rows_at : (test : ℕ → ℕ → Bool) (first : ℕ) (sets : List ℕ) (k to : ℕ) → rows test first sets ≡ true → k < length sets → to < 64 → test (first + k) to ≡ true → bit_at (slice_index sets k) to ≡ 1
unfolding rows
rows_at test first [] k to e lt b t = absurd (omega arith)
rows_at test first (set ∷ sets) zero to e lt b t =
    let at : first + 0 ≡ first = omega arith in
    let there : 0 + to ≡ to = omega arith in
    covers_at (test first) 64 0 set to (and_parts (covers (test first) 64 0 set) (rows test (suc first) sets) e).0 b (ap (test first) there ∙ sym (ap (λ s. test s to) at) ∙ t)
rows_at test first (set ∷ sets) (suc k) to e lt b t =
    let at : suc first + k ≡ first + suc k = omega arith in
    rows_at test (suc first) sets k to (and_parts (covers (test first) 64 0 set) (rows test (suc first) sets) e).1 (omega arith) b (ap (λ s. test s to) at ∙ t)

row : ℕ → List ℕ
row r = take 64 (drop (r * 64) REACHED)

row_bit : (test : ℕ → ℕ → Bool) (r from to : ℕ) → rows test 0 (row r) ≡ true → length (row r) ≡ 64 → from < 64 → to < 64 → test from to ≡ true → bit_at (slice_index REACHED (r * 64 + from)) to ≡ 1
unfolding row
row_bit test r from to e long b c t =
    let a = get_or-take 64 (drop (r * 64) REACHED) from 0 b in
    let d = get_or-drop (r * 64) REACHED from 0 in
    let at : 0 + from ≡ from = omega arith in
    ap (λ set. bit_at set to) (sym d ∙ sym a) ∙ rows_at test 0 (row r) from to e (rw long b) c (ap (λ s. test s to) at ∙ t)

-- ---- lines without the men on them

is_on_straight : ℕ → ℕ → Bool
is_on_straight from to = not (from == to) && ((file_of from == file_of to) || (rank_of from == rank_of to))

is_on_diagonal : ℕ → ℕ → Bool
is_on_diagonal from to = not (from == to) && (apart (file_of from) (file_of to) == apart (rank_of from) (rank_of to))

is_on_line : ℕ → ℕ → Bool
is_on_line from to = is_on_straight from to || is_on_diagonal from to

Decides-straight : (from to : ℕ) → Decides (is_on_straight from to) ((from ≢ to) × ((file_of from ≡ file_of to) ⊎ (rank_of from ≡ rank_of to)))
unfolding is_on_straight
Decides-straight from to = Decides-and _ _ (Decides-not _ (Decides-eqb from to)) (Decides-or _ _ (Decides-eqb _ _) (Decides-eqb _ _))

Decides-diagonal : (from to : ℕ) → Decides (is_on_diagonal from to) ((from ≢ to) × (apart (file_of from) (file_of to) ≡ apart (rank_of from) (rank_of to)))
unfolding is_on_diagonal
Decides-diagonal from to = Decides-and _ _ (Decides-not _ (Decides-eqb from to)) (Decides-eqb _ _)

straight_line : (d : Direction) (n from to : ℕ) → IsStraight d → 0 < n → Along d n from to → is_on_straight from to ≡ true
straight_line North n from to s lt a = (Decides-straight from to).1 (omega arith, inl (sym a.0))
straight_line South n from to s lt a = (Decides-straight from to).1 (omega arith, inl (sym a.0))
straight_line East n from to s lt a = (Decides-straight from to).1 (omega arith, inr (sym a.1))
straight_line West n from to s lt a = (Decides-straight from to).1 (omega arith, inr (sym a.1))
straight_line NorthEast n from to s lt a = absurd s
straight_line NorthWest n from to s lt a = absurd s
straight_line SouthEast n from to s lt a = absurd s
straight_line SouthWest n from to s lt a = absurd s

diagonal_line : (d : Direction) (n from to : ℕ) → IsDiagonal d → 0 < n → Along d n from to → is_on_diagonal from to ≡ true
diagonal_line North n from to s lt a = absurd s
diagonal_line South n from to s lt a = absurd s
diagonal_line East n from to s lt a = absurd s
diagonal_line West n from to s lt a = absurd s
diagonal_line NorthEast n from to s lt a = (Decides-diagonal from to).1 (omega arith, omega arith)
diagonal_line NorthWest n from to s lt a = (Decides-diagonal from to).1 (omega arith, omega arith)
diagonal_line SouthEast n from to s lt a = (Decides-diagonal from to).1 (omega arith, omega arith)
diagonal_line SouthWest n from to s lt a = (Decides-diagonal from to).1 (omega arith, omega arith)

either_true : (a b : Bool) → (a ≡ true) ⊎ (b ≡ true) → (a || b) ≡ true
either_true true b h = refl
either_true false b (inl e) = absurd (false≢true e)
either_true false b (inr e) = e

any_line : (d : Direction) (n from to : ℕ) → 0 < n → Along d n from to → is_on_line from to ≡ true
unfolding is_on_line
any_line North n from to lt a = either_true _ _ (inl (straight_line North n from to tt lt a))
any_line South n from to lt a = either_true _ _ (inl (straight_line South n from to tt lt a))
any_line East n from to lt a = either_true _ _ (inl (straight_line East n from to tt lt a))
any_line West n from to lt a = either_true _ _ (inl (straight_line West n from to tt lt a))
any_line NorthEast n from to lt a = either_true _ _ (inr (diagonal_line NorthEast n from to tt lt a))
any_line NorthWest n from to lt a = either_true _ _ (inr (diagonal_line NorthWest n from to tt lt a))
any_line SouthEast n from to lt a = either_true _ _ (inr (diagonal_line SouthEast n from to tt lt a))
any_line SouthWest n from to lt a = either_true _ _ (inr (diagonal_line SouthWest n from to tt lt a))

-- ---- the rows

abbrev test_of : Side → Kind → ℕ → ℕ → Bool
test_of side Pawn = is_pawn_attack side
test_of side Knight = is_knight_step
test_of side Bishop = is_on_diagonal
test_of side Rook = is_on_straight
test_of side Queen = is_on_line
test_of side King = is_king_step

row_right : (side : Side) (kind : Kind) → (rows (test_of side kind) 0 (row (row_of side kind)) ≡ true) × (length (row (row_of side kind)) ≡ 64)
unfolding rows covers row is_on_straight is_on_diagonal is_on_line
row_right White Pawn = (refl, refl)
row_right Black Pawn = (refl, refl)
row_right White Knight = (refl, refl)
row_right Black Knight = (refl, refl)
row_right White Bishop = (refl, refl)
row_right Black Bishop = (refl, refl)
row_right White Rook = (refl, refl)
row_right Black Rook = (refl, refl)
row_right White Queen = (refl, refl)
row_right Black Queen = (refl, refl)
row_right White King = (refl, refl)
row_right Black King = (refl, refl)

passes : (men : List (Option Piece)) (side : Side) (kind : Kind) (from to : ℕ) → Reaches men side kind from to → test_of side kind from to ≡ true
passes men side Pawn from to r = (Decides-pawn_attack side from to).1 r
passes men side Knight from to r = (Decides-knight_step from to).1 r
passes men side Bishop from to r = diagonal_line r.direction r.distance from to r.goes r.away r.along
passes men side Rook from to r = straight_line r.direction r.distance from to r.goes r.away r.along
passes men side Queen from to r = any_line r.direction r.distance from to r.away r.along
passes men side King from to r = (Decides-king_step from to).1 r

-- a man reaches no square but those of his set
pub reached_bit : (men : List (Option Piece)) (side : Side) (kind : Kind) (from to : ℕ) → from < 64 → to < 64 → Reaches men side kind from to → bit_at (slice_index REACHED (row_of side kind * 64 + from)) to ≡ 1
reached_bit men side kind from to b c r =
    let right = row_right side kind in
    row_bit (test_of side kind) (row_of side kind) from to right.0 right.1 b c (passes men side kind from to r)
