-- The board of a position shows it.
use Rattle.std.proofs.Common.{◌≡◌, ◌∙◌, sym, ap, refl, ℕ, suc, ◌+◌, ◌<◌, ◌==◌, Bool, true, false, List, [], ◌∷◌, Option, Some, None, length, get_or, arith}
use Rattle.std.proofs.lemmas.Bool.{lt-ltb}
use Rattle.board_core.specs.declared.parts.Parts.{Parts}
use Rattle.board_core.specs.declared.parts.Rights.{Rights}
use Rattle.board_core.specs.declared.piece.Kind.{Kind}
use Rattle.board_core.specs.declared.piece.Kind.TheVariants.{Pawn, Knight, Bishop, Rook, Queen, King}
use Rattle.board_core.specs.declared.piece.Piece.{Piece}
use Rattle.board_core.specs.declared.piece.Side.{Side}
use Rattle.board_core.specs.declared.piece.Side.TheVariants.{White, Black}
use Rattle.board_core.specs.declared.sets.Sets.{Sets}
use Rattle.board_core.specs.Attack.{man_at}
use Rattle.board_core.specs.Position.{HasValidEnPassant, is_of, passed_rank}
use Rattle.board_core.specs.Square.{rank_of}
use Rattle.board_core.specs.Sets.{is_in, kind_or, man_by, man_on, men_shown, shown_from, side_by}
use Rattle.board_core.specs.Sides.{squares_where}
use Rattle.board_core.proofs.SetBits.{bit_of, squares_where_bit}
use Rattle.probe_api.specs.Afters.{BoardShowsItsPosition, board_of, is_kind, passed_number, rights_number, side_number}
use Rattle.probe_api.specs.Boards.{rights_on, sets_on, side_to_move, square_or_none}

-- ---- men

as_bit : (b : Bool) → (bit_of b == 1) ≡ b
as_bit true = refl
as_bit false = refl

in_where : (test : Option Piece → Bool) → test None ≡ false → (men : List (Option Piece)) (s : ℕ) → is_in (squares_where test men) s ≡ test (man_at men s)
in_where test none men s = ap (λ (n : ℕ). n == 1) (squares_where_bit test none men s) ∙ as_bit (test (man_at men s))

-- a man is told by his side and his kind
man_told : (side : Side) (kind : Kind) → man_by (side_by (is_of White (Some (record { side = side; kind = kind }))) (is_of Black (Some (record { side = side; kind = kind }))))
    (kind_or King (is_kind King (Some (record { side = side; kind = kind }))) (kind_or Pawn (is_kind Pawn (Some (record { side = side; kind = kind }))) (kind_or Rook (is_kind Rook (Some (record { side = side; kind = kind })))
    (kind_or Queen (is_kind Queen (Some (record { side = side; kind = kind }))) (kind_or Bishop (is_kind Bishop (Some (record { side = side; kind = kind }))) (kind_or Knight (is_kind Knight (Some (record { side = side; kind = kind }))) None))))))
    ≡ Some (record { side = side; kind = kind })
man_told White Pawn = refl
man_told White Knight = refl
man_told White Bishop = refl
man_told White Rook = refl
man_told White Queen = refl
man_told White King = refl
man_told Black Pawn = refl
man_told Black Knight = refl
man_told Black Bishop = refl
man_told Black Rook = refl
man_told Black Queen = refl
man_told Black King = refl

told_of : (o : Option Piece) → man_by (side_by (is_of White o) (is_of Black o)) (kind_or King (is_kind King o) (kind_or Pawn (is_kind Pawn o) (kind_or Rook (is_kind Rook o) (kind_or Queen (is_kind Queen o) (kind_or Bishop (is_kind Bishop o) (kind_or Knight (is_kind Knight o) None)))))) ≡ o
told_of None = refl
told_of (Some man) = man_told man.side man.kind

man_of_board : (p : Parts) (s : ℕ) → man_on (sets_on (board_of p)) s ≡ man_at p.men s
man_of_board p s =
    rw (
      in_where (is_of White) refl p.men s,
      in_where (is_of Black) refl p.men s,
      in_where (is_kind King) refl p.men s,
      in_where (is_kind Pawn) refl p.men s,
      in_where (is_kind Rook) refl p.men s,
      in_where (is_kind Queen) refl p.men s,
      in_where (is_kind Bishop) refl p.men s,
      in_where (is_kind Knight) refl p.men s,
    ) (told_of (man_at p.men s))

all_shown : (sets : Sets) (rest : List (Option Piece)) (s : ℕ) → ((i j : ℕ) → s + i ≡ j → man_on sets j ≡ get_or rest i None) → shown_from sets (length rest) s ≡ rest
unfolding shown_from
all_shown sets [] s each = refl
all_shown sets (man ∷ others) s each =
    ap (λ x. x ∷ shown_from sets (length others) (suc s)) (each 0 s (omega arith)) ∙ ap (λ xs. man ∷ xs) (all_shown sets others (suc s) (λ i j e. each (suc i) j (omega (arith, e))))

men_of_board : (p : Parts) → length p.men ≡ 64 → men_shown (sets_on (board_of p)) ≡ p.men
men_of_board p long =
    ap (λ n. shown_from (sets_on (board_of p)) n 0) (sym long)
    ∙ all_shown (sets_on (board_of p)) p.men 0 (λ i j e. (let same : i ≡ j = omega (arith, e) in man_of_board p j ∙ ap (man_at p.men) (sym same)))

-- ---- what a position has besides

side_of_board : (side : Side) → side_to_move (side_number side) ≡ side
side_of_board White = refl
side_of_board Black = refl

rights_told : (a b c d : Bool) → rights_on (rights_number (record { white_king = a; white_queen = b; black_king = c; black_queen = d })) ≡ record { white_king = a; white_queen = b; black_king = c; black_queen = d }
rights_told true true true true = refl
rights_told true true true false = refl
rights_told true true false true = refl
rights_told true true false false = refl
rights_told true false true true = refl
rights_told true false true false = refl
rights_told true false false true = refl
rights_told true false false false = refl
rights_told false true true true = refl
rights_told false true true false = refl
rights_told false true false true = refl
rights_told false true false false = refl
rights_told false false true true = refl
rights_told false false true false = refl
rights_told false false false true = refl
rights_told false false false false = refl

passed_of_board : (p : Parts) → HasValidEnPassant p → (o : Option ℕ) → p.en_passant ≡ o → square_or_none (passed_number o) ≡ o
passed_of_board p valid None e = refl
passed_of_board p valid (Some s) e = rw (lt-ltb s 64 (low p.side (valid s e).rank)) refl
  where
    low : (side : Side) → rank_of s ≡ passed_rank side → s < 64
    low White at = omega (arith, at)
    low Black at = omega (arith, at)

-- ---- the whole

same_parts : (p : Parts) (men : List (Option Piece)) (side : Side) (rights : Rights) (passed : Option ℕ) → men ≡ p.men → side ≡ p.side → rights ≡ p.rights → passed ≡ p.en_passant
    → record { men = men; side = side; rights = rights; en_passant = passed; halfmove = p.halfmove; fullmove = p.fullmove } ≡ p
same_parts p men side rights passed a b c d = rw (a, b, c, d) refl

pub board_shows : BoardShowsItsPosition
board_shows p position =
    same_parts p _ _ _ _ (men_of_board p position.squares) (side_of_board p.side) (rights_told p.rights.white_king p.rights.white_queen p.rights.black_king p.rights.black_queen) (passed_of_board p position.en_passant p.en_passant refl)
