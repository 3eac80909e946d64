-- The definitions computed on positions whose answers are known from outside: each row holds by evaluation alone. A row of
-- legal moves takes eight seconds, so that the others are tests.
use Rattle.std.proofs.Common.{ℕ, ◌≡◌, true, false, List, [], ◌∷◌, Option, Some, None, refl, map, codes}
use Rattle.std.specs.Prelude.{◌==◌, if◌then◌else◌}
use Rattle.board_core.specs.declared.piece.Piece.{Piece}
use Rattle.board_core.specs.declared.piece.Side.{Side}
use Rattle.board_core.specs.declared.piece.Side.TheVariants.{White, Black}
use Rattle.board_core.specs.declared.piece.Kind.{Kind}
use Rattle.board_core.specs.declared.piece.Kind.TheVariants.{Pawn, Knight, Bishop, Rook, Queen, King}
use Rattle.board_core.specs.declared.piece.Promotion.{Promotion}
use Rattle.board_core.specs.declared.parts.Parts.{Parts}
use Rattle.board_core.specs.declared.moves.Move.{Move}
use Rattle.board_core.specs.Moves.{after}
use Rattle.board_core.specs.Computed.{some_below, each_below, is_ray, is_attacked, is_in_check}
use Rattle.board_core.specs.ComputedMoves.{is_en_passant, case_of, position_after, moves_from, all_moves, legal_moves}

abbrev man : Side → Kind → Option Piece
man side what = Some (record { side = side; kind = what })

-- the man of a letter, and none for a dot
abbrev man_of : ℕ → Option Piece
man_of c =
    if c == 80 then man White Pawn else if c == 78 then man White Knight
    else if c == 66 then man White Bishop else if c == 82 then man White Rook
    else if c == 81 then man White Queen else if c == 75 then man White King
    else if c == 112 then man Black Pawn else if c == 110 then man Black Knight
    else if c == 98 then man Black Bishop else if c == 114 then man Black Rook
    else if c == 113 then man Black Queen else if c == 107 then man Black King
    else None

-- the board in letters from a1 on, rank by rank
abbrev men_of : List ℕ → List (Option Piece)
men_of = map man_of

abbrev move : ℕ → ℕ → Option Promotion → Move
move from to promotion = record { from = from; to = to; promotion = promotion }

-- en passant would leave the king attacked by the rook: a5a4, a5b4, a5b5, a5a6, a5b6, e5e6
abbrev passant : Parts
passant = record {
  men = men_of (codes ".......k........................K..pP..r........................");
  side = White;
  rights = record { white_king = false; white_queen = false; black_king = false; black_queen = false };
  en_passant = Some 43;
  halfmove = 0;
  fullmove = 1;
}

passant_moves : legal_moves passant ≡ (move 32 24 None ∷ move 32 25 None ∷ move 32 33 None ∷ move 32 40 None ∷ move 32 41 None ∷ move 36 44 None ∷ [])
unfolding is_in_check is_attacked some_below each_below is_ray position_after case_of after is_en_passant moves_from all_moves legal_moves
passant_moves = refl

-- checkmate
abbrev mated : Parts
mated = record {
  men = men_of (codes ".....................................................KQ........k");
  side = Black;
  rights = record { white_king = false; white_queen = false; black_king = false; black_queen = false };
  en_passant = None;
  halfmove = 0;
  fullmove = 1;
}

mated_check : is_in_check mated.men mated.side ≡ true
unfolding is_in_check is_attacked some_below each_below is_ray
mated_check = refl

-- stalemate
abbrev stalemated : Parts
stalemated = record {
  men = men_of (codes "..............................................K......Q.........k");
  side = Black;
  rights = record { white_king = false; white_queen = false; black_king = false; black_queen = false };
  en_passant = None;
  halfmove = 0;
  fullmove = 1;
}

stalemated_check : is_in_check stalemated.men stalemated.side ≡ false
unfolding is_in_check is_attacked some_below each_below is_ray
stalemated_check = refl
