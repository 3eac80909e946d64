-- A code stands for the man that has it.
use Rattle.std.proofs.Common.{ℕ, ◌≡◌, List, set, Option, Some, None, refl, ap, ◌∙◌}
use Rattle.std.proofs.lemmas.List.{map-set}
use Rattle.board_core.specs.declared.piece.Piece.{Piece}
use Rattle.board_core.specs.declared.piece.Side.{Side}
use Rattle.board_core.specs.declared.piece.Side.TheVariants.{White, Black}
use Rattle.board_core.specs.declared.piece.Kind.{Kind}
use Rattle.board_core.specs.declared.piece.Kind.TheVariants.{Pawn, Knight, Bishop, Rook, Queen, King}
use Rattle.board_core.specs.Inside.Coding.{code_on_square, coded_man, coded_men, square_codes, AreSquareCodes}

piece_back : (side : Side) (kind : Kind) → coded_man (code_on_square (Some (record { side = side; kind = kind }))) ≡ Some (record { side = side; kind = kind })
piece_back White Pawn = refl
piece_back White Knight = refl
piece_back White Bishop = refl
piece_back White Rook = refl
piece_back White Queen = refl
piece_back White King = refl
piece_back Black Pawn = refl
piece_back Black Knight = refl
piece_back Black Bishop = refl
piece_back Black Rook = refl
piece_back Black Queen = refl
piece_back Black King = refl

pub man_back : (man : Option Piece) → coded_man (code_on_square man) ≡ man
man_back None = refl
man_back (Some man) = piece_back man.side man.kind

-- a man is put among the men by his code among the codes
pub put_man : (codes : List ℕ) (s : ℕ) (man : Option Piece) → coded_men (set codes s (code_on_square man)) ≡ set (coded_men codes) s man
put_man codes s man = map-set coded_man codes s (code_on_square man) ∙ ap (λ o. set (coded_men codes) s o) (man_back man)

pub put_code : (codes : List ℕ) (s : ℕ) (man : Option Piece) → AreSquareCodes codes → AreSquareCodes (set codes s (code_on_square man))
put_code codes s man are =
    ap square_codes (put_man codes s man)
    ∙ map-set code_on_square (coded_men codes) s man
    ∙ ap (λ xs. set xs s (code_on_square man)) are
