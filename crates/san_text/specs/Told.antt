-- What the text of a move tells (PGN standard, section 8.2.3), and the texts that tell it.
use Rattle.std.specs.Prelude.{◌≡◌, ℕ, ◌+◌, ◌<◌, ◌⊎◌, ◌++◌, Bool, true, false, List, [], ◌∷◌, Option, Some, None, codes}
use Rattle.board_core.specs.declared.piece.Kind.{Kind}
use Rattle.board_core.specs.declared.piece.Kind.TheVariants.{Pawn, Knight, Bishop, Rook, Queen, King}
use Rattle.board_core.specs.declared.piece.Promotion.{Promotion}
use Rattle.board_core.specs.declared.piece.Promotion.TheVariants.{Queen as ToQueen, Rook as ToRook, Bishop as ToBishop, Knight as ToKnight}
use Rattle.board_core.specs.declared.piece.Wing.{Wing}
use Rattle.board_core.specs.declared.piece.Wing.TheVariants.{KingSide, QueenSide}
use Rattle.board_core.specs.Square.{file_of, rank_of}
use Rattle.san_text.specs.declared.told.ManTold.{ManTold}
use Rattle.san_text.specs.declared.told.Told.{Told}
use Rattle.san_text.specs.declared.told.Told.TheVariants.{Castles, Goes}

-- the letter of a man; a pawn's is not written (section 8.2.3.2)
abbrev pub kind_text : Kind → List ℕ
kind_text Pawn = []
kind_text Knight = codes "N"
kind_text Bishop = codes "B"
kind_text Rook = codes "R"
kind_text Queen = codes "Q"
kind_text King = codes "K"

-- a to h, 1 to 8, and a square by both
abbrev pub file_letter : Option ℕ → List ℕ
file_letter None = []
file_letter (Some file) = (97 + file) ∷ []

abbrev pub rank_digit : Option ℕ → List ℕ
rank_digit None = []
rank_digit (Some rank) = (49 + rank) ∷ []

abbrev pub square_text : ℕ → List ℕ
square_text s = (97 + file_of s) ∷ (49 + rank_of s) ∷ []

-- x for a capture
abbrev pub takes_text : Bool → List ℕ
takes_text true = codes "x"
takes_text false = []

-- the letter of a promotion behind a sign of equality
abbrev pub promoted_text : Option Promotion → List ℕ
promoted_text None = []
promoted_text (Some ToQueen) = codes "=Q"
promoted_text (Some ToRook) = codes "=R"
promoted_text (Some ToBishop) = codes "=B"
promoted_text (Some ToKnight) = codes "=N"

-- castling, by the letter O (section 8.2.3.3)
abbrev pub castles_text : Wing → List ℕ
castles_text KingSide = codes "O-O"
castles_text QueenSide = codes "O-O-O"

-- the text is one of these
abbrev pub IsAmongTexts : List (List ℕ) → List ℕ → Type 0
IsAmongTexts [] t = ⊥
IsAmongTexts (x ∷ xs) t = (t ≡ x) ⊎ IsAmongTexts xs t

-- what files have besides: the letter P of a pawn, castling by zeros, a promotion without the sign of equality or by a small letter
abbrev pub kind_texts : Kind → List (List ℕ)
kind_texts Pawn = [] ∷ codes "P" ∷ []
kind_texts Knight = codes "N" ∷ []
kind_texts Bishop = codes "B" ∷ []
kind_texts Rook = codes "R" ∷ []
kind_texts Queen = codes "Q" ∷ []
kind_texts King = codes "K" ∷ []

abbrev pub castles_texts : Wing → List (List ℕ)
castles_texts KingSide = codes "O-O" ∷ codes "0-0" ∷ []
castles_texts QueenSide = codes "O-O-O" ∷ codes "0-0-0" ∷ []

abbrev pub promoted_texts : Option Promotion → List (List ℕ)
promoted_texts None = [] ∷ []
promoted_texts (Some ToQueen) = codes "=Q" ∷ codes "Q" ∷ codes "=q" ∷ codes "q" ∷ []
promoted_texts (Some ToRook) = codes "=R" ∷ codes "R" ∷ codes "=r" ∷ codes "r" ∷ []
promoted_texts (Some ToBishop) = codes "=B" ∷ codes "B" ∷ codes "=b" ∷ codes "b" ∷ []
promoted_texts (Some ToKnight) = codes "=N" ∷ codes "N" ∷ codes "=n" ∷ codes "n" ∷ []

-- between what is told of the origin and the square: x where a capture is told; a dash, which tells nothing, behind a whole square
abbrev pub between_texts : Option ℕ → Option ℕ → Bool → List (List ℕ)
between_texts file rank true = codes "x" ∷ []
between_texts None rank false = [] ∷ []
between_texts (Some file) None false = [] ∷ []
between_texts (Some file) (Some rank) false = [] ∷ codes "-" ∷ []

abbrev pub passing_text : Bool → List ℕ
passing_text true = codes "e.p."
passing_text false = []

-- a sign of check or mate, and the glyphs behind it; what they tell is not compared with the position
abbrev pub check_texts : List (List ℕ)
check_texts = [] ∷ codes "+" ∷ codes "++" ∷ codes "#" ∷ []

abbrev pub glyph_texts : List (List ℕ)
glyph_texts = [] ∷ codes "!" ∷ codes "?" ∷ codes "!!" ∷ codes "!?" ∷ codes "?!" ∷ codes "??" ∷ []

pub record AreMarks (t : List ℕ) : Type 0 where
  pub check : List ℕ
  pub glyph : List ℕ
  pub is_check : IsAmongTexts check_texts check
  pub is_glyph : IsAmongTexts glyph_texts glyph
  pub text : t ≡ check ++ glyph

-- files and ranks are numbered 0 to 7
abbrev pub IsBelowEight : Option ℕ → Type 0
IsBelowEight None = Unit {0}
IsBelowEight (Some n) = n < 8

pub record SpellsCastles (t : List ℕ) (wing : Wing) : Type 0 where
  pub castling : List ℕ
  pub marks : List ℕ
  pub castles : IsAmongTexts (castles_texts wing) castling
  pub are_marks : AreMarks marks
  pub text : t ≡ castling ++ marks

-- the letter of the man, what is told of the square that he leaves, x, his square, the promotion, e.p., and the marks
pub record SpellsMan (t : List ℕ) (told : ManTold) : Type 0 where
  pub file : IsBelowEight told.file
  pub rank : IsBelowEight told.rank
  pub square : told.to < 64
  pub letter : List ℕ
  pub between : List ℕ
  pub promotion : List ℕ
  pub marks : List ℕ
  pub is_letter : IsAmongTexts (kind_texts told.kind) letter
  pub is_between : IsAmongTexts (between_texts told.file told.rank told.takes) between
  pub promotes : IsAmongTexts (promoted_texts told.promotion) promotion
  pub are_marks : AreMarks marks
  pub text : t ≡ letter ++ file_letter told.file ++ rank_digit told.rank ++ between ++ square_text told.to ++ promotion ++ passing_text told.en_passant ++ marks

-- the text tells this
abbrev pub SpellsTold : List ℕ → Told → Type 0
SpellsTold t (Castles wing) = SpellsCastles t wing
SpellsTold t (Goes man) = SpellsMan t man

-- the one text of the standard that tells this
abbrev pub told_text : Told → List ℕ
told_text (Castles wing) = castles_text wing
told_text (Goes man) =
    kind_text man.kind ++ file_letter man.file ++ rank_digit man.rank ++ takes_text man.takes ++ square_text man.to ++ promoted_text man.promotion
