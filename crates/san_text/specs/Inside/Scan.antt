-- How the code reads a text, byte by byte. Only private contracts cite these words.
use Rattle.std.specs.Prelude.{ℕ, ◌+◌, ◌-◌, ◌*◌, ◌==◌, ◌&&◌, ◌||◌, nat_le, Bool, true, false, List, [], ◌∷◌, Option, Some, None, is_some, if◌then◌else◌}
use Rattle.board_core.specs.declared.piece.Kind.{Kind}
use Rattle.board_core.specs.declared.piece.Kind.TheVariants.{Pawn, Knight, Bishop, Rook, Queen, King}
use Rattle.board_core.specs.declared.piece.Promotion.{Promotion}
use Rattle.board_core.specs.declared.piece.Promotion.TheVariants.{Queen as ToQueen, Rook as ToRook, Bishop as ToBishop, Knight as ToKnight}
use Rattle.board_core.specs.declared.piece.Wing.{Wing}
use Rattle.board_core.specs.declared.piece.Wing.TheVariants.{KingSide, QueenSide}
use Rattle.san_text.specs.declared.told.ManTold.{ManTold}
use Rattle.san_text.specs.declared.told.Told.{Told}
use Rattle.san_text.specs.declared.told.Told.TheVariants.{Castles, Goes}

abbrev pub is_file : ℕ → Bool
is_file c = nat_le 97 c && nat_le c 104

abbrev pub is_rank : ℕ → Bool
is_rank c = nat_le 49 c && nat_le c 56

-- the kind that a letter stands for, and the text behind the letter
abbrev pub kind_by : ℕ → Option Kind
kind_by c =
    if c == 78 then Some Knight else (if c == 66 then Some Bishop else (if c == 82 then Some Rook else (if c == 81 then Some Queen
    else (if c == 75 then Some King else (if c == 80 then Some Pawn else None)))))

abbrev pub kind_or_pawn : Option Kind → Kind
kind_or_pawn None = Pawn
kind_or_pawn (Some kind) = kind

abbrev pub kind_in_front : List ℕ → Kind
kind_in_front [] = Pawn
kind_in_front (c ∷ cs) = kind_or_pawn (kind_by c)

abbrev pub past_kind : List ℕ → List ℕ
past_kind [] = []
past_kind (c ∷ cs) = if is_some (kind_by c) then cs else c ∷ cs

-- a file or a rank at the front, and the text behind it
abbrev pub file_in_front : List ℕ → Option ℕ
file_in_front [] = None
file_in_front (c ∷ cs) = if is_file c then Some (c - 97) else None

abbrev pub past_file : List ℕ → List ℕ
past_file [] = []
past_file (c ∷ cs) = if is_file c then cs else c ∷ cs

abbrev pub rank_in_front : List ℕ → Option ℕ
rank_in_front [] = None
rank_in_front (c ∷ cs) = if is_rank c then Some (c - 49) else None

abbrev pub past_rank : List ℕ → List ℕ
past_rank [] = []
past_rank (c ∷ cs) = if is_rank c then cs else c ∷ cs

-- x, or a dash where one may stand
abbrev pub takes_in_front : List ℕ → Bool
takes_in_front [] = false
takes_in_front (c ∷ cs) = c == 120

abbrev pub past_between : Bool → List ℕ → List ℕ
past_between whole [] = []
past_between whole (c ∷ cs) = if (c == 120) || (whole && (c == 45)) then cs else c ∷ cs

abbrev pub square_in_front : List ℕ → Option ℕ
square_in_front [] = None
square_in_front (c ∷ []) = None
square_in_front (c ∷ d ∷ cs) = if is_file c && is_rank d then Some (8 * (d - 49) + (c - 97)) else None

abbrev pub past_two : List ℕ → List ℕ
past_two [] = []
past_two (c ∷ []) = []
past_two (c ∷ d ∷ cs) = cs

-- a promotion's letter, behind a sign of equality or not
abbrev pub promotion_by : ℕ → Option Promotion
promotion_by c =
    if (c == 81) || (c == 113) then Some ToQueen else (if (c == 82) || (c == 114) then Some ToRook
    else (if (c == 66) || (c == 98) then Some ToBishop else (if (c == 78) || (c == 110) then Some ToKnight else None)))

abbrev pub past_equals : List ℕ → List ℕ
past_equals [] = []
past_equals (c ∷ []) = c ∷ []
past_equals (c ∷ d ∷ cs) = if (c == 61) && is_some (promotion_by d) then d ∷ cs else c ∷ d ∷ cs

abbrev pub letter_in_front : List ℕ → Option Promotion
letter_in_front [] = None
letter_in_front (c ∷ cs) = promotion_by c

abbrev pub past_promotion_letter : List ℕ → List ℕ
past_promotion_letter [] = []
past_promotion_letter (c ∷ cs) = if is_some (promotion_by c) then cs else c ∷ cs

abbrev pub promotion_in_front : List ℕ → Option Promotion
promotion_in_front t = letter_in_front (past_equals t)

abbrev pub past_promotion : List ℕ → List ℕ
past_promotion t = past_promotion_letter (past_equals t)

-- e.p.
abbrev pub passes_in_front : List ℕ → Bool
passes_in_front [] = false
passes_in_front (a ∷ []) = false
passes_in_front (a ∷ b ∷ []) = false
passes_in_front (a ∷ b ∷ c ∷ []) = false
passes_in_front (a ∷ b ∷ c ∷ d ∷ cs) = (a == 101) && (b == 46) && (c == 112) && (d == 46)

abbrev pub past_passing : List ℕ → List ℕ
past_passing [] = []
past_passing (a ∷ []) = a ∷ []
past_passing (a ∷ b ∷ []) = a ∷ b ∷ []
past_passing (a ∷ b ∷ c ∷ []) = a ∷ b ∷ c ∷ []
past_passing (a ∷ b ∷ c ∷ d ∷ cs) = if (a == 101) && (b == 46) && (c == 112) && (d == 46) then cs else a ∷ b ∷ c ∷ d ∷ cs

-- the signs of check, and the glyphs
abbrev pub past_plus : List ℕ → List ℕ
past_plus [] = []
past_plus (c ∷ cs) = if c == 43 then cs else c ∷ cs

abbrev pub past_check : List ℕ → List ℕ
past_check [] = []
past_check (c ∷ cs) = if c == 35 then cs else (if c == 43 then past_plus cs else c ∷ cs)

abbrev pub is_glyph : ℕ → Bool
is_glyph c = (c == 33) || (c == 63)

abbrev pub are_glyphs : List ℕ → Bool
are_glyphs [] = true
are_glyphs (c ∷ []) = is_glyph c
are_glyphs (c ∷ d ∷ []) = is_glyph c && is_glyph d
are_glyphs (c ∷ d ∷ e ∷ cs) = false

abbrev pub are_marks : List ℕ → Bool
are_marks t = are_glyphs (past_check t)

-- castling by this sign, O or 0
abbrev pub is_short : ℕ → List ℕ → Bool
is_short sign [] = false
is_short sign (a ∷ []) = false
is_short sign (a ∷ b ∷ []) = false
is_short sign (a ∷ b ∷ c ∷ cs) = (a == sign) && (b == 45) && (c == sign)

abbrev pub past_three : List ℕ → List ℕ
past_three [] = []
past_three (a ∷ []) = []
past_three (a ∷ b ∷ []) = []
past_three (a ∷ b ∷ c ∷ cs) = cs

abbrev pub is_longer : ℕ → List ℕ → Bool
is_longer sign [] = false
is_longer sign (a ∷ []) = false
is_longer sign (a ∷ b ∷ cs) = (a == 45) && (b == sign)

abbrev pub castles_before : Wing → List ℕ → Option Told
castles_before wing t = if are_marks t then Some (Castles wing) else None

abbrev pub castling_by : ℕ → List ℕ → Option Told
castling_by sign t =
    if is_longer sign (past_three t) then castles_before QueenSide (past_two (past_three t)) else castles_before KingSide (past_three t)

-- what is told of a man, with the text behind his square
abbrev pub with_tail : ManTold → List ℕ → Option Told
with_tail man t =
    if are_marks (past_passing (past_promotion t))
    then Some (Goes (record man { promotion = promotion_in_front t; en_passant = passes_in_front (past_promotion t) }))
    else None

abbrev pub whole_square : Option ℕ → Option ℕ → Bool
whole_square file rank = is_some file && is_some rank

abbrev pub man_at_square : Kind → Option ℕ → Option ℕ → Bool → ℕ → ManTold
man_at_square kind file rank takes to = record { kind = kind; file = file; rank = rank; takes = takes; to = to; promotion = None; en_passant = false }

-- the file and the rank that were read are those of the man's square
abbrev pub square_alone : Kind → Option ℕ → Option ℕ → List ℕ → Option Told
square_alone _ None rank t = None
square_alone _ (Some file) None t = None
square_alone kind (Some file) (Some rank) t = with_tail (man_at_square kind None None false (8 * rank + file)) t

-- the text from the sign between on, then the text behind it
abbrev pub after_between : Kind → Option ℕ → Option ℕ → List ℕ → Option ℕ → List ℕ → Option Told
after_between kind file rank t None after = square_alone kind file rank t
after_between kind file rank t (Some to) after = with_tail (man_at_square kind file rank (takes_in_front t) to) (past_two after)

abbrev pub after_origin : Kind → Option ℕ → Option ℕ → List ℕ → Option Told
after_origin kind file rank t =
    after_between kind file rank t (square_in_front (past_between (whole_square file rank) t)) (past_between (whole_square file rank) t)

abbrev pub after_kind : Kind → List ℕ → Option Told
after_kind kind t = after_origin kind (file_in_front t) (rank_in_front (past_file t)) (past_rank (past_file t))

-- what a text tells
unfoldable pub told_by_text : List ℕ → Option Told
told_by_text t =
    if is_short 79 t then castling_by 79 t
    else (if is_short 48 t then castling_by 48 t
    else after_kind (kind_in_front t) (past_kind t))
