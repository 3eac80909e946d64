-- What is written for a legal move is read as this move.
use Rattle.std.proofs.Common.{◌≡◌, ◌≢◌, ◌<◌, ℕ, Bool, true, false, not, List, [], ◌++◌, Option, Some, None, refl, sym, ap, subst, ◌∙◌, arith, append-nil, inl, inr}
use Rattle.std.specs.Prelude.{◌==◌, codes, if◌then◌else◌}
use Rattle.std.proofs.lemmas.Bool.{cases_Bool, cases_eq, eq-eqb, ne_eqb}
use Rattle.board_core.specs.declared.piece.Kind.{Kind}
use Rattle.board_core.specs.declared.piece.Kind.TheVariants.{Pawn, Knight, Bishop, Rook, Queen, King}
use Rattle.board_core.specs.declared.piece.Promotion.{Promotion}
use Rattle.board_core.specs.declared.piece.Promotion.TheVariants.{Queen as ToQueen, Rook as ToRook, Bishop as ToBishop, Knight as ToKnight}
use Rattle.board_core.specs.declared.piece.Wing.{Wing}
use Rattle.board_core.specs.declared.piece.Wing.TheVariants.{KingSide, QueenSide}
use Rattle.board_core.specs.declared.parts.Parts.{Parts}
use Rattle.board_core.specs.declared.moves.Move.{Move}
use Rattle.board_core.specs.Square.{file_of, rank_of}
use Rattle.board_core.specs.Moves.{Stands, IsLegal}
use Rattle.board_core.specs.Computed.{is_in_check}
use Rattle.board_core.specs.ComputedMoves.{is_capture, position_after}
use Rattle.board_core.proofs.Listing.{IsLegal-stands}
use Rattle.san_text.specs.declared.told.ManTold.{ManTold}
use Rattle.san_text.specs.declared.told.Told.TheVariants.{Castles, Goes}
use Rattle.san_text.specs.declared.origin.Apart.{Apart}
use Rattle.san_text.specs.declared.origin.Apart.TheVariants.{Nothing, ByFile, ByRank, BySquare}
use Rattle.san_text.specs.Told.{kind_text, kind_texts, takes_text, promoted_text, IsAmongTexts, promoted_texts, between_texts, castles_texts, castles_text, AreMarks, IsBelowEight, SpellsMan, told_text}
use Rattle.board_core.specs.Ends.{is_checkmate}
use Rattle.san_text.specs.Agrees.{castling, IsNumberTold, file_told, AgreesMan}
use Rattle.san_text.specs.Written.{kind_letter, kind_there, kind_moved, is_rival, has_rival, anywhere, on_file_of, on_rank_of, told_apart, pawn_apart, origin_told, file_by, rank_by, man_told, castling_or_man, san_told, check_mark, mark_after, san_of}
use Rattle.san_text.specs.San.{IsMeant, ReadsSan}
use Rattle.san_text.proofs.LegalMoves.{castles_by}
use Rattle.san_text.proofs.PawnLaws.{one_square, one_pawn, pawn_stays}
use Rattle.san_text.proofs.Rivals.{Decides-rival}
use Rattle.san_text.proofs.ReadingLaws.{spelled_read}
use Rattle.san_text.proofs.SpellingLaws.{no_sign}

-- ---- the standard's text of what is told spells it

own_promotion : (o : Option Promotion) → IsAmongTexts (promoted_texts o) (promoted_text o)
own_promotion None = inl refl
own_promotion (Some ToQueen) = inl refl
own_promotion (Some ToRook) = inl refl
own_promotion (Some ToBishop) = inl refl
own_promotion (Some ToKnight) = inl refl

own_letter : (what : Kind) → IsAmongTexts (kind_texts what) (kind_text what)
own_letter Pawn = inl refl
own_letter Knight = inl refl
own_letter Bishop = inl refl
own_letter Rook = inl refl
own_letter Queen = inl refl
own_letter King = inl refl

own_sign : (file rank : Option ℕ) (takes : Bool) → IsAmongTexts (between_texts file rank takes) (takes_text takes)
own_sign file rank true = inl refl
own_sign file rank false = no_sign file rank

own_castling : (wing : Wing) → IsAmongTexts (castles_texts wing) (castles_text wing)
own_castling KingSide = inl refl
own_castling QueenSide = inl refl

man_spelled : (man : ManTold) (mark : List ℕ) → man.en_passant ≡ false → IsBelowEight man.file → IsBelowEight man.rank → man.to < 64 → AreMarks mark → SpellsMan (told_text (Goes man) ++ mark) man
man_spelled man mark none file rank square marks = record {
  file = file;
  rank = rank;
  square = square;
  letter = kind_text man.kind;
  between = takes_text man.takes;
  promotion = promoted_text man.promotion;
  marks = mark;
  is_letter = own_letter man.kind;
  is_between = own_sign man.file man.rank man.takes;
  promotes = own_promotion man.promotion;
  are_marks = marks;
  text = rw none (ap (λ (s : List ℕ). s ++ mark) (sym (append-nil (told_text (Goes man)))));
}

mark_alone : (check mark : List ℕ) → AreMarks (check ++ []) → mark ≡ check → AreMarks mark
mark_alone check mark h e = rw (e ∙ sym (append-nil check)) h

some_mark : (a b : Bool) → AreMarks (if a then codes "#" else (if b then codes "+" else []))
some_mark true b = record { check = codes "#"; glyph = []; is_check = inr (inr (inr (inl refl))); is_glyph = inl refl; text = refl }
some_mark false true = record { check = codes "+"; glyph = []; is_check = inr (inl refl); is_glyph = inl refl; text = refl }
some_mark false false = record { check = []; glyph = []; is_check = inl refl; is_glyph = inl refl; text = refl }

own_mark : (o : Option Parts) → AreMarks (mark_after o)
unfolding check_mark
own_mark None = record { check = []; glyph = []; is_check = inl refl; is_glyph = inl refl; text = refl }
own_mark (Some q) = some_mark (is_checkmate q) (is_in_check q.men q.side)

-- ---- what is told of the origin is so

file_small : (apart : Apart) (from : ℕ) → from < 64 → IsBelowEight (file_by apart from)
file_small Nothing from lt = tt
file_small ByFile from lt = omega arith
file_small ByRank from lt = tt
file_small BySquare from lt = omega arith

rank_small : (apart : Apart) (from : ℕ) → from < 64 → IsBelowEight (rank_by apart from)
rank_small Nothing from lt = tt
rank_small ByFile from lt = tt
rank_small ByRank from lt = omega arith
rank_small BySquare from lt = omega arith

-- the man that moves
pub moved : (p : Parts) (m : Move) → IsLegal p m → Stands p.men m.from p.side (kind_moved p m)
moved p m l =
    let st = IsLegal-stands p m l in
    let what : kind_moved p m ≡ st.0 = ap kind_there st.1 in
    subst (Stands p.men m.from p.side) (sym what) st.1

rank_so : (apart : Apart) (from : ℕ) → IsNumberTold (rank_by apart from) (rank_of from)
rank_so Nothing from = tt
rank_so ByFile from = tt
rank_so ByRank from = refl
rank_so BySquare from = refl

file_so : (what : Kind) (apart : Apart) (from to : ℕ) → (what ≡ Pawn → file_by apart from ≡ None → file_of from ≡ file_of to) → IsNumberTold (file_told what (file_by apart from) to) (file_of from)
file_so what ByFile from to pawn = refl
file_so what BySquare from to pawn = refl
file_so Pawn Nothing from to pawn = pawn refl refl
file_so Knight Nothing from to pawn = tt
file_so Bishop Nothing from to pawn = tt
file_so Rook Nothing from to pawn = tt
file_so Queen Nothing from to pawn = tt
file_so King Nothing from to pawn = tt
file_so Pawn ByRank from to pawn = pawn refl refl
file_so Knight ByRank from to pawn = tt
file_so Bishop ByRank from to pawn = tt
file_so Rook ByRank from to pawn = tt
file_so Queen ByRank from to pawn = tt
file_so King ByRank from to pawn = tt

no_file_told : (p : Parts) (m : Move) (takes : Bool) → is_capture p m ≡ takes → file_by (pawn_apart takes) m.from ≡ None → is_capture p m ≡ false
no_file_told p m true e f = absurd (let g = f in cc)
no_file_told p m false e f = e

pawn_file : (p : Parts) (m : Move) (what : Kind) → IsLegal p m → Stands p.men m.from p.side what → what ≡ Pawn → file_by (origin_told what p m) m.from ≡ None → file_of m.from ≡ file_of m.to
pawn_file p m what l st pawn none =
    let pawn_stands = subst (Stands p.men m.from p.side) pawn st in
    let f : file_by (origin_told Pawn p m) m.from ≡ None = subst (λ k. file_by (origin_told k p m) m.from ≡ None) pawn none in
    pawn_stays p m l pawn_stands (no_file_told p m (is_capture p m) refl f)

pub man_agrees : (p : Parts) (m : Move) → IsLegal p m → castling p m ≡ None → AgreesMan p (man_told p m) m
man_agrees p m l none = record {
  stands = moved p m l;
  file = file_so (kind_moved p m) (origin_told (kind_moved p m) p m) m.from m.to (pawn_file p m (kind_moved p m) l (moved p m l));
  rank = rank_so (origin_told (kind_moved p m) p m) m.from;
  takes = λ t. t;
  square = refl;
  promotion = refl;
  en_passant = λ t. absurd (let f = t in cc);
  stays = none;
}

-- ---- no other legal move agrees

-- another man of the kind who goes to the square is a rival
rival_of : (p : Parts) (m n : Move) → IsLegal p n → kind_moved p n ≡ kind_moved p m → n.to ≡ m.to → n.from ≢ m.from → (test : ℕ → Bool) → test n.from ≡ true → has_rival p m test ≡ true
rival_of p m n l what to ne test t =
    let same : (kind_letter (kind_moved p n) == kind_letter (kind_moved p m)) ≡ true = eq-eqb (kind_letter (kind_moved p n)) (kind_letter (kind_moved p m)) (ap kind_letter what) in
    let there : (n.to == m.to) ≡ true = eq-eqb n.to m.to to in
    let apart : (n.from == m.from) ≡ false = ne_eqb n.from m.from ne in
    let rival : is_rival p m n ≡ true = rw (same, there, apart) refl in
    (Decides-rival p m test).1 (n.from, (n, l, rival, refl), t)

-- the man from this square has what is told of the origin
abbrev FromThere : Apart → ℕ → ℕ → Type 0
FromThere Nothing from other = Unit {0}
FromThere ByFile from other = file_of other ≡ file_of from
FromThere ByRank from other = rank_of other ≡ rank_of from
FromThere BySquare from other = (file_of other ≡ file_of from) × (rank_of other ≡ rank_of from)

from_told : (what : Kind) (apart : Apart) (from other to : ℕ) → IsNumberTold (file_told what (file_by apart from) to) (file_of other) → IsNumberTold (rank_by apart from) (rank_of other) → FromThere apart from other
from_told what Nothing from other to f r = tt
from_told what ByFile from other to f r = f
from_told what ByRank from other to f r = r
from_told what BySquare from other to f r = (f, r)

-- whoever has what tells the man apart is no rival
not_apart : (p : Parts) (m n : Move) → IsLegal p n → kind_moved p n ≡ kind_moved p m → n.to ≡ m.to → n.from ≢ m.from → FromThere (told_apart p m) m.from n.from → ⊥
unfolding told_apart
not_apart p m n l what to ne h =
    let all = rival_of p m n l what to ne anywhere refl in
    let g : FromThere (if not (has_rival p m (on_file_of m.from)) then ByFile else (if not (has_rival p m (on_rank_of m.from)) then ByRank else BySquare)) m.from n.from = rw all at h in
    elim (cases_Bool (has_rival p m (on_file_of m.from))) [
      | inl file ↦ elim (cases_Bool (has_rival p m (on_rank_of m.from))) [
        | inl rank ↦ let both : (file_of n.from ≡ file_of m.from) × (rank_of n.from ≡ rank_of m.from) = rw (file, rank) at g in ne (one_square n.from m.from both.0 both.1)
        | inr rank ↦
            let same : rank_of n.from ≡ rank_of m.from = rw (file, rank) at g in
            let t = sym rank ∙ rival_of p m n l what to ne (on_rank_of m.from) (eq-eqb (rank_of n.from) (rank_of m.from) same) in cc
      ]
      | inr file ↦
          let same : file_of n.from ≡ file_of m.from = rw file at g in
          let t = sym file ∙ rival_of p m n l what to ne (on_file_of m.from) (eq-eqb (file_of n.from) (file_of m.from) same) in cc
    ]

-- a man other than a pawn
piece_from : (p : Parts) (m n : Move) → IsLegal p n → kind_moved p n ≡ kind_moved p m → n.to ≡ m.to → FromThere (told_apart p m) m.from n.from → n.from ≡ m.from
piece_from p m n l what to h = elim (cases_eq n.from m.from) [
  | inl e ↦ e
  | inr ne ↦ absurd (not_apart p m n l what to ne h)
]

pawn_from_file : (p : Parts) (m n : Move) (takes : Bool) → IsLegal p m → IsLegal p n → is_capture p m ≡ takes → Stands p.men m.from p.side Pawn → Stands p.men n.from p.side Pawn → n.to ≡ m.to
    → IsNumberTold (file_told Pawn (file_by (pawn_apart takes) m.from) m.to) (file_of n.from) → n.from ≡ m.from
pawn_from_file p m n true l k c a b to f = one_pawn p n m k l b a to f
pawn_from_file p m n false l k c a b to f = one_pawn p n m k l b a to (f ∙ sym (pawn_stays p m l a c))

from_kind : (p : Parts) (m n : Move) (what : Kind) → kind_moved p m ≡ what → IsLegal p m → IsLegal p n → Stands p.men m.from p.side what → Stands p.men n.from p.side what → n.to ≡ m.to
    → IsNumberTold (file_told what (file_by (origin_told what p m) m.from) m.to) (file_of n.from) → IsNumberTold (rank_by (origin_told what p m) m.from) (rank_of n.from) → n.from ≡ m.from
from_kind p m n Pawn e l k a b to f r = pawn_from_file p m n (is_capture p m) l k refl a b to f
from_kind p m n Knight e l k a b to f r = piece_from p m n k (ap kind_there b ∙ sym e) to (from_told Knight (told_apart p m) m.from n.from m.to f r)
from_kind p m n Bishop e l k a b to f r = piece_from p m n k (ap kind_there b ∙ sym e) to (from_told Bishop (told_apart p m) m.from n.from m.to f r)
from_kind p m n Rook e l k a b to f r = piece_from p m n k (ap kind_there b ∙ sym e) to (from_told Rook (told_apart p m) m.from n.from m.to f r)
from_kind p m n Queen e l k a b to f r = piece_from p m n k (ap kind_there b ∙ sym e) to (from_told Queen (told_apart p m) m.from n.from m.to f r)
from_kind p m n King e l k a b to f r = piece_from p m n k (ap kind_there b ∙ sym e) to (from_told King (told_apart p m) m.from n.from m.to f r)

same_move : (m n : Move) → n.from ≡ m.from → n.to ≡ m.to → n.promotion ≡ m.promotion → n ≡ m
same_move m n f t o = rw (← f, ← t, ← o) refl

pub man_only : (p : Parts) (m n : Move) → IsLegal p m → IsLegal p n → AgreesMan p (man_told p m) n → n ≡ m
man_only p m n l k h =
    same_move m n (from_kind p m n (kind_moved p m) refl l k (moved p m l) h.stands h.square h.file h.rank) h.square h.promotion

-- ---- reading back

read_back_by : (p : Parts) (m : Move) (o : Option Wing) → castling p m ≡ o → IsLegal p m → ReadsSan p (told_text (castling_or_man o (man_told p m)) ++ mark_after (position_after p m)) m
read_back_by p m (Some wing) e l = record {
  told = Castles wing;
  spells = record { castling = castles_text wing; marks = mark_after (position_after p m); castles = own_castling wing; are_marks = own_mark (position_after p m); text = refl };
  meant = (l, e);
  only = λ n h. castles_by p n wing h.0 h.1 ∙ sym (castles_by p m wing l e);
}
read_back_by p m None e l = record {
  told = Goes (man_told p m);
  spells = man_spelled (man_told p m) (mark_after (position_after p m)) refl (file_small (origin_told (kind_moved p m) p m) m.from l.1.from_board) (rank_small (origin_told (kind_moved p m) p m) m.from l.1.from_board) l.1.to_board (own_mark (position_after p m));
  meant = (l, man_agrees p m l e);
  only = λ n h. man_only p m n l h.0 h.1;
}

pub read_back : (p : Parts) (m : Move) → IsLegal p m → ReadsSan p (san_of p m) m
unfolding san_of san_told
read_back p m l = read_back_by p m (castling p m) refl l

-- a text is read as one move
pub one_reading : (p : Parts) (t : List ℕ) (m n : Move) → ReadsSan p t m → ReadsSan p t n → m ≡ n
one_reading p t m n h k =
    let same : k.told ≡ h.told = let e = sym (spelled_read t k.told k.spells) ∙ spelled_read t h.told h.spells in cc in
    sym (h.only n (subst (λ told. IsMeant p told n) same k.meant))
