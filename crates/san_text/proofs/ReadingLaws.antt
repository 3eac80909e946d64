-- What a text spells is read from it.
use Rattle.std.proofs.Common.{◌≡◌, ℕ, ◌+◌, ◌-◌, ◌*◌, ◌<◌, Bool, true, false, not, List, [], ◌∷◌, ◌++◌, Option, Some, None, is_some, refl, sym, ap, ◌∙◌, arith, append_assoc, inl, inr}
use Rattle.std.specs.Prelude.{◌==◌, ◌&&◌, if◌then◌else◌}
use Rattle.std.specs.List.{list_all}
use Rattle.std.proofs.lemmas.Bool.{and_parts, not-true}
use Rattle.board_core.specs.declared.piece.Kind.{Kind}
use Rattle.board_core.specs.declared.piece.Kind.TheVariants.{Pawn, Knight, Bishop, Rook, Queen, King}
use Rattle.board_core.specs.declared.piece.Promotion.{Promotion}
use Rattle.board_core.specs.declared.piece.Promotion.TheVariants.{Queen as ToQueen, Rook as ToRook, Bishop as ToBishop, Knight as ToKnight}
use Rattle.board_core.specs.declared.piece.Wing.{Wing}
use Rattle.board_core.specs.declared.piece.Wing.TheVariants.{KingSide, QueenSide}
use Rattle.board_core.specs.Square.{file_of, rank_of}
use Rattle.san_text.specs.declared.told.ManTold.{ManTold}
use Rattle.san_text.specs.declared.told.Told.{Told}
use Rattle.san_text.specs.declared.told.Told.TheVariants.{Castles, Goes}
use Rattle.san_text.specs.Told.{kind_texts, file_letter, rank_digit, square_text, IsAmongTexts, castles_texts, promoted_texts, between_texts, passing_text, check_texts, glyph_texts, AreMarks, IsBelowEight, SpellsMan, SpellsTold}
use Rattle.san_text.specs.Inside.Scan.{is_file, is_rank, past_between, square_in_front, promotion_by, promotion_in_front, past_promotion, passes_in_front, past_passing, are_marks, is_short, is_longer, with_tail, man_at_square, after_kind, told_by_text}
use Rattle.san_text.proofs.Bytes.{IsInner, IsFileByte, IsRankByte, file_byte, rank_byte}

-- ---- marks

-- what passes for each of some texts passes for one of them
each_passes : (test : List ℕ → Bool) (xs : List (List ℕ)) → list_all test xs ≡ true → (t : List ℕ) → IsAmongTexts xs t → test t ≡ true
each_passes test [] e t h = absurd h
each_passes test (x ∷ xs) e t (inl same) = rw same (and_parts (test x) (list_all test xs) e).0
each_passes test (x ∷ xs) e t (inr later) = each_passes test xs (and_parts (test x) (list_all test xs) e).1 t later

-- the text begins with nothing that tells something
abbrev tells_nothing : List ℕ → Bool
tells_nothing [] = true
tells_nothing (c ∷ cs) =
    not (c == 61) && not (is_some (promotion_by c)) && not (c == 101) && not (c == 120) && not (c == 45) && not (is_file c) && not (is_rank c)

abbrev is_end : List ℕ → Bool
is_end t = are_marks t && tells_nothing t

marks_end : (t : List ℕ) → AreMarks t → is_end t ≡ true
marks_end t h =
    let for_check = each_passes (λ check. list_all (λ glyph. is_end (check ++ glyph)) glyph_texts) check_texts refl h.check h.is_check in
    rw h.text (each_passes (λ glyph. is_end (h.check ++ glyph)) glyph_texts for_check h.glyph h.is_glyph)

-- what follows from it, as equations
pub record Ends (t : List ℕ) : Type 0 where
  pub marks : are_marks t ≡ true
  pub promotion : promotion_in_front t ≡ None
  pub past : past_promotion t ≡ t
  pub passes : passes_in_front t ≡ false
  pub past_passes : past_passing t ≡ t
  pub longer : (sign : ℕ) → is_longer sign t ≡ false
  pub between : (whole : Bool) → past_between whole t ≡ t
  pub square : square_in_front t ≡ None

pub record First (c : ℕ) : Type 0 where
  pub no_equals : (c == 61) ≡ false
  pub no_promotion : promotion_by c ≡ None
  pub no_e : (c == 101) ≡ false
  pub no_x : (c == 120) ≡ false
  pub no_dash : (c == 45) ≡ false
  pub no_file : is_file c ≡ false
  pub no_rank : is_rank c ≡ false

none_of : {X : Type 0} (o : Option X) → not (is_some o) ≡ true → o ≡ None
none_of None e = refl
none_of (Some x) e = absurd (let f = e in cc)

first_of_end : (c : ℕ) (cs : List ℕ) → tells_nothing (c ∷ cs) ≡ true → First c
first_of_end c cs e =
    let a = and_parts _ (not (is_rank c)) e in
    let b = and_parts _ (not (is_file c)) a.0 in
    let d = and_parts _ (not (c == 45)) b.0 in
    let f = and_parts _ (not (c == 120)) d.0 in
    let g = and_parts _ (not (c == 101)) f.0 in
    let h = and_parts (not (c == 61)) (not (is_some (promotion_by c))) g.0 in
    record {
      no_equals = not-true (c == 61) h.0;
      no_promotion = none_of (promotion_by c) h.1;
      no_e = not-true (c == 101) g.1;
      no_x = not-true (c == 120) f.1;
      no_dash = not-true (c == 45) d.1;
      no_file = not-true (is_file c) b.1;
      no_rank = not-true (is_rank c) a.1;
    }

dash_if : (whole : Bool) → (whole && false) ≡ false
dash_if true = refl
dash_if false = refl

ends : (t : List ℕ) → are_marks t ≡ true → tells_nothing t ≡ true → Ends t
ends [] m e = record {
  marks = m;
  promotion = refl;
  past = refl;
  passes = refl;
  past_passes = refl;
  longer = λ sign. refl;
  between = λ whole. refl;
  square = refl;
}
ends (c ∷ []) m e = let f = first_of_end c [] e in record {
  marks = m;
  promotion = f.no_promotion;
  past = rw f.no_promotion refl;
  passes = refl;
  past_passes = refl;
  longer = λ sign. refl;
  between = λ whole. rw (f.no_x, f.no_dash, dash_if whole) refl;
  square = refl;
}
ends (c ∷ d ∷ []) m e = let f = first_of_end c (d ∷ []) e in record {
  marks = m;
  promotion = rw (f.no_equals) f.no_promotion;
  past = rw (f.no_equals, f.no_promotion) refl;
  passes = refl;
  past_passes = refl;
  longer = λ sign. rw f.no_dash refl;
  between = λ whole. rw (f.no_x, f.no_dash, dash_if whole) refl;
  square = rw f.no_file refl;
}
ends (c ∷ d ∷ g ∷ []) m e = let f = first_of_end c (d ∷ g ∷ []) e in record {
  marks = m;
  promotion = rw (f.no_equals) f.no_promotion;
  past = rw (f.no_equals, f.no_promotion) refl;
  passes = refl;
  past_passes = refl;
  longer = λ sign. rw f.no_dash refl;
  between = λ whole. rw (f.no_x, f.no_dash, dash_if whole) refl;
  square = rw f.no_file refl;
}
ends (c ∷ d ∷ g ∷ h ∷ t) m e = let f = first_of_end c (d ∷ g ∷ h ∷ t) e in record {
  marks = m;
  promotion = rw (f.no_equals) f.no_promotion;
  past = rw (f.no_equals, f.no_promotion) refl;
  passes = rw f.no_e refl;
  past_passes = rw f.no_e refl;
  longer = λ sign. rw f.no_dash refl;
  between = λ whole. rw (f.no_x, f.no_dash, dash_if whole) refl;
  square = rw f.no_file refl;
}

pub marks_ends : (t : List ℕ) → AreMarks t → Ends t
marks_ends t h = let e = and_parts (are_marks t) (tells_nothing t) (marks_end t h) in ends t e.0 e.1

-- ---- e.p. and the marks behind it

-- how such a text is read: no promotion stands at its front, and no square
pub record Passing (t : List ℕ) (passes : Bool) : Type 0 where
  pub promotion : promotion_in_front t ≡ None
  pub past : past_promotion t ≡ t
  pub told : passes_in_front t ≡ passes
  pub marks : are_marks (past_passing t) ≡ true
  pub between : (whole : Bool) → past_between whole t ≡ t
  pub square : square_in_front t ≡ None
  -- nor does it go on with a rank
  pub after_file : (c : ℕ) → square_in_front (c ∷ t) ≡ None

after_file_end : (t : List ℕ) → tells_nothing t ≡ true → (c : ℕ) → square_in_front (c ∷ t) ≡ None
after_file_end [] e c = refl
after_file_end (d ∷ t) e c = let f = first_of_end d t e in rw (f.no_rank) (cond_none (is_file c))
  where
    cond_none : (b : Bool) → (if b && false then Some (8 * (d - 49) + (c - 97)) else None) ≡ None
    cond_none true = refl
    cond_none false = refl

passing : (passes : Bool) (marks : List ℕ) → AreMarks marks → Passing (passing_text passes ++ marks) passes
passing false marks h =
    let e = marks_ends marks h in
    let n = and_parts (are_marks marks) (tells_nothing marks) (marks_end marks h) in
    record {
      promotion = e.promotion;
      past = e.past;
      told = e.passes;
      marks = rw e.past_passes e.marks;
      between = e.between;
      square = e.square;
      after_file = after_file_end marks n.1;
    }
passing true marks h = record {
  promotion = refl;
  past = refl;
  told = refl;
  marks = (marks_ends marks h).marks;
  between = λ whole. rw (dash_if whole) refl;
  square = refl;
  after_file = λ c. by_file (is_file c) (8 * (101 - 49) + (c - 97));
}
  where
    by_file : (b : Bool) (n : ℕ) → (if b && false then Some n else None) ≡ None
    by_file true n = refl
    by_file false n = refl

-- ---- the promotion before it

pub record Tail (t : List ℕ) (promotion : Option Promotion) (passes : Bool) : Type 0 where
  pub promotes : promotion_in_front t ≡ promotion
  pub told : passes_in_front (past_promotion t) ≡ passes
  pub marks : are_marks (past_passing (past_promotion t)) ≡ true
  pub between : past_between true t ≡ t
  pub square : square_in_front t ≡ None

tail_none : (t : List ℕ) (passes : Bool) → Passing t passes → Tail t None passes
tail_none t passes h = record {
  promotes = h.promotion;
  told = rw h.past h.told;
  marks = rw h.past h.marks;
  between = h.between true;
  square = h.square;
}

-- a letter alone, and one behind a sign of equality
tail_letter : (c : ℕ) (what : Promotion) (t : List ℕ) (passes : Bool) → promotion_by c ≡ Some what → (c == 61) ≡ false → (c == 120) ≡ false → (c == 45) ≡ false → Passing t passes → Tail (c ∷ t) (Some what) passes
tail_letter c what [] passes k equals x dash h = record {
  promotes = k;
  told = rw k h.told;
  marks = rw k h.marks;
  between = rw (x, dash) refl;
  square = refl;
}
tail_letter c what (d ∷ t) passes k equals x dash h = record {
  promotes = rw equals k;
  told = rw (equals, k) h.told;
  marks = rw (equals, k) h.marks;
  between = rw (x, dash) refl;
  square = h.after_file c;
}

tail_equals : (c : ℕ) (what : Promotion) (t : List ℕ) (passes : Bool) → promotion_by c ≡ Some what → Passing t passes → Tail (61 ∷ c ∷ t) (Some what) passes
tail_equals c what t passes k h = record {
  promotes = rw k k;
  told = rw (k, k) h.told;
  marks = rw (k, k) h.marks;
  between = refl;
  square = refl;
}

tail_of : (what : Option Promotion) (promotion t : List ℕ) (passes : Bool) → IsAmongTexts (promoted_texts what) promotion → Passing t passes → Tail (promotion ++ t) what passes
tail_of None promotion t passes (inl e) h = rw e (tail_none t passes h)
tail_of None promotion t passes (inr e) h = absurd e
tail_of (Some ToQueen) promotion t passes (inl e) h = rw e (tail_equals 81 ToQueen t passes refl h)
tail_of (Some ToQueen) promotion t passes (inr (inl e)) h = rw e (tail_letter 81 ToQueen t passes refl refl refl refl h)
tail_of (Some ToQueen) promotion t passes (inr (inr (inl e))) h = rw e (tail_equals 113 ToQueen t passes refl h)
tail_of (Some ToQueen) promotion t passes (inr (inr (inr (inl e)))) h = rw e (tail_letter 113 ToQueen t passes refl refl refl refl h)
tail_of (Some ToQueen) promotion t passes (inr (inr (inr (inr e)))) h = absurd e
tail_of (Some ToRook) promotion t passes (inl e) h = rw e (tail_equals 82 ToRook t passes refl h)
tail_of (Some ToRook) promotion t passes (inr (inl e)) h = rw e (tail_letter 82 ToRook t passes refl refl refl refl h)
tail_of (Some ToRook) promotion t passes (inr (inr (inl e))) h = rw e (tail_equals 114 ToRook t passes refl h)
tail_of (Some ToRook) promotion t passes (inr (inr (inr (inl e)))) h = rw e (tail_letter 114 ToRook t passes refl refl refl refl h)
tail_of (Some ToRook) promotion t passes (inr (inr (inr (inr e)))) h = absurd e
tail_of (Some ToBishop) promotion t passes (inl e) h = rw e (tail_equals 66 ToBishop t passes refl h)
tail_of (Some ToBishop) promotion t passes (inr (inl e)) h = rw e (tail_letter 66 ToBishop t passes refl refl refl refl h)
tail_of (Some ToBishop) promotion t passes (inr (inr (inl e))) h = rw e (tail_equals 98 ToBishop t passes refl h)
tail_of (Some ToBishop) promotion t passes (inr (inr (inr (inl e)))) h = rw e (tail_letter 98 ToBishop t passes refl refl refl refl h)
tail_of (Some ToBishop) promotion t passes (inr (inr (inr (inr e)))) h = absurd e
tail_of (Some ToKnight) promotion t passes (inl e) h = rw e (tail_equals 78 ToKnight t passes refl h)
tail_of (Some ToKnight) promotion t passes (inr (inl e)) h = rw e (tail_letter 78 ToKnight t passes refl refl refl refl h)
tail_of (Some ToKnight) promotion t passes (inr (inr (inl e))) h = rw e (tail_equals 110 ToKnight t passes refl h)
tail_of (Some ToKnight) promotion t passes (inr (inr (inr (inl e)))) h = rw e (tail_letter 110 ToKnight t passes refl refl refl refl h)
tail_of (Some ToKnight) promotion t passes (inr (inr (inr (inr e)))) h = absurd e

tail_read : (what : Kind) (file rank : Option ℕ) (takes passes : Bool) (to : ℕ) (promotion : Option Promotion) (t : List ℕ) → Tail t promotion passes
    → with_tail (man_at_square what file rank takes to) t ≡ Some (Goes (record { kind = what; file = file; rank = rank; takes = takes; to = to; promotion = promotion; en_passant = passes }))
tail_read what file rank takes passes to promotion t h = rw (h.marks, h.promotes, h.told) refl

-- ---- the square and what stands before it

-- the square of a file and a rank
square_sum : (to c d : ℕ) → c - 97 ≡ file_of to → d - 49 ≡ rank_of to → 8 * (d - 49) + (c - 97) ≡ to
square_sum to c d f r = omega (arith, f, r)

square_read : (to c d : ℕ) (t : List ℕ) → IsFileByte c (file_of to) → IsRankByte d (rank_of to) → square_in_front (c ∷ d ∷ t) ≡ Some to
square_read to c d t f r = rw (f.file, r.rank) (ap (λ (n : ℕ). Some n) (square_sum to c d f.number r.number))

-- the file and the rank of the square are read first where nothing is told of the origin
alone_read : (what : Kind) (to c d : ℕ) (t : List ℕ) → IsFileByte c (file_of to) → IsRankByte d (rank_of to) → past_between true t ≡ t → square_in_front t ≡ None
    → after_kind what (c ∷ d ∷ t) ≡ with_tail (man_at_square what None None false to) t
alone_read what to c d t f r between square =
    rw (f.file, r.rank, between, square) (ap (λ n. with_tail (man_at_square what None None false n) t) (square_sum to c d f.number r.number))

takes_read : (what : Kind) (to c d : ℕ) (t : List ℕ) → IsFileByte c (file_of to) → IsRankByte d (rank_of to)
    → after_kind what (120 ∷ c ∷ d ∷ t) ≡ with_tail (man_at_square what None None true to) t
takes_read what to c d t f r = rw (square_read to c d t f r) refl

rank_read : (what : Kind) (to c d g rank : ℕ) (t : List ℕ) → IsFileByte c (file_of to) → IsRankByte d (rank_of to) → IsRankByte g rank
    → after_kind what (g ∷ c ∷ d ∷ t) ≡ with_tail (man_at_square what None (Some rank) false to) t
rank_read what to c d g rank t f r o = rw (o.no_file, o.rank, f.no_x, square_read to c d t f r, o.number, f.no_x) refl

rank_takes_read : (what : Kind) (to c d g rank : ℕ) (t : List ℕ) → IsFileByte c (file_of to) → IsRankByte d (rank_of to) → IsRankByte g rank
    → after_kind what (g ∷ 120 ∷ c ∷ d ∷ t) ≡ with_tail (man_at_square what None (Some rank) true to) t
rank_takes_read what to c d g rank t f r o = rw (o.no_file, o.rank, square_read to c d t f r, o.number) refl

file_read : (what : Kind) (to c d g file : ℕ) (t : List ℕ) → IsFileByte c (file_of to) → IsRankByte d (rank_of to) → IsFileByte g file
    → after_kind what (g ∷ c ∷ d ∷ t) ≡ with_tail (man_at_square what (Some file) None false to) t
file_read what to c d g file t f r o = rw (o.file, f.no_rank, f.no_x, square_read to c d t f r, o.number, f.no_x) refl

file_takes_read : (what : Kind) (to c d g file : ℕ) (t : List ℕ) → IsFileByte c (file_of to) → IsRankByte d (rank_of to) → IsFileByte g file
    → after_kind what (g ∷ 120 ∷ c ∷ d ∷ t) ≡ with_tail (man_at_square what (Some file) None true to) t
file_takes_read what to c d g file t f r o = rw (o.file, square_read to c d t f r, o.number) refl

both_read : (what : Kind) (to c d g file h rank : ℕ) (t : List ℕ) → IsFileByte c (file_of to) → IsRankByte d (rank_of to) → IsFileByte g file → IsRankByte h rank
    → after_kind what (g ∷ h ∷ c ∷ d ∷ t) ≡ with_tail (man_at_square what (Some file) (Some rank) false to) t
both_read what to c d g file h rank t f r o w = rw (o.file, w.rank, f.no_x, f.no_dash, square_read to c d t f r, o.number, w.number, f.no_x) refl

both_dash_read : (what : Kind) (to c d g file h rank : ℕ) (t : List ℕ) → IsFileByte c (file_of to) → IsRankByte d (rank_of to) → IsFileByte g file → IsRankByte h rank
    → after_kind what (g ∷ h ∷ 45 ∷ c ∷ d ∷ t) ≡ with_tail (man_at_square what (Some file) (Some rank) false to) t
both_dash_read what to c d g file h rank t f r o w = rw (o.file, w.rank, square_read to c d t f r, o.number, w.number) refl

both_takes_read : (what : Kind) (to c d g file h rank : ℕ) (t : List ℕ) → IsFileByte c (file_of to) → IsRankByte d (rank_of to) → IsFileByte g file → IsRankByte h rank
    → after_kind what (g ∷ h ∷ 120 ∷ c ∷ d ∷ t) ≡ with_tail (man_at_square what (Some file) (Some rank) true to) t
both_takes_read what to c d g file h rank t f r o w = rw (o.file, w.rank, square_read to c d t f r, o.number, w.number) refl

-- the text behind the letter of the man: it has two bytes at least, and begins with none of the letters
record Behind (what : Kind) (t : List ℕ) (told : Option Told) : Type 0 where
  pub first : ℕ
  pub second : ℕ
  pub others : List ℕ
  pub inner : IsInner first
  pub is : t ≡ first ∷ second ∷ others
  pub reads : after_kind what t ≡ told

not_short : (sign c d : ℕ) (t : List ℕ) → (c == sign) ≡ false → is_short sign (c ∷ d ∷ t) ≡ false
not_short sign c d [] e = refl
not_short sign c d (g ∷ t) e = rw e refl

kind_read : (what : Kind) (letter t : List ℕ) (told : Option Told) → IsAmongTexts (kind_texts what) letter → Behind what t told → told_by_text (letter ++ t) ≡ told
unfolding told_by_text
kind_read Pawn letter t told (inl e) h =
    rw e (ap told_by_text h.is
    ∙ rw (not_short 79 h.first h.second h.others h.inner.no_letter, not_short 48 h.first h.second h.others h.inner.no_zero, h.inner.no_kind) (ap (after_kind Pawn) (sym h.is) ∙ h.reads))
kind_read Pawn letter t told (inr (inl e)) h = rw e (ap (λ s. told_by_text (80 ∷ s)) h.is ∙ ap (after_kind Pawn) (sym h.is) ∙ h.reads)
kind_read Pawn letter t told (inr (inr e)) h = absurd e
kind_read Knight letter t told (inl e) h = rw e (ap (λ s. told_by_text (78 ∷ s)) h.is ∙ ap (after_kind Knight) (sym h.is) ∙ h.reads)
kind_read Knight letter t told (inr e) h = absurd e
kind_read Bishop letter t told (inl e) h = rw e (ap (λ s. told_by_text (66 ∷ s)) h.is ∙ ap (after_kind Bishop) (sym h.is) ∙ h.reads)
kind_read Bishop letter t told (inr e) h = absurd e
kind_read Rook letter t told (inl e) h = rw e (ap (λ s. told_by_text (82 ∷ s)) h.is ∙ ap (after_kind Rook) (sym h.is) ∙ h.reads)
kind_read Rook letter t told (inr e) h = absurd e
kind_read Queen letter t told (inl e) h = rw e (ap (λ s. told_by_text (81 ∷ s)) h.is ∙ ap (after_kind Queen) (sym h.is) ∙ h.reads)
kind_read Queen letter t told (inr e) h = absurd e
kind_read King letter t told (inl e) h = rw e (ap (λ s. told_by_text (75 ∷ s)) h.is ∙ ap (after_kind King) (sym h.is) ∙ h.reads)
kind_read King letter t told (inr e) h = absurd e

x_inner : IsInner 120
x_inner = record { no_kind = refl; no_letter = refl; no_zero = refl }

-- each form of what stands before the square
origin_read : (what : Kind) (file rank : Option ℕ) (takes : Bool) (between : List ℕ) (to : ℕ) (t : List ℕ)
    → IsBelowEight file → IsBelowEight rank → to < 64 → IsAmongTexts (between_texts file rank takes) between → past_between true t ≡ t → square_in_front t ≡ None
    → Behind what (file_letter file ++ (rank_digit rank ++ (between ++ (square_text to ++ t)))) (with_tail (man_at_square what file rank takes to) t)
origin_read what None None false between to t fb rb lt (inl e) whole square =
    let f = file_byte (file_of to) (omega arith) in
    let r = rank_byte (rank_of to) (omega arith) in
    rw e (record { first = 97 + file_of to; second = 49 + rank_of to; others = t; inner = f.inner; is = refl; reads = alone_read what to _ _ t f r whole square })
origin_read what None None false between to t fb rb lt (inr e) whole square = absurd e
origin_read what None None true between to t fb rb lt (inl e) whole square =
    let f = file_byte (file_of to) (omega arith) in
    let r = rank_byte (rank_of to) (omega arith) in
    rw e (record { first = 120; second = 97 + file_of to; others = (49 + rank_of to) ∷ t; inner = x_inner; is = refl; reads = takes_read what to _ _ t f r })
origin_read what None None true between to t fb rb lt (inr e) whole square = absurd e
origin_read what None (Some rank) false between to t fb rb lt (inl e) whole square =
    let f = file_byte (file_of to) (omega arith) in
    let r = rank_byte (rank_of to) (omega arith) in
    let o = rank_byte rank rb in
    rw e (record { first = 49 + rank; second = 97 + file_of to; others = (49 + rank_of to) ∷ t; inner = o.inner; is = refl; reads = rank_read what to _ _ _ rank t f r o })
origin_read what None (Some rank) false between to t fb rb lt (inr e) whole square = absurd e
origin_read what None (Some rank) true between to t fb rb lt (inl e) whole square =
    let f = file_byte (file_of to) (omega arith) in
    let r = rank_byte (rank_of to) (omega arith) in
    let o = rank_byte rank rb in
    rw e (record { first = 49 + rank; second = 120; others = (97 + file_of to) ∷ (49 + rank_of to) ∷ t; inner = o.inner; is = refl; reads = rank_takes_read what to _ _ _ rank t f r o })
origin_read what None (Some rank) true between to t fb rb lt (inr e) whole square = absurd e
origin_read what (Some file) None false between to t fb rb lt (inl e) whole square =
    let f = file_byte (file_of to) (omega arith) in
    let r = rank_byte (rank_of to) (omega arith) in
    let o = file_byte file fb in
    rw e (record { first = 97 + file; second = 97 + file_of to; others = (49 + rank_of to) ∷ t; inner = o.inner; is = refl; reads = file_read what to _ _ _ file t f r o })
origin_read what (Some file) None false between to t fb rb lt (inr e) whole square = absurd e
origin_read what (Some file) None true between to t fb rb lt (inl e) whole square =
    let f = file_byte (file_of to) (omega arith) in
    let r = rank_byte (rank_of to) (omega arith) in
    let o = file_byte file fb in
    rw e (record { first = 97 + file; second = 120; others = (97 + file_of to) ∷ (49 + rank_of to) ∷ t; inner = o.inner; is = refl; reads = file_takes_read what to _ _ _ file t f r o })
origin_read what (Some file) None true between to t fb rb lt (inr e) whole square = absurd e
origin_read what (Some file) (Some rank) false between to t fb rb lt (inl e) whole square =
    let f = file_byte (file_of to) (omega arith) in
    let r = rank_byte (rank_of to) (omega arith) in
    let o = file_byte file fb in
    let w = rank_byte rank rb in
    rw e (record { first = 97 + file; second = 49 + rank; others = (97 + file_of to) ∷ (49 + rank_of to) ∷ t; inner = o.inner; is = refl; reads = both_read what to _ _ _ file _ rank t f r o w })
origin_read what (Some file) (Some rank) false between to t fb rb lt (inr (inl e)) whole square =
    let f = file_byte (file_of to) (omega arith) in
    let r = rank_byte (rank_of to) (omega arith) in
    let o = file_byte file fb in
    let w = rank_byte rank rb in
    rw e (record { first = 97 + file; second = 49 + rank; others = 45 ∷ (97 + file_of to) ∷ (49 + rank_of to) ∷ t; inner = o.inner; is = refl; reads = both_dash_read what to _ _ _ file _ rank t f r o w })
origin_read what (Some file) (Some rank) false between to t fb rb lt (inr (inr e)) whole square = absurd e
origin_read what (Some file) (Some rank) true between to t fb rb lt (inl e) whole square =
    let f = file_byte (file_of to) (omega arith) in
    let r = rank_byte (rank_of to) (omega arith) in
    let o = file_byte file fb in
    let w = rank_byte rank rb in
    rw e (record { first = 97 + file; second = 49 + rank; others = 120 ∷ (97 + file_of to) ∷ (49 + rank_of to) ∷ t; inner = o.inner; is = refl; reads = both_takes_read what to _ _ _ file _ rank t f r o w })
origin_read what (Some file) (Some rank) true between to t fb rb lt (inr e) whole square = absurd e

regroup : (a b c d e f g h : List ℕ) → a ++ b ++ c ++ d ++ e ++ f ++ g ++ h ≡ a ++ (b ++ (c ++ (d ++ (e ++ (f ++ (g ++ h))))))
regroup a b c d e f g h = simp append_assoc

pub man_read : (t : List ℕ) (man : ManTold) → SpellsMan t man → told_by_text t ≡ Some (Goes man)
man_read t man h =
    let tail = tail_of man.promotion h.promotion (passing_text man.en_passant ++ h.marks) man.en_passant h.promotes (passing man.en_passant h.marks h.are_marks) in
    let origin = origin_read man.kind man.file man.rank man.takes h.between man.to (h.promotion ++ (passing_text man.en_passant ++ h.marks)) h.file h.rank h.square h.is_between tail.between tail.square in
    ap told_by_text (h.text ∙ regroup h.letter (file_letter man.file) (rank_digit man.rank) h.between (square_text man.to) h.promotion (passing_text man.en_passant) h.marks)
    ∙ kind_read man.kind h.letter _ _ h.is_letter origin
    ∙ tail_read man.kind man.file man.rank man.takes man.en_passant man.to man.promotion _ tail

-- ---- castling

castling_read : (wing : Wing) (castling t : List ℕ) → IsAmongTexts (castles_texts wing) castling → Ends t → told_by_text (castling ++ t) ≡ Some (Castles wing)
unfolding told_by_text
castling_read KingSide castling t (inl e) h = rw (e, h.longer 79, h.marks) refl
castling_read KingSide castling t (inr (inl e)) h = rw (e, h.longer 48, h.marks) refl
castling_read KingSide castling t (inr (inr e)) h = absurd e
castling_read QueenSide castling t (inl e) h = rw (e, h.marks) refl
castling_read QueenSide castling t (inr (inl e)) h = rw (e, h.marks) refl
castling_read QueenSide castling t (inr (inr e)) h = absurd e

-- what a text spells is read
pub spelled_read : (t : List ℕ) (told : Told) → SpellsTold t told → told_by_text t ≡ Some told
spelled_read t (Castles wing) h = ap told_by_text h.text ∙ castling_read wing h.castling h.marks h.castles (marks_ends h.marks h.are_marks)
spelled_read t (Goes man) h = man_read t man h
