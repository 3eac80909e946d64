-- What is read from a text is spelled by it.
use Rattle.std.proofs.Common.{◌≡◌, ℕ, ◌+◌, ◌-◌, ◌*◌, ◌<◌, Bool, true, false, List, [], ◌∷◌, ◌++◌, Option, Some, None, is_some, refl, sym, ap, ap₂, subst, ◌∙◌, arith, append_assoc, inl, inr}
use Rattle.std.specs.Prelude.{◌==◌, ◌&&◌, ◌||◌, ◌⊎◌, if◌then◌else◌}
use Rattle.std.proofs.lemmas.Bool.{and_parts, or_cases, cases_Bool, eqb-true}
use Rattle.board_core.specs.declared.piece.Kind.{Kind}
use Rattle.board_core.specs.declared.piece.Kind.TheVariants.{Pawn, Knight, Bishop, Rook, Queen, King}
use Rattle.board_core.specs.declared.piece.Promotion.{Promotion}
use Rattle.board_core.specs.declared.piece.Promotion.TheVariants.{Queen as ToQueen, Rook as ToRook, Bishop as ToBishop, Knight as ToKnight}
use Rattle.board_core.specs.declared.piece.Wing.{Wing}
use Rattle.board_core.specs.declared.piece.Wing.TheVariants.{KingSide, QueenSide}
use Rattle.board_core.specs.Square.{file_of, rank_of}
use Rattle.san_text.specs.declared.told.Told.{Told}
use Rattle.san_text.specs.declared.told.Told.TheVariants.{Castles}
use Rattle.san_text.specs.Told.{kind_texts, file_letter, rank_digit, square_text, IsAmongTexts, castles_texts, promoted_texts, between_texts, passing_text, check_texts, glyph_texts, AreMarks, IsBelowEight, SpellsTold}
use Rattle.san_text.specs.Inside.Scan.{is_file, is_rank, kind_by, kind_in_front, past_kind, file_in_front, past_file, rank_in_front, past_rank, takes_in_front, past_between, square_in_front, past_two, promotion_by, past_promotion_letter, promotion_in_front, past_promotion, passes_in_front, past_passing, past_plus, past_check, is_glyph, are_glyphs, are_marks, is_short, past_three, is_longer, castles_before, castling_by, with_tail, whole_square, man_at_square, square_alone, after_between, after_origin, after_kind, told_by_text}
use Rattle.san_text.proofs.Bytes.{file_bounds, rank_bounds}

-- a chosen value, or one of the others
pick : {X : Type 0} (b : Bool) (x y : X) (others : Option X) (G : Type 0) → (b ≡ true → x ≡ y → G) → (others ≡ Some y → G) → (if b then Some x else others) ≡ Some y → G
pick true x y others G chosen left e = chosen refl (let f = e in cc)
pick false x y others G chosen left e = left e

-- a text begins with a piece of this form
pub record Split (t : List ℕ) (Form : List ℕ → Type 0) (rest : List ℕ) : Type 0 where
  pub piece : List ℕ
  pub form : Form piece
  pub text : t ≡ piece ++ rest

-- ---- the letter of the man

letter_form : (c : ℕ) (what : Kind) → kind_by c ≡ Some what → IsAmongTexts (kind_texts what) (c ∷ [])
letter_form c what e =
    pick (c == 78) Knight what _ _ (same Knight 78 (inl refl)) (
    pick (c == 66) Bishop what _ _ (same Bishop 66 (inl refl)) (
    pick (c == 82) Rook what _ _ (same Rook 82 (inl refl)) (
    pick (c == 81) Queen what _ _ (same Queen 81 (inl refl)) (
    pick (c == 75) King what _ _ (same King 75 (inl refl)) (
    pick (c == 80) Pawn what None _ (same Pawn 80 (inr (inl refl))) (λ f. absurd (let g = f in cc))))))) e
  where
    same : (of : Kind) (letter : ℕ) → IsAmongTexts (kind_texts of) (letter ∷ []) → (c == letter) ≡ true → of ≡ what → IsAmongTexts (kind_texts what) (c ∷ [])
    same of letter form l k =
        subst (λ x. IsAmongTexts (kind_texts x) (c ∷ [])) k (subst (λ (n : ℕ). IsAmongTexts (kind_texts of) (n ∷ [])) (sym (eqb-true c letter l)) form)

kind_split : (t : List ℕ) → Split t (IsAmongTexts (kind_texts (kind_in_front t))) (past_kind t)
kind_split [] = record { piece = []; form = inl refl; text = refl }
kind_split (c ∷ cs) = by_kind (kind_by c) refl
  where
    by_kind : (o : Option Kind) → kind_by c ≡ o → Split (c ∷ cs) (IsAmongTexts (kind_texts (kind_in_front (c ∷ cs)))) (past_kind (c ∷ cs))
    by_kind None e = rw e (record { piece = []; form = inl refl; text = refl })
    by_kind (Some what) e = rw e (record { piece = c ∷ []; form = letter_form c what e; text = refl })

-- ---- files, ranks and squares

pub record FileSplit (t : List ℕ) : Type 0 where
  pub text : t ≡ file_letter (file_in_front t) ++ past_file t
  pub below : IsBelowEight (file_in_front t)

file_split : (t : List ℕ) → FileSplit t
file_split [] = record { text = refl; below = tt }
file_split (c ∷ cs) = elim (cases_Bool (is_file c)) [
  | inl e ↦
      let b = file_bounds c e in
      let same : c ≡ 97 + (c - 97) = omega arith in
      let small : c - 97 < 8 = omega arith in
      record { text = rw e (ap (λ (n : ℕ). n ∷ cs) same); below = rw e small }
  | inr e ↦ record { text = rw e refl; below = rw e tt }
]

pub record RankSplit (t : List ℕ) : Type 0 where
  pub text : t ≡ rank_digit (rank_in_front t) ++ past_rank t
  pub below : IsBelowEight (rank_in_front t)

rank_split : (t : List ℕ) → RankSplit t
rank_split [] = record { text = refl; below = tt }
rank_split (c ∷ cs) = elim (cases_Bool (is_rank c)) [
  | inl e ↦
      let b = rank_bounds c e in
      let same : c ≡ 49 + (c - 49) = omega arith in
      let small : c - 49 < 8 = omega arith in
      record { text = rw e (ap (λ (n : ℕ). n ∷ cs) same); below = rw e small }
  | inr e ↦ record { text = rw e refl; below = rw e tt }
]

pub record SquareSplit (t : List ℕ) (s : ℕ) : Type 0 where
  pub text : t ≡ square_text s ++ past_two t
  pub below : s < 64

square_of_bytes : (c d s : ℕ) → is_file c ≡ true → is_rank d ≡ true → 8 * (d - 49) + (c - 97) ≡ s → (c ≡ 97 + file_of s) × (d ≡ 49 + rank_of s) × (s < 64)
square_of_bytes c d s f r e =
    let a = file_bounds c f in
    let b = rank_bounds d r in
    (omega (arith, a.0, a.1, b.0, b.1, e), omega (arith, a.0, a.1, b.0, b.1, e), omega (arith, a.0, a.1, b.0, b.1, e))

square_split : (t : List ℕ) (s : ℕ) → square_in_front t ≡ Some s → SquareSplit t s
square_split [] s e = absurd (let f = e in cc)
square_split (c ∷ []) s e = absurd (let f = e in cc)
square_split (c ∷ d ∷ cs) s e =
    pick (is_file c && is_rank d) (8 * (d - 49) + (c - 97)) s None (SquareSplit (c ∷ d ∷ cs) s)
    (λ t same.
    let both = and_parts (is_file c) (is_rank d) t in
    let q = square_of_bytes c d s both.0 both.1 same in
    record { text = ap₂ (λ (x y : ℕ). x ∷ y ∷ cs) q.0 q.1; below = q.2 })
    (λ f. absurd (let g = f in cc)) e

-- ---- the sign between

pub no_sign : (file rank : Option ℕ) → IsAmongTexts (between_texts file rank false) []
no_sign None rank = inl refl
no_sign (Some file) None = inl refl
no_sign (Some file) (Some rank) = inl refl

dash_sign : (file rank : Option ℕ) → whole_square file rank ≡ true → IsAmongTexts (between_texts file rank false) (45 ∷ [])
dash_sign None rank e = absurd (let f = e in cc)
dash_sign (Some file) None e = absurd (let f = e in cc)
dash_sign (Some file) (Some rank) e = inr (inl refl)

between_split : (file rank : Option ℕ) (t : List ℕ) → Split t (IsAmongTexts (between_texts file rank (takes_in_front t))) (past_between (whole_square file rank) t)
between_split file rank [] = record { piece = []; form = no_sign file rank; text = refl }
between_split file rank (c ∷ cs) = elim (cases_Bool (c == 120)) [
  | inl x ↦ record { piece = 120 ∷ []; form = rw x (inl refl); text = rw x (ap (λ (n : ℕ). n ∷ cs) (eqb-true c 120 x)) }
  | inr x ↦ elim (cases_Bool (whole_square file rank && (c == 45))) [
    | inl w ↦
        let both = and_parts (whole_square file rank) (c == 45) w in
        record { piece = 45 ∷ []; form = rw x (dash_sign file rank both.0); text = rw (x, w) (ap (λ (n : ℕ). n ∷ cs) (eqb-true c 45 both.1)) }
    | inr w ↦ record { piece = []; form = rw x (no_sign file rank); text = rw (x, w) refl }
  ]
]

-- ---- promotions

pub record Forms (c : ℕ) (what : Promotion) : Type 0 where
  pub alone : IsAmongTexts (promoted_texts (Some what)) (c ∷ [])
  pub behind : IsAmongTexts (promoted_texts (Some what)) (61 ∷ c ∷ [])

queen_forms : (c : ℕ) → ((c ≡ 81) ⊎ (c ≡ 113)) → Forms c ToQueen
queen_forms c (inl e) = rw e (record { alone = inr (inl refl); behind = inl refl })
queen_forms c (inr e) = rw e (record { alone = inr (inr (inr (inl refl))); behind = inr (inr (inl refl)) })

rook_forms : (c : ℕ) → ((c ≡ 82) ⊎ (c ≡ 114)) → Forms c ToRook
rook_forms c (inl e) = rw e (record { alone = inr (inl refl); behind = inl refl })
rook_forms c (inr e) = rw e (record { alone = inr (inr (inr (inl refl))); behind = inr (inr (inl refl)) })

bishop_forms : (c : ℕ) → ((c ≡ 66) ⊎ (c ≡ 98)) → Forms c ToBishop
bishop_forms c (inl e) = rw e (record { alone = inr (inl refl); behind = inl refl })
bishop_forms c (inr e) = rw e (record { alone = inr (inr (inr (inl refl))); behind = inr (inr (inl refl)) })

knight_forms : (c : ℕ) → ((c ≡ 78) ⊎ (c ≡ 110)) → Forms c ToKnight
knight_forms c (inl e) = rw e (record { alone = inr (inl refl); behind = inl refl })
knight_forms c (inr e) = rw e (record { alone = inr (inr (inr (inl refl))); behind = inr (inr (inl refl)) })

either : (c a b : ℕ) → ((c == a) || (c == b)) ≡ true → (c ≡ a) ⊎ (c ≡ b)
either c a b e = elim (or_cases (c == a) (c == b) e) [ inl x ↦ inl (eqb-true c a x) | inr y ↦ inr (eqb-true c b y) ]

promotion_forms : (c : ℕ) (what : Promotion) → promotion_by c ≡ Some what → Forms c what
promotion_forms c what e =
    pick ((c == 81) || (c == 113)) ToQueen what _ _ (λ t k. subst (Forms c) k (queen_forms c (either c 81 113 t))) (
    pick ((c == 82) || (c == 114)) ToRook what _ _ (λ t k. subst (Forms c) k (rook_forms c (either c 82 114 t))) (
    pick ((c == 66) || (c == 98)) ToBishop what _ _ (λ t k. subst (Forms c) k (bishop_forms c (either c 66 98 t))) (
    pick ((c == 78) || (c == 110)) ToKnight what None _ (λ t k. subst (Forms c) k (knight_forms c (either c 78 110 t))) (λ f. absurd (let g = f in cc))))) e

letter_split : (c : ℕ) (cs : List ℕ) → Split (c ∷ cs) (IsAmongTexts (promoted_texts (promotion_by c))) (past_promotion_letter (c ∷ cs))
letter_split c cs = by_letter (promotion_by c) refl
  where
    by_letter : (o : Option Promotion) → promotion_by c ≡ o → Split (c ∷ cs) (IsAmongTexts (promoted_texts (promotion_by c))) (past_promotion_letter (c ∷ cs))
    by_letter None e = rw e (record { piece = []; form = inl refl; text = refl })
    by_letter (Some what) e = rw e (record { piece = c ∷ []; form = (promotion_forms c what e).alone; text = refl })

promotion_split : (t : List ℕ) → Split t (IsAmongTexts (promoted_texts (promotion_in_front t))) (past_promotion t)
promotion_split [] = record { piece = []; form = inl refl; text = refl }
promotion_split (c ∷ []) = letter_split c []
promotion_split (c ∷ d ∷ cs) = elim (cases_Bool ((c == 61) && is_some (promotion_by d))) [
  | inl e ↦ let both = and_parts (c == 61) (is_some (promotion_by d)) e in rw e (by_letter (promotion_by d) refl (eqb-true c 61 both.0) both.1)
  | inr e ↦ rw e (letter_split c (d ∷ cs))
]
  where
    by_letter : (o : Option Promotion) → promotion_by d ≡ o → c ≡ 61 → is_some o ≡ true → Split (c ∷ d ∷ cs) (IsAmongTexts (promoted_texts (promotion_by d))) (past_promotion_letter (d ∷ cs))
    by_letter None e equals some = absurd (let f = some in cc)
    by_letter (Some what) e equals some = rw e (record { piece = 61 ∷ d ∷ []; form = (promotion_forms d what e).behind; text = ap (λ (n : ℕ). n ∷ d ∷ cs) equals })

-- ---- e.p. and the marks

passing_split : (t : List ℕ) → t ≡ passing_text (passes_in_front t) ++ past_passing t
passing_split [] = refl
passing_split (a ∷ []) = refl
passing_split (a ∷ b ∷ []) = refl
passing_split (a ∷ b ∷ c ∷ []) = refl
passing_split (a ∷ b ∷ c ∷ d ∷ cs) = elim (cases_Bool ((a == 101) && (b == 46) && (c == 112) && (d == 46))) [
  | inl e ↦
      let x = and_parts ((a == 101) && (b == 46) && (c == 112)) (d == 46) e in
      let y = and_parts ((a == 101) && (b == 46)) (c == 112) x.0 in
      let z = and_parts (a == 101) (b == 46) y.0 in
      rw e (ap₂ (λ (s t : List ℕ). s ++ (t ++ cs)) (ap₂ (λ (m n : ℕ). m ∷ n ∷ []) (eqb-true a 101 z.0) (eqb-true b 46 z.1)) (ap₂ (λ (m n : ℕ). m ∷ n ∷ []) (eqb-true c 112 y.1) (eqb-true d 46 x.1)))
  | inr e ↦ rw e refl
]

plus_split : (t : List ℕ) → Split (43 ∷ t) (IsAmongTexts check_texts) (past_plus t)
plus_split [] = record { piece = 43 ∷ []; form = inr (inl refl); text = refl }
plus_split (c ∷ cs) = elim (cases_Bool (c == 43)) [
  | inl e ↦ rw e (record { piece = 43 ∷ 43 ∷ []; form = inr (inr (inl refl)); text = ap (λ (n : ℕ). 43 ∷ n ∷ cs) (eqb-true c 43 e) })
  | inr e ↦ rw e (record { piece = 43 ∷ []; form = inr (inl refl); text = refl })
]

check_split : (t : List ℕ) → Split t (IsAmongTexts check_texts) (past_check t)
check_split [] = record { piece = []; form = inl refl; text = refl }
check_split (c ∷ cs) = elim (cases_Bool (c == 35)) [
  | inl e ↦ rw e (record { piece = 35 ∷ []; form = inr (inr (inr (inl refl))); text = ap (λ (n : ℕ). n ∷ cs) (eqb-true c 35 e) })
  | inr n ↦ elim (cases_Bool (c == 43)) [
    | inl e ↦ rw (n, e) (subst (λ k. Split (k ∷ cs) (IsAmongTexts check_texts) (past_plus cs)) (sym (eqb-true c 43 e)) (plus_split cs))
    | inr e ↦ rw (n, e) (record { piece = []; form = inl refl; text = refl })
  ]
]

glyph_form : (c : ℕ) → is_glyph c ≡ true → IsAmongTexts glyph_texts (c ∷ [])
glyph_form c e = elim (either c 33 63 e) [
  | inl x ↦ rw x (inr (inl refl))
  | inr y ↦ rw y (inr (inr (inl refl)))
]

glyphs_form : (t : List ℕ) → are_glyphs t ≡ true → IsAmongTexts glyph_texts t
glyphs_form [] e = inl refl
glyphs_form (c ∷ []) e = glyph_form c e
glyphs_form (c ∷ d ∷ []) e =
    let both = and_parts (is_glyph c) (is_glyph d) e in
    elim (either c 33 63 both.0) [
      | inl x ↦ elim (either d 33 63 both.1) [
        | inl y ↦ rw (x, y) (inr (inr (inr (inl refl))))
        | inr y ↦ rw (x, y) (inr (inr (inr (inr (inl refl)))))
      ]
      | inr x ↦ elim (either d 33 63 both.1) [
        | inl y ↦ rw (x, y) (inr (inr (inr (inr (inr (inl refl))))))
        | inr y ↦ rw (x, y) (inr (inr (inr (inr (inr (inr (inl refl)))))))
      ]
    ]
glyphs_form (c ∷ d ∷ g ∷ cs) e = absurd (let f = e in cc)

marks_spelled : (t : List ℕ) → are_marks t ≡ true → AreMarks t
marks_spelled t e =
    let s = check_split t in
    record { check = s.piece; glyph = past_check t; is_check = s.form; is_glyph = glyphs_form (past_check t) e; text = s.text }

-- ---- the move of a man

regroup : (a b c d e f g h : List ℕ) → a ++ (b ++ (c ++ (d ++ (e ++ (f ++ (g ++ h)))))) ≡ a ++ b ++ c ++ d ++ e ++ f ++ g ++ h
regroup a b c d e f g h = sym (simp append_assoc)

tail_spelled : (what : Kind) (letter : List ℕ) → IsAmongTexts (kind_texts what) letter → (file rank : Option ℕ) (takes : Bool) (to : ℕ) (between t : List ℕ) (told : Told)
    → IsBelowEight file → IsBelowEight rank → to < 64 → IsAmongTexts (between_texts file rank takes) between → with_tail (man_at_square what file rank takes to) t ≡ Some told
    → SpellsTold (letter ++ (file_letter file ++ (rank_digit rank ++ (between ++ (square_text to ++ t))))) told
tail_spelled what letter is file rank takes to between t told fb rb lt form e =
    pick (are_marks (past_passing (past_promotion t))) _ told None _
    (λ m same.
    let p = promotion_split t in
    let q = passing_split (past_promotion t) in
    let whole : t ≡ p.piece ++ (passing_text (passes_in_front (past_promotion t)) ++ past_passing (past_promotion t)) =
    p.text ∙ ap (λ (s : List ℕ). p.piece ++ s) q in
    subst (λ x. SpellsTold (letter ++ (file_letter file ++ (rank_digit rank ++ (between ++ (square_text to ++ t))))) x) same
    (record {
      file = fb;
      rank = rb;
      square = lt;
      letter = letter;
      between = between;
      promotion = p.piece;
      marks = past_passing (past_promotion t);
      is_letter = is;
      is_between = form;
      promotes = p.form;
      are_marks = marks_spelled (past_passing (past_promotion t)) m;
      text = ap (λ (s : List ℕ). letter ++ (file_letter file ++ (rank_digit rank ++ (between ++ (square_text to ++ s))))) whole
          ∙ regroup letter (file_letter file) (rank_digit rank) between (square_text to) p.piece (passing_text (passes_in_front (past_promotion t))) (past_passing (past_promotion t));
    }))
    (λ f. absurd (let g = f in cc)) e

square_of : (file rank : ℕ) → file < 8 → square_text (8 * rank + file) ≡ (97 + file) ∷ (49 + rank) ∷ []
square_of file rank lt =
    let f : file_of (8 * rank + file) ≡ file = omega arith in
    let r : rank_of (8 * rank + file) ≡ rank = omega arith in
    ap₂ (λ (x y : ℕ). (97 + x) ∷ (49 + y) ∷ []) f r

alone_spelled : (what : Kind) (letter : List ℕ) → IsAmongTexts (kind_texts what) letter → (file rank : Option ℕ) (t : List ℕ) (told : Told) → IsBelowEight file → IsBelowEight rank → square_alone what file rank t ≡ Some told
    → SpellsTold (letter ++ (file_letter file ++ (rank_digit rank ++ t))) told
alone_spelled what letter is None rank t told fb rb e = absurd (let f = e in cc)
alone_spelled what letter is (Some file) None t told fb rb e = absurd (let f = e in cc)
alone_spelled what letter is (Some file) (Some rank) t told fb rb e =
    subst (λ (s : List ℕ). SpellsTold (letter ++ (s ++ t)) told) (square_of file rank fb)
    (tail_spelled what letter is None None false (8 * rank + file) [] t told tt tt (omega arith) (inl refl) e)

between_spelled : (what : Kind) (letter : List ℕ) → IsAmongTexts (kind_texts what) letter → (file rank : Option ℕ) (t : List ℕ) (told : Told) → IsBelowEight file → IsBelowEight rank → after_origin what file rank t ≡ Some told
    → SpellsTold (letter ++ (file_letter file ++ (rank_digit rank ++ t))) told
between_spelled what letter is file rank t told fb rb e = by_square (square_in_front (past_between (whole_square file rank) t)) refl e
  where
    by_square : (o : Option ℕ) → square_in_front (past_between (whole_square file rank) t) ≡ o → after_between what file rank t o (past_between (whole_square file rank) t) ≡ Some told
        → SpellsTold (letter ++ (file_letter file ++ (rank_digit rank ++ t))) told
    by_square None at f = alone_spelled what letter is file rank t told fb rb f
    by_square (Some to) at f =
        let s = between_split file rank t in
        let q = square_split (past_between (whole_square file rank) t) to at in
        let whole : t ≡ s.piece ++ (square_text to ++ past_two (past_between (whole_square file rank) t)) = s.text ∙ ap (λ (r : List ℕ). s.piece ++ r) q.text in
        subst (λ (r : List ℕ). SpellsTold (letter ++ (file_letter file ++ (rank_digit rank ++ r))) told) (sym whole)
        (tail_spelled what letter is file rank (takes_in_front t) to s.piece (past_two (past_between (whole_square file rank) t)) told fb rb q.below s.form f)

kind_spelled : (what : Kind) (letter : List ℕ) → IsAmongTexts (kind_texts what) letter → (t : List ℕ) (told : Told) → after_kind what t ≡ Some told → SpellsTold (letter ++ t) told
kind_spelled what letter is t told e =
    let f = file_split t in
    let r = rank_split (past_file t) in
    let whole : t ≡ file_letter (file_in_front t) ++ (rank_digit (rank_in_front (past_file t)) ++ past_rank (past_file t)) = f.text ∙ ap (λ (s : List ℕ). file_letter (file_in_front t) ++ s) r.text in
    subst (λ (s : List ℕ). SpellsTold (letter ++ s) told) (sym whole)
    (between_spelled what letter is (file_in_front t) (rank_in_front (past_file t)) (past_rank (past_file t)) told f.below r.below e)

-- ---- castling

short_split : (sign : ℕ) (t : List ℕ) → is_short sign t ≡ true → t ≡ (sign ∷ 45 ∷ sign ∷ []) ++ past_three t
short_split sign [] e = absurd (let f = e in cc)
short_split sign (a ∷ []) e = absurd (let f = e in cc)
short_split sign (a ∷ b ∷ []) e = absurd (let f = e in cc)
short_split sign (a ∷ b ∷ c ∷ cs) e =
    let x = and_parts ((a == sign) && (b == 45)) (c == sign) e in
    let y = and_parts (a == sign) (b == 45) x.0 in
    ap₂ (λ (s t : List ℕ). s ++ (t ++ cs)) (ap₂ (λ (m n : ℕ). m ∷ n ∷ []) (eqb-true a sign y.0) (eqb-true b 45 y.1)) (ap (λ (n : ℕ). n ∷ []) (eqb-true c sign x.1))

longer_split : (sign : ℕ) (t : List ℕ) → is_longer sign t ≡ true → t ≡ (45 ∷ sign ∷ []) ++ past_two t
longer_split sign [] e = absurd (let f = e in cc)
longer_split sign (a ∷ []) e = absurd (let f = e in cc)
longer_split sign (a ∷ b ∷ cs) e =
    let x = and_parts (a == 45) (b == sign) e in
    ap₂ (λ (m n : ℕ). m ∷ n ∷ cs) (eqb-true a 45 x.0) (eqb-true b sign x.1)

castles_spelled : (wing : Wing) (castling t : List ℕ) (told : Told) → IsAmongTexts (castles_texts wing) castling → castles_before wing t ≡ Some told → SpellsTold (castling ++ t) told
castles_spelled wing castling t told form e =
    pick (are_marks t) (Castles wing) told None _
    (λ m same. subst (SpellsTold (castling ++ t)) same (record { castling = castling; marks = t; castles = form; are_marks = marks_spelled t m; text = refl }))
    (λ f. absurd (let g = f in cc)) e

castling_spelled : (sign : ℕ) (t : List ℕ) (told : Told) → IsAmongTexts (castles_texts KingSide) (sign ∷ 45 ∷ sign ∷ []) → IsAmongTexts (castles_texts QueenSide) (sign ∷ 45 ∷ sign ∷ 45 ∷ sign ∷ [])
    → is_short sign t ≡ true → castling_by sign t ≡ Some told → SpellsTold t told
castling_spelled sign t told king queen short e = elim (cases_Bool (is_longer sign (past_three t))) [
  | inl l ↦
      let whole : t ≡ (sign ∷ 45 ∷ sign ∷ 45 ∷ sign ∷ []) ++ past_two (past_three t) =
      short_split sign t short ∙ ap (λ (s : List ℕ). (sign ∷ 45 ∷ sign ∷ []) ++ s) (longer_split sign (past_three t) l) in
      subst (λ (s : List ℕ). SpellsTold s told) (sym whole) (castles_spelled QueenSide _ (past_two (past_three t)) told queen (rw l at e))
  | inr l ↦ subst (λ (s : List ℕ). SpellsTold s told) (sym (short_split sign t short)) (castles_spelled KingSide _ (past_three t) told king (rw l at e))
]

-- what is read is spelled
pub read_spelled : (t : List ℕ) (told : Told) → told_by_text t ≡ Some told → SpellsTold t told
unfolding told_by_text
read_spelled t told e = elim (cases_Bool (is_short 79 t)) [
  | inl s ↦ castling_spelled 79 t told (inl refl) (inl refl) s (rw s at e)
  | inr n ↦ elim (cases_Bool (is_short 48 t)) [
    | inl s ↦ castling_spelled 48 t told (inr (inl refl)) (inr (inl refl)) s (rw (n, s) at e)
    | inr m ↦ let k = kind_split t in subst (λ (s : List ℕ). SpellsTold s told) (sym k.text) (kind_spelled (kind_in_front t) k.piece k.form (past_kind t) told (rw (n, m) at e))
  ]
]
