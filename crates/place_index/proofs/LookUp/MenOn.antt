-- The men of a position, and that they make a placement, in either colours.
use Rattle.std.proofs.Common.{◌≡◌, ◌≢◌, ℕ, zero, suc, ◌+◌, ◌-◌, ◌/◌, ◌%◌, ◌<◌, ◌≤◌, ◌⊎◌, Bool, true, false, cond, ltb, IsTrue, Option, Some, None, List, [], ◌∷◌, ◌++◌, length, drop, get_or, slice_set, refl, sym, ap, ◌∙◌, subst, inl, inr, arith, length-append}
use Rattle.std.specs.Prelude.{count_by, slice_index_or, is_some, ◌||◌, nat_lt}
use Rattle.std.specs.Int.{bit_at}
use Rattle.std.specs.List.{list_all}
use Rattle.std.proofs.lemmas.Bool.{and_from, cases_lt, cases_eq, cases_Bool, eq-eqb, ne_eqb, lt-ltb, false≢true, or_left, or_right}
use Rattle.std.proofs.lemmas.List.{drop_more, drop_all, append_assoc, append-nil}
use Rattle.std.proofs.lemmas.List.Sums.{sum_by-cons}
use Rattle.std.proofs.lemmas.Nat.Bits.{bit_at-zero}
use Rattle.board_core.specs.declared.piece.Piece.{Piece}
use Rattle.board_core.specs.declared.piece.Side.{Side}
use Rattle.board_core.specs.declared.piece.Side.TheVariants.{White, Black}
use Rattle.board_core.specs.declared.piece.Kind.{Kind}
use Rattle.board_core.specs.declared.piece.Kind.TheVariants.{Pawn, Knight, Bishop, Rook, Queen, King}
use Rattle.board_core.specs.declared.parts.Parts.{Parts}
use Rattle.board_core.specs.Attack.{man_at, IsInCheck}
use Rattle.board_core.specs.Position.{IsPosition, is_of, is_same_side}
use Rattle.board_core.specs.Side.{other}
use Rattle.board_core.specs.Sides.{IsOccupied}
use Rattle.place_index.specs.Square.{file, rank, bottom_top}
use Rattle.place_index.specs.Men.{man, codes_of, stands, other_side, exchanged}
use Rattle.place_index.specs.Kings.{kings_apart}
use Rattle.place_index.specs.Index.{AreAlone, IsPlacement}
use Rattle.place_index.specs.Placed.{is_black, kind_code, code_of_man, men_from, men_on, IsNamed}
use Rattle.place_index.specs.declared.man.Man.{Man}
use Rattle.place_index.proofs.Turns.Board.{stands_nil, stands_here, stands_later, stands_cases, bottom_top_mirrors}
use Rattle.place_index.proofs.Turns.TurnedPieces.{apart_back}
use Rattle.place_index.proofs.Shapes.LayoutGroups.{pawn_codes}

-- ---- which man of the board one is

pub record IsManOn (board : List (Option Piece)) (k c s : ℕ) : Type 0 where
  pub piece : Piece
  pub after : k ≤ s
  pub within : s < k + length board
  pub at : slice_index_or board (s - k) None ≡ Some piece
  pub code : code_of_man piece ≡ c

pub men_none : (k : ℕ) (rest : List (Option Piece)) → men_from k (None ∷ rest) ≡ men_from (suc k) rest
unfolding men_from
men_none k rest = refl

pub men_some : (k : ℕ) (piece : Piece) (rest : List (Option Piece)) → men_from k (Some piece ∷ rest) ≡ man (code_of_man piece) k ∷ men_from (suc k) rest
unfolding men_from
men_some k piece rest = refl

pub men_nil : (k : ℕ) → men_from k [] ≡ []
unfolding men_from
men_nil k = refl

later_man : (x : Option Piece) (board : List (Option Piece)) (k c s : ℕ) → IsManOn board (suc k) c s → IsManOn (x ∷ board) k c s
later_man x board k c s m =
    let e : s - k ≡ suc (s - suc k) = omega (arith, m.after) in
    record { piece = m.piece; after = omega (arith, m.after); within = omega (arith, m.within); at = ap (λ i. slice_index_or (x ∷ board) i None) e ∙ m.at; code = m.code }

pub man_on : (board : List (Option Piece)) (k c s : ℕ) → stands (men_from k board) c s ≡ true → IsManOn board k c s
man_on [] k c s h = absurd (false≢true (sym (stands_nil c s) ∙ sym (ap (λ l. stands l c s) (men_nil k)) ∙ h))
man_on (None ∷ board) k c s h = later_man None board k c s (man_on board (suc k) c s (sym (ap (λ l. stands l c s) (men_none k board)) ∙ h))
man_on (Some piece ∷ board) k c s h =
    elim (stands_cases (man (code_of_man piece) k) (men_from (suc k) board) c s (sym (ap (λ l. stands l c s) (men_some k piece board)) ∙ h)) [
      | inl first ↦
          let e : s - k ≡ 0 = omega (arith, first.1) in
          record { piece = piece; after = omega (arith, first.1); within = omega (arith, first.1); at = ap (λ i. slice_index_or (Some piece ∷ board) i None) e; code = first.0 }
      | inr later ↦ later_man (Some piece) board k c s (man_on board (suc k) c s later)
    ]

alone_from : (board : List (Option Piece)) (k : ℕ) → AreAlone (men_from k board)
unfolding men_from
alone_from [] k = tt
alone_from (None ∷ board) k = alone_from board (suc k)
alone_from (Some piece ∷ board) k = ((λ c. later c (cases_Bool (stands (men_from (suc k) board) c k))), alone_from board (suc k))
  where
    later : (c : ℕ) → (stands (men_from (suc k) board) c k ≡ true) ⊎ (stands (men_from (suc k) board) c k ≡ false) → stands (men_from (suc k) board) c k ≡ false
    later c (inl is) = absurd (omega (arith, (man_on board (suc k) c k is).after))
    later c (inr isnt) = isnt

-- ---- how many men there are

one_side : (side : Side) → cond (is_same_side White side) 1 0 + cond (is_same_side Black side) 1 0 ≡ 1
one_side White = refl
one_side Black = refl

one_more : (a w b x y : ℕ) → a ≡ w + b → x + y ≡ 1 → suc a ≡ x + w + (y + b)
one_more a w b x y e f = omega (arith, e, f)

none_more : (a w b : ℕ) → a ≡ w + b → a ≡ 0 + w + (0 + b)
none_more a w b e = omega (arith, e)

pub men_count : (k : ℕ) (board : List (Option Piece)) → length (men_from k board) ≡ count_by (is_of White) board + count_by (is_of Black) board
men_count k [] = ap length (men_nil k)
men_count k (None ∷ board) =
    ap length (men_none k board) ∙ none_more _ _ _ (men_count (suc k) board)
    ∙ sym (ap (λ t. t + count_by (is_of Black) (None ∷ board)) (sum_by-cons (λ x. cond (is_of White x) 1 0) None board)
    ∙ ap (λ t. 0 + count_by (is_of White) board + t) (sum_by-cons (λ x. cond (is_of Black x) 1 0) None board))
men_count k (Some piece ∷ board) =
    ap length (men_some k piece board) ∙ one_more _ _ _ _ _ (men_count (suc k) board) (one_side piece.side)
    ∙ sym (ap (λ t. t + count_by (is_of Black) (Some piece ∷ board)) (sum_by-cons (λ x. cond (is_of White x) 1 0) (Some piece) board)
    ∙ ap (λ t. cond (is_of White (Some piece)) 1 0 + count_by (is_of White) board + t) (sum_by-cons (λ x. cond (is_of Black x) 1 0) (Some piece) board))

-- ---- on a position

pub record Has (board : List (Option Piece)) (c s : ℕ) : Type 0 where
  pub piece : Piece
  pub on_board : s < 64
  pub at : man_at board s ≡ Some piece
  pub code : code_of_man piece ≡ c

pub has : (board : List (Option Piece)) (c s : ℕ) → length board ≡ 64 → stands (men_on board) c s ≡ true → Has board c s
has board c s len h =
    let m = man_on board 0 c s h in
    let e : s - 0 ≡ s = omega arith in
    record { piece = m.piece; on_board = omega (arith, m.within, len); at = ap (λ i. slice_index_or board i None) (sym e) ∙ m.at; code = m.code }

-- ---- codes

side_code : Side → Kind → ℕ
side_code side kind = cond (is_black side) (kind_code kind + 8) (kind_code kind)

kind_range : (kind : Kind) → (1 ≤ kind_code kind) × (kind_code kind ≤ 6)
kind_range Pawn = (omega arith, omega arith)
kind_range Knight = (omega arith, omega arith)
kind_range Bishop = (omega arith, omega arith)
kind_range Rook = (omega arith, omega arith)
kind_range Queen = (omega arith, omega arith)
kind_range King = (omega arith, omega arith)

kind_pawn : (kind : Kind) → kind_code kind ≡ 1 → kind ≡ Pawn
kind_pawn Pawn e = refl
kind_pawn Knight e = absurd (omega (arith, e))
kind_pawn Bishop e = absurd (omega (arith, e))
kind_pawn Rook e = absurd (omega (arith, e))
kind_pawn Queen e = absurd (omega (arith, e))
kind_pawn King e = absurd (omega (arith, e))

kind_king : (kind : Kind) → kind_code kind ≡ 6 → kind ≡ King
kind_king Pawn e = absurd (omega (arith, e))
kind_king Knight e = absurd (omega (arith, e))
kind_king Bishop e = absurd (omega (arith, e))
kind_king Rook e = absurd (omega (arith, e))
kind_king Queen e = absurd (omega (arith, e))
kind_king King e = refl

code_range : (side : Side) (kind : Kind) → side_code side kind < 16
unfolding side_code
code_range White kind = omega (arith, (kind_range kind).1)
code_range Black kind = omega (arith, (kind_range kind).1)

code_pawn : (side : Side) (kind : Kind) → (side_code side kind ≡ 1) ⊎ (side_code side kind ≡ 9) → kind ≡ Pawn
unfolding side_code
code_pawn White kind (inl e) = kind_pawn kind e
code_pawn White kind (inr e) = absurd (omega (arith, e, (kind_range kind).1))
code_pawn Black kind (inl e) = absurd (omega (arith, e))
code_pawn Black kind (inr e) = kind_pawn kind (omega (arith, e))

code_white : (side : Side) (kind : Kind) → side_code side kind ≡ 6 → (side ≡ White) × (kind ≡ King)
unfolding side_code
code_white White kind e = (refl, kind_king kind e)
code_white Black kind e = absurd (omega (arith, e, (kind_range kind).0))

code_black : (side : Side) (kind : Kind) → side_code side kind ≡ 14 → (side ≡ Black) × (kind ≡ King)
unfolding side_code
code_black White kind e = absurd (omega (arith, e, (kind_range kind).1))
code_black Black kind e = (refl, kind_king kind (omega (arith, e)))

code_is : (piece : Piece) → code_of_man piece ≡ side_code piece.side piece.kind
unfolding side_code
code_is piece = refl

codes_from : (k : ℕ) (board : List (Option Piece)) → list_all (λ c. ltb c 16) (codes_of (men_from k board)) ≡ true
unfolding men_from
codes_from k [] = refl
codes_from k (None ∷ board) = codes_from (suc k) board
codes_from k (Some piece ∷ board) =
    and_from (ltb (code_of_man piece) 16) (list_all (λ c. ltb c 16) (codes_of (men_from (suc k) board))) (lt-ltb (code_of_man piece) 16 (rw (code_is piece) (code_range piece.side piece.kind)))
    (codes_from (suc k) board)

-- the codes of men on a board are all small
pub codes_on : (board : List (Option Piece)) → list_all (λ c. ltb c 16) (codes_of (men_on board)) ≡ true
codes_on board = codes_from 0 board

made : (piece : Piece) (side : Side) (kind : Kind) → piece.side ≡ side → piece.kind ≡ kind → Some piece ≡ Some (record { side = side; kind = kind })
made piece side kind e f = ap (λ s. Some (record { side = s; kind = piece.kind })) e ∙ ap (λ k. Some (record { side = side; kind = k })) f

-- ---- what a position says of its men

pub record Stood (board : List (Option Piece)) : Type 0 where
  pub squares : length board ≡ 64
  pub pawns : (s : ℕ) (side : Side) → s < 64 → man_at board s ≡ Some (record { side = side; kind = Pawn }) → (1 ≤ rank s) × (rank s ≤ 6)
  pub kings : (a b : ℕ) → a < 64 → b < 64 → man_at board a ≡ Some (record { side = White; kind = King }) → man_at board b ≡ Some (record { side = Black; kind = King }) → IsTrue (kings_apart a b)

near : (a b : ℕ) → nat_lt (a + 1) b || nat_lt (b + 1) a ≡ false → (a ≤ b + 1) × (b ≤ a + 1)
near a b e =
    elim (cases_lt (a + 1) b) [
      | inl lt ↦ absurd (false≢true (sym e ∙ or_left _ _ (lt-ltb (a + 1) b lt)))
      | inr le ↦ elim (cases_lt (b + 1) a) [
        | inl lt ↦ absurd (false≢true (sym e ∙ or_right _ _ (lt-ltb (b + 1) a lt)))
        | inr le2 ↦ (le2, le)
      ]
    ]

or_false : (a b : Bool) → (a || b) ≡ false → (a ≡ false) × (b ≡ false)
or_false true b e = absurd (false≢true (sym e))
or_false false b e = (refl, e)

-- two kings of different colours on touching squares: each of them attacks the other
touching : (board : List (Option Piece)) (a b : ℕ) (side : Side) → a < 64 → b < 64 → man_at board a ≡ Some (record { side = White; kind = King }) → man_at board b ≡ Some (record { side = Black; kind = King })
    → a ≢ b → file a ≤ file b + 1 → file b ≤ file a + 1 → rank a ≤ rank b + 1 → rank b ≤ rank a + 1 → IsInCheck board side
touching board a b White la lb wa kb ne f g h i = record {
  king = a;
  on_board = la;
  stands = wa;
  attacked = record { from = b; kind = King; on_board = lb; stands = kb; reaches = ((λ e. ne (sym e)), omega (arith, f, g), omega (arith, h, i)) };
}
touching board a b Black la lb wa kb ne f g h i = record {
  king = b;
  on_board = lb;
  stands = kb;
  attacked = record { from = a; kind = King; on_board = la; stands = wa; reaches = (ne, omega (arith, f, g), omega (arith, h, i)) };
}

colour : Option Piece → Bool
colour None = true
colour (Some piece) = is_black piece.side

pub stood : (p : Parts) → IsPosition p → Stood p.men
unfolding colour
stood p q = record {
  squares = q.squares;
  pawns = λ s side lt at. let r = q.pawns s side lt at in (omega (arith, r.0), omega (arith, r.1));
  kings = λ a b la lb wa kb. elim (cases_Bool (kings_apart a b)) [
    | inl is ↦ is
    | inr isnt ↦
        let both = or_false _ _ isnt in
        let f = near (file a) (file b) both.0 in
        let r = near (rank a) (rank b) both.1 in
        absurd (q.quiet (touching p.men a b (other p.side) la lb wa kb (λ e. differ (sym wa ∙ ap (man_at p.men) e ∙ kb)) f.0 f.1 r.0 r.1))
  ];
}
  where
    differ : ◌≡◌ {A = Option Piece} (Some (record { side = White; kind = King })) (Some (record { side = Black; kind = King })) → ⊥
    differ e = false≢true (ap colour e)

-- ---- placements

pub placement_of_men : (key : ℕ) (board : List (Option Piece)) → Stood board → IsNamed key (men_on board) → IsPlacement key (men_on board)
placement_of_men key board q named = record {
  material = named;
  alone = alone_from board 0;
  board = λ c s h. (has board c s q.squares h).on_board;
  pawns = λ c s pawn h.
      let m = has board c s q.squares h in
      let kind = code_pawn m.piece.side m.piece.kind (elim (pawn_codes c pawn) [ inl e ↦ inl (sym (code_is m.piece) ∙ m.code ∙ e) | inr e ↦ inr (sym (code_is m.piece) ∙ m.code ∙ e) ]) in
      q.pawns s m.piece.side m.on_board (m.at ∙ made m.piece m.piece.side Pawn refl kind);
  kings = λ a b h k.
      let m = has board 6 a q.squares h in
      let n = has board 14 b q.squares k in
      let w = code_white m.piece.side m.piece.kind (sym (code_is m.piece) ∙ m.code) in
      let d = code_black n.piece.side n.piece.kind (sym (code_is n.piece) ∙ n.code) in
      q.kings a b m.on_board n.on_board (m.at ∙ made m.piece White King w.0 w.1) (n.at ∙ made n.piece Black King d.0 d.1);
}

-- a man of the exchanged ones was one of the other side on the opposite rank
pub record Was (men : List Man) (c s : ℕ) : Type 0 where
  pub before : ℕ
  pub code : other_side before ≡ c
  pub from : ℕ
  pub square : bottom_top from ≡ s
  pub stood : stands men before from ≡ true

pub was : (men : List Man) (c s : ℕ) → stands (exchanged men) c s ≡ true → Was men c s
was [] c s h = absurd (false≢true (sym (stands_nil c s) ∙ h))
was (m ∷ men) c s h =
    elim (stands_cases (man (other_side m.code) (bottom_top m.square)) (exchanged men) c s h) [
      | inl first ↦ record { before = m.code; code = first.0; from = m.square; square = first.1; stood = stands_here m men }
      | inr later ↦ let w = was men c s later in record { before = w.before; code = w.code; from = w.from; square = w.square; stood = stands_later m men w.before w.from w.stood }
    ]

exchanged_alone : (men : List Man) → ((c s : ℕ) → stands men c s ≡ true → s < 64) → AreAlone men → AreAlone (exchanged men)
exchanged_alone [] board a = tt
exchanged_alone (m ∷ men) board a =
    ((λ c. free c (cases_Bool (stands (exchanged men) c (bottom_top m.square)))), exchanged_alone men (λ c s h. board c s (stands_later m men c s h)) a.1)
  where
    free : (c : ℕ) → (stands (exchanged men) c (bottom_top m.square) ≡ true) ⊎ (stands (exchanged men) c (bottom_top m.square) ≡ false) → stands (exchanged men) c (bottom_top m.square) ≡ false
    free c (inl is) =
        let w = was men c (bottom_top m.square) is in
        let lw = board w.before w.from (stands_later m men w.before w.from w.stood) in
        let lm = board m.code m.square (stands_here m men) in
        let same : w.from ≡ m.square = sym (bottom_top_mirrors.back w.from lw) ∙ ap bottom_top w.square ∙ bottom_top_mirrors.back m.square lm in
        absurd (false≢true (sym (a.0 w.before) ∙ ap (stands men w.before) (sym same) ∙ w.stood))
    free c (inr isnt) = isnt

back_rank : (s : ℕ) → s < 64 → (1 ≤ rank s) × (rank s ≤ 6) → (1 ≤ rank (bottom_top s)) × (rank (bottom_top s) ≤ 6)
back_rank s lt r = (omega (arith, r.0, r.1, lt), omega (arith, r.0, r.1, lt))

other_is : (d c : ℕ) → d < 16 → other_side d ≡ c → ((d < 8) × (c ≡ d + 8)) ⊎ ((8 ≤ d) × (c ≡ d - 8))
other_is d c small e =
    elim (cases_lt d 8) [
      | inl lt ↦ inl (lt, sym (rw (eq-eqb (d / 8 % 2) 0 (omega (arith, lt))) at e))
      | inr le ↦ inr (le, sym (rw (ne_eqb (d / 8 % 2) 0 (λ z. omega (arith, z, le, small))) at e))
    ]

pub placement_of_exchanged : (key : ℕ) (board : List (Option Piece)) → Stood board → IsNamed key (exchanged (men_on board)) → IsPlacement key (exchanged (men_on board))
placement_of_exchanged key board q named = record {
  material = named;
  alone = exchanged_alone (men_on board) (λ c s h. (has board c s q.squares h).on_board) (alone_from board 0);
  board = λ c s h.
      let w = was (men_on board) c s h in
      omega (arith, w.square, bottom_top_mirrors.stays w.from (has board w.before w.from q.squares w.stood).on_board);
  pawns = λ c s pawn h.
      let w = was (men_on board) c s h in
      let m = has board w.before w.from q.squares w.stood in
      let small = code_range m.piece.side m.piece.kind in
      let is : side_code m.piece.side m.piece.kind ≡ w.before = sym (code_is m.piece) ∙ m.code in
      let kind = code_pawn m.piece.side m.piece.kind (elim (other_is w.before c (omega (arith, small, is)) w.code) [
        | inl e ↦ elim (pawn_codes c pawn) [ inl one ↦ absurd (omega (arith, one, e.1)) | inr nine ↦ inl (omega (arith, nine, e.1, is)) ]
        | inr e ↦ elim (pawn_codes c pawn) [ inl one ↦ inr (omega (arith, one, e.0, e.1, is)) | inr nine ↦ absurd (omega (arith, nine, e.0, e.1, small, is)) ]
      ]) in
      subst (λ t. (1 ≤ rank t) × (rank t ≤ 6)) w.square (back_rank w.from m.on_board (q.pawns w.from m.piece.side m.on_board (m.at ∙ made m.piece m.piece.side Pawn refl kind)));
  kings = λ a b h k.
      let v = was (men_on board) 6 a h in
      let w = was (men_on board) 14 b k in
      let m = has board v.before v.from q.squares v.stood in
      let n = has board w.before w.from q.squares w.stood in
      let im : side_code m.piece.side m.piece.kind ≡ v.before = sym (code_is m.piece) ∙ m.code in
      let in1 : side_code n.piece.side n.piece.kind ≡ w.before = sym (code_is n.piece) ∙ n.code in
      let sm = code_range m.piece.side m.piece.kind in
      let sn = code_range n.piece.side n.piece.kind in
      let d = code_black m.piece.side m.piece.kind (elim (other_is v.before 6 (omega (arith, sm, im)) v.code) [ inl e ↦ absurd (omega (arith, e.1)) | inr e ↦ omega (arith, e.0, e.1, im) ]) in
      let l = code_white n.piece.side n.piece.kind (elim (other_is w.before 14 (omega (arith, sn, in1)) w.code) [ inl e ↦ omega (arith, e.1, in1) | inr e ↦ absurd (omega (arith, e.0, e.1, sn, in1)) ]) in
      let far-apart = q.kings w.from v.from n.on_board m.on_board (n.at ∙ made n.piece White King l.0 l.1) (m.at ∙ made m.piece Black King d.0 d.1) in
      let moved : kings_apart (bottom_top v.from) (bottom_top w.from) ≡ true = bottom_top_mirrors.apart v.from w.from m.on_board n.on_board ∙ sym (apart_back v.from w.from m.on_board n.on_board) ∙ far-apart in
      subst (λ y. kings_apart a y ≡ true) w.square (subst (λ x. kings_apart x (bottom_top w.from) ≡ true) v.square moved);
}

-- ---- the sweep

pub record IsSwept (board : List (Option Piece)) (next set : ℕ) (items : List Man) : Type 0 where
  pub within : next ≤ 64
  pub gone : (s : ℕ) → s < next → bit_at set s ≡ 0
  pub rest : (s : ℕ) → s < 64 → next ≤ s → (bit_at set s ≡ 1 → IsTrue (is_some (man_at board s))) × (IsTrue (is_some (man_at board s)) → bit_at set s ≡ 1)
  pub is : items ++ men_from next (drop next board) ≡ men_on board

pub swept_start : (board : List (Option Piece)) (set : ℕ) (items : List Man) → IsOccupied board set → items ≡ [] → IsSwept board 0 set items
swept_start board set items o e = record {
  within = omega arith;
  gone = λ s lt. absurd (omega (arith, lt));
  rest = λ s lt le. o s;
  is = ap (λ l. l ++ men_on board) e;
}

none_of : (man : Option Piece) → (IsTrue (is_some man) → ⊥) → man ≡ None
none_of None f = refl
none_of (Some piece) f = absurd (f refl)

some_of : (man : Option Piece) → IsTrue (is_some man) → (piece : Piece) × (man ≡ Some piece)
some_of None t = absurd (false≢true t)
some_of (Some piece) t = (piece, refl)

zero_one : (n : ℕ) → n ≡ 0 → n ≡ 1 → ⊥
zero_one n a b = omega arith

skip_one : (board : List (Option Piece)) (s : ℕ) → s < length board → man_at board s ≡ None → men_from s (drop s board) ≡ men_from (suc s) (drop (suc s) board)
skip_one board s lt e =
    let up : s + 1 ≡ suc s = omega arith in
    ap (men_from s) (drop_more board s None lt ∙ ap (λ x. x ∷ drop (s + 1) board) e) ∙ men_none s (drop (s + 1) board) ∙ ap (λ n. men_from (suc s) (drop n board)) up

skip_all : (board : List (Option Piece)) (d s : ℕ) → d + s ≤ length board → ((t : ℕ) → s ≤ t → t < d + s → man_at board t ≡ None) → men_from s (drop s board) ≡ men_from (d + s) (drop (d + s) board)
skip_all board zero s le none = let e : s ≡ zero + s = omega arith in ap (λ n. men_from n (drop n board)) e
skip_all board (suc d) s le none =
    let e : d + suc s ≡ suc d + s = omega arith in
    skip_one board s (omega (arith, le)) (none s (omega arith) (omega arith)) ∙ skip_all board d (suc s) (omega (arith, le)) (λ t a b. none t (omega (arith, a)) (omega (arith, b)))
    ∙ ap (λ n. men_from n (drop n board)) e

skip_to : (board : List (Option Piece)) (s t : ℕ) → s ≤ t → t ≤ length board → ((u : ℕ) → s ≤ u → u < t → man_at board u ≡ None) → men_from s (drop s board) ≡ men_from t (drop t board)
skip_to board s t le within none =
    let e : (t - s) + s ≡ t = omega arith in
    skip_all board (t - s) s (omega (arith, le, within)) (λ u a b. none u a (omega (arith, b, le))) ∙ ap (λ n. men_from n (drop n board)) e

-- the lowest square of the set has a man, and none stands before it
pub swept_here : (board : List (Option Piece)) (next set square : ℕ) (items : List Man) → IsSwept board next set items → square < 64 → bit_at set square ≡ 1 → (next ≤ square) × IsTrue (is_some (man_at board square))
swept_here board next set square items w lt here =
    let le : next ≤ square = elim (cases_lt square next) [ inl less ↦ absurd (zero_one _ (w.gone square less) here) | inr ge ↦ ge ] in
    (le, (w.rest square lt le).0 here)

swept_to : (board : List (Option Piece)) (next set square : ℕ) (items : List Man) → length board ≡ 64 → IsSwept board next set items → square < 64 → bit_at set square ≡ 1 → ((s : ℕ) → s < square → bit_at set s ≡ 0)
    → men_from next (drop next board) ≡ men_from square (drop square board)
swept_to board next set square items len w lt here first =
    let at = swept_here board next set square items w lt here in
    skip_to board next square at.0 (omega (arith, lt, len)) (λ u a b. none_of (man_at board u) (λ t. zero_one _ (first u b) ((w.rest u (omega (arith, lt, b)) a).1 t)))

pub swept_item : (board : List (Option Piece)) (next set square : ℕ) (items : List Man) (piece : Piece) → length board ≡ 64 → IsSwept board next set items → square < 64 → bit_at set square ≡ 1 → ((s : ℕ) → s < square → bit_at set s ≡ 0)
    → man_at board square ≡ Some piece → items ++ man (code_of_man piece) square ∷ men_from (square + 1) (drop (square + 1) board) ≡ men_on board
swept_item board next set square items piece len w lt here first e =
    let up : suc square ≡ square + 1 = omega arith in
    let split : men_from square (drop square board) ≡ man (code_of_man piece) square ∷ men_from (square + 1) (drop (square + 1) board) =
    ap (men_from square) (drop_more board square None (omega (arith, lt, len)) ∙ ap (λ x. x ∷ drop (square + 1) board) e) ∙ men_some square piece (drop (square + 1) board)
    ∙ ap (λ n. man (code_of_man piece) square ∷ men_from n (drop (square + 1) board)) up in
    ap (λ l. items ++ l) (sym (swept_to board next set square items len w lt here first ∙ split)) ∙ w.is

pub swept_next : (board : List (Option Piece)) (next set square set2 : ℕ) (items more : List Man) (piece : Piece) → length board ≡ 64 → IsSwept board next set items → square < 64 → bit_at set square ≡ 1 → ((s : ℕ) → s < square → bit_at set s ≡ 0)
    → bit_at set2 square ≡ 0 → ((s : ℕ) → s < 64 → s ≢ square → bit_at set2 s ≡ bit_at set s) → man_at board square ≡ Some piece → more ≡ items ++ man (code_of_man piece) square ∷ [] → IsSwept board (square + 1) set2 more
swept_next board next set square set2 items more piece len w lt here first gone kept e m =
    let at = swept_here board next set square items w lt here in
    record {
      within = omega (arith, lt);
      gone = λ s less. elim (cases_eq s square) [
        | inl same ↦ ap (bit_at set2) same ∙ gone
        | inr ne ↦ kept s (omega (arith, less, lt)) ne ∙ first s (omega (arith, less, ne))
      ];
      rest = λ s below le.
          let same = kept s below (λ x. omega (arith, x, le)) in
          let r = w.rest s below (omega (arith, le, at.0)) in
          ((λ t. r.0 (sym same ∙ t)), (λ t. same ∙ r.1 t));
      is = ap (λ l. l ++ men_from (square + 1) (drop (square + 1) board)) m ∙ append_assoc items (man (code_of_man piece) square ∷ []) (men_from (square + 1) (drop (square + 1) board))
          ∙ swept_item board next set square items piece len w lt here first e;
    }

pub swept_end : (board : List (Option Piece)) (next set : ℕ) (items : List Man) → length board ≡ 64 → IsSwept board next set items → set ≡ 0 → items ≡ men_on board
swept_end board next set items len w e =
    let none = skip_to board next 64 w.within (omega (arith, len)) (λ u a b. none_of (man_at board u) (λ t. zero_one _ (ap (λ x. bit_at x u) e ∙ bit_at-zero u) ((w.rest u b a).1 t))) in
    let done : men_from 64 (drop 64 board) ≡ [] = ap (men_from 64) (drop_all 64 board (omega (arith, len))) ∙ men_nil 64 in
    sym (append-nil items) ∙ ap (λ l. items ++ l) (sym (none ∙ done)) ∙ w.is

-- five men are all of at most five
pub swept_all : (board : List (Option Piece)) (next set : ℕ) (items : List Man) → IsSwept board next set items → length (men_on board) ≤ length items → items ≡ men_on board
swept_all board next set items w most = sym (append-nil items) ∙ ap (λ l. items ++ l) (sym (none (men_from next (drop next board)) (omega (arith, most, ap length w.is, length-append items (men_from next (drop next board)))))) ∙ w.is
  where
    none : (later : List Man) → length later ≡ 0 → later ≡ []
    none [] e = refl
    none (m ∷ later) e = absurd (omega (arith, e))

pub swept_some : (board : List (Option Piece)) (next set square : ℕ) (items : List Man) → IsSwept board next set items → square < 64 → bit_at set square ≡ 1 → man_at board square ≡ None → ⊥
swept_some board next set square items w lt here e = false≢true (sym (ap is_some e) ∙ (swept_here board next set square items w lt here).1)

pub placement_in_colours : (key : ℕ) (board : List (Option Piece)) (b : Bool) → Stood board → IsNamed key (cond b (exchanged (men_on board)) (men_on board)) → IsPlacement key (cond b (exchanged (men_on board)) (men_on board))
placement_in_colours key board true q named = placement_of_exchanged key board q named
placement_in_colours key board false q named = placement_of_men key board q named

-- a man's code and square written one after the other
pub man_put : (men : List Man) (i code square : ℕ) (d e : Man) → i < length men
    → slice_set (slice_set men i (man code (get_or men i d).square)) i (man (get_or (slice_set men i (man code (get_or men i d).square)) i e).code square) ≡ slice_set men i (man code square)
man_put [] i code square d e lt = absurd (omega (arith, lt))
man_put (m ∷ men) zero code square d e lt = refl
man_put (m ∷ men) (suc i) code square d e lt = ap (λ l. m ∷ l) (man_put men i code square d e (omega (arith, lt)))
