use Rattle.std.proofs.Common.{ℕ, ◌≡◌, ◌≢◌, ◌<◌, ◌≤◌, ◌+◌, List, [], ◌∷◌, Option, Some, None, Bool, true, false, cond, ◌||◌, ◌&&◌, is_some, IsTrue, IsFalse, sum_by, count_by, length, refl, sym, ap, ◌∙◌, arith, inl, inr}
use Rattle.std.proofs.lemmas.List.Sums.{sum_by-set, sum_by-cons}
use Rattle.std.proofs.Math.ListN.{length-set}
use Rattle.std.proofs.lemmas.Bool.{cases_Bool}
use Rattle.board_core.specs.declared.piece.Piece.{Piece}
use Rattle.board_core.specs.declared.piece.Side.{Side}
use Rattle.board_core.specs.declared.piece.Side.TheVariants.{White, Black}
use Rattle.board_core.specs.declared.piece.Kind.{Kind}
use Rattle.board_core.specs.declared.piece.Kind.TheVariants.{Pawn, Rook}
use Rattle.board_core.specs.declared.piece.Promotion.{Promotion}
use Rattle.board_core.specs.declared.parts.Parts.{Parts}
use Rattle.board_core.specs.declared.moves.Move.{Move}
use Rattle.board_core.specs.declared.moves.MoveCase.{MoveCase}
use Rattle.board_core.specs.declared.moves.MoveCase.TheVariants.{Plain, Advance, DoubleStep, PawnCapture, EnPassant, Castle}
use Rattle.board_core.specs.Castling.{rook_home, rook_end}
use Rattle.board_core.specs.Attack.{man_at}
use Rattle.board_core.specs.Moves.{Legal, IsMove, carried, landed, behind, men_after, after}
use Rattle.board_core.specs.Position.{IsPosition, is_of, is_king_of, is_king, is_same_side}
use Rattle.board_core.specs.ComputedMoves.{is_en_passant, is_capture, count_of_men}
use Rattle.board_core.proofs.Computed.{some_man}
use Rattle.board_core.proofs.ComputedMoves.{Decides-en_passant, one_case}
use Rattle.board_core.proofs.Preserved.{carried_sum, carried_elsewhere, behind_below, way, honest, taken_free, moves_away}

abbrev one_if : Bool → ℕ
one_if b = cond b 1 0

-- one for a man
abbrev weight : Option Piece → ℕ
weight o = one_if (is_some o)

abbrev men_in : List (Option Piece) → ℕ
men_in men = sum_by weight men

-- a man goes to another square: what stood there is gone
carried_men : (men : List (Option Piece)) (from to : ℕ) (man : Option Piece) → length men ≡ 64 → from < 64 → to < 64 → from ≢ to → weight (man_at men from) ≡ 1 → weight man ≡ 1 → men_in (carried men from to man) + weight (man_at men to) ≡ men_in men
carried_men men from to man len lf lt ne before after =
    let sum = carried_sum weight men from to man refl len lf lt ne in
    omega arith

weight_landed : (side : Side) (what : Kind) (o : Option Promotion) → weight (landed side (some_man side what) o) ≡ 1
weight_landed side what None = refl
weight_landed side what (Some k) = refl

pub no_passant : (p : Parts) (m : Move) (c : MoveCase) → IsMove p m c → c ≢ EnPassant → is_en_passant p m ≡ false
no_passant p m c r ne = elim (cases_Bool (is_en_passant p m)) [
  | inl t ↦ absurd (ne (one_case p m c EnPassant r ((Decides-en_passant p m).0 t)))
  | inr f ↦ f
]

weigh_left : (a b : Bool) → b ≡ false → one_if (a || b) ≡ one_if a
weigh_left true b e = refl
weigh_left false b e = rw e refl

weigh_right : (a b : Bool) → b ≡ true → one_if (a || b) ≡ 1
weigh_right true b e = refl
weigh_right false b e = rw e refl

-- a move that is no capture en passant takes what stands on its square
taken_there : (p : Parts) (m : Move) (c : MoveCase) → IsMove p m c → c ≢ EnPassant → one_if (is_capture p m) ≡ weight (man_at p.men m.to)
taken_there p m c r ne = weigh_left (is_some (man_at p.men m.to)) (is_en_passant p m) (no_passant p m c r ne)

carry_men : (p : Parts) (m : Move) (c : MoveCase) (man : Option Piece) → IsPosition p → m.from < 64 → m.to < 64 → IsMove p m c → c ≢ EnPassant → weight (man_at p.men m.from) ≡ 1 → weight man ≡ 1 → men_in (carried p.men m.from m.to man) + one_if (is_capture p m) ≡ men_in p.men
carry_men p m c man i lf lt r ne before after =
    let sum = carried_men p.men m.from m.to man i.squares lf lt (moves_away p m c r) before after in
    let taken = taken_there p m c r ne in
    omega arith

stands_weight : (o : Option Piece) (side : Side) (what : Kind) → o ≡ some_man side what → weight o ≡ 1
stands_weight o side what e = rw e refl

move_men : (p : Parts) (m : Move) (c : MoveCase) → IsPosition p → m.from < 64 → m.to < 64 → IsMove p m c → men_in (men_after p m c) + one_if (is_capture p m) ≡ men_in p.men
move_men p m Plain i lf lt r =
    let one = stands_weight _ _ _ r.stands in carry_men p m Plain _ i lf lt r (λ e. let f = e in cc) one one
move_men p m Advance i lf lt r =
    carry_men p m Advance _ i lf lt r (λ e. let f = e in cc) (stands_weight _ _ _ r.stands) (rw r.stands (weight_landed p.side Pawn m.promotion))
move_men p m DoubleStep i lf lt r =
    let one = stands_weight _ _ _ r.stands in carry_men p m DoubleStep _ i lf lt r (λ e. let f = e in cc) one one
move_men p m PawnCapture i lf lt r =
    carry_men p m PawnCapture _ i lf lt r (λ e. let f = e in cc) (stands_weight _ _ _ r.stands) (rw r.stands (weight_landed p.side Pawn m.promotion))
move_men p m EnPassant i lf lt r =
    let passed = i.en_passant m.to r.passed in
    let back = behind p.side m.to in
    let men = carried p.men m.from m.to (man_at p.men m.from) in
    let one = stands_weight _ _ _ r.stands in
    let free = taken_free p.men p.side back (Pawn, passed.pawn) in
    let not_from : back ≢ m.from = λ e. free Pawn (rw e r.stands) in
    let not_to : back ≢ m.to = λ e. (let f = sym r.empty ∙ rw e at passed.pawn in cc) in
    let pawn = stands_weight (man_at men back) _ _ (carried_elsewhere p.men m.from m.to back (man_at p.men m.from) not_from not_to ∙ passed.pawn) in
    let there : weight (man_at p.men m.to) ≡ 0 = rw r.empty refl in
    let sum = carried_men p.men m.from m.to (man_at p.men m.from) i.squares lf lt (moves_away p m EnPassant r) one one in
    let below = behind_below p.side m.to lt passed.rank in
    let within : back < length men = simp length-set (omega (arith, i.squares)) in
    let removed = sum_by-set weight men back None None within in
    let takes : one_if (is_capture p m) ≡ 1 = weigh_right (is_some (man_at p.men m.to)) (is_en_passant p m) ((Decides-en_passant p m).1 r) in
    omega arith
move_men p m (Castle wing) i lf lt r =
    let w = way p.side wing in
    let men = carried p.men m.from m.to (man_at p.men m.from) in
    let one = stands_weight _ _ _ r.stands in
    let first = carry_men p m (Castle wing) _ i lf lt r (λ e. let f = e in cc) one one in
    let rook = carried_elsewhere p.men m.from m.to (rook_home p.side wing) (man_at p.men m.from) (rw r.from_home w.rook_king) (rw r.to_end w.rook_king_end) ∙ (honest p p.side wing i.rights r.right).1 in
    let room = carried_elsewhere p.men m.from m.to (rook_end p.side wing) (man_at p.men m.from) (rw r.from_home w.end_king) (rw r.to_end w.end_king_end) ∙ r.clear _ w.rook_between in
    let none : weight (man_at men (rook_end p.side wing)) ≡ 0 = rw room refl in
    let second = carried_men men (rook_home p.side wing) (rook_end p.side wing) (some_man p.side Rook) (simp length-set i.squares) w.rook_on w.rook_to w.rook_apart (stands_weight _ _ _ rook) refl in
    omega arith

men_of_after : (p : Parts) (m : Move) (c : MoveCase) → (after p m c).men ≡ men_after p m c
unfolding after
men_of_after p m c = refl

pub legal_men : (p : Parts) (m : Move) (q : Parts) → IsPosition p → Legal p m q → count_of_men q + one_if (is_capture p m) ≡ count_of_men p
legal_men p m q i l =
    let men : q.men ≡ men_after p m l.case = ap (λ (x : Parts). x.men) l.becomes ∙ men_of_after p m l.case in
    rw men (move_men p m l.case i l.from_board l.to_board l.rule)

pub capture_takes : (p : Parts) (m : Move) (q : Parts) → IsPosition p → Legal p m q → IsTrue (is_capture p m) → count_of_men q + 1 ≡ count_of_men p
capture_takes p m q i l t = rw t at (legal_men p m q i l)

pub other_keeps : (p : Parts) (m : Move) (q : Parts) → IsPosition p → Legal p m q → IsFalse (is_capture p m) → count_of_men q ≡ count_of_men p
other_keeps p m q i l f = let h = rw f at (legal_men p m q i l) in omega arith

of_one : (side : Side) → 1 ≡ one_if (is_same_side White side) + one_if (is_same_side Black side)
of_one White = refl
of_one Black = refl

of_side : (o : Option Piece) → weight o ≡ one_if (is_of White o) + one_if (is_of Black o)
of_side None = refl
of_side (Some man) = of_one man.side

-- the men are those of the two sides
pub men_by_side : (men : List (Option Piece)) → count_by is_some men ≡ count_by (is_of White) men + count_by (is_of Black) men
men_by_side [] = refl
men_by_side (o ∷ rest) =
    let here = of_side o in
    let later = men_by_side rest in
    omega (arith, sum_by-cons weight o rest, sum_by-cons (λ o. one_if (is_of White o)) o rest, sum_by-cons (λ o. one_if (is_of Black o)) o rest)

and_weight : (a b : Bool) → one_if (a && b) ≤ one_if a
and_weight true true = omega arith
and_weight true false = omega arith
and_weight false b = omega arith

king_weight : (side : Side) (o : Option Piece) → one_if (is_king_of side o) ≤ one_if (is_of side o)
king_weight side None = omega arith
king_weight side (Some man) = and_weight (is_same_side side man.side) (is_king man.kind)

kings_among : (side : Side) (men : List (Option Piece)) → count_by (is_king_of side) men ≤ count_by (is_of side) men
kings_among side [] = omega arith
kings_among side (o ∷ rest) =
    let here = king_weight side o in
    let later = kings_among side rest in
    omega (arith, sum_by-cons (λ o. one_if (is_king_of side o)) o rest, sum_by-cons (λ o. one_if (is_of side o)) o rest)

pub men_of_position : (p : Parts) → IsPosition p → (2 ≤ count_of_men p) × (count_of_men p ≤ 32)
men_of_position p i =
    let sides = men_by_side p.men in
    let white = kings_among White p.men in
    let black = kings_among Black p.men in
    (omega (arith, i.kings), omega (arith, i.few))
