-- After a quiet move the other side of the same table is asked.
use Rattle.std.proofs.Common.{◌≡◌, ◌≢◌, ◌∙◌, sym, ap, refl, ℕ, zero, suc, ◌+◌, ◌<◌, ◌⊎◌, Bool, true, false, cond, not, eqb, ◌&&◌, ◌||◌, is_some, List, [], ◌∷◌, length, map, set, get_or, Option, Some, None, inl, inr, arith, if◌then◌else◌}
use Rattle.std.specs.Prelude.{find, count_by, sum_by}
use Rattle.std.specs.List.{list_any, list_all, range_with_len}
use Rattle.std.proofs.lemmas.Bool.{and_parts, false≢true}
use Rattle.std.proofs.lemmas.List.{get_or-set_other}
use Rattle.std.proofs.lemmas.List.Sums.{sum_by-cons}
use Rattle.board_core.specs.declared.piece.Piece.{Piece}
use Rattle.board_core.specs.declared.piece.Side.{Side}
use Rattle.board_core.specs.declared.piece.Side.TheVariants.{White, Black}
use Rattle.board_core.specs.declared.piece.Kind.{Kind}
use Rattle.board_core.specs.declared.piece.Kind.TheVariants.{Pawn, Knight, Bishop, Rook, Queen, King}
use Rattle.board_core.specs.declared.piece.Wing.{Wing}
use Rattle.board_core.specs.declared.piece.Wing.TheVariants.{KingSide, QueenSide}
use Rattle.board_core.specs.declared.parts.Parts.{Parts}
use Rattle.board_core.specs.declared.parts.Rights.{Rights}
use Rattle.board_core.specs.declared.moves.Move.{Move}
use Rattle.board_core.specs.declared.moves.MoveCase.{MoveCase}
use Rattle.board_core.specs.declared.moves.MoveCase.TheVariants.{Plain, Advance, DoubleStep, PawnCapture, EnPassant, Castle}
use Rattle.board_core.specs.Side.{other}
use Rattle.board_core.specs.Attack.{man_at}
use Rattle.board_core.specs.Castling.{has_right, has_any_right}
use Rattle.board_core.specs.Position.{IsPosition}
use Rattle.board_core.specs.Moves.{IsMove, carried, after}
use Rattle.board_core.specs.ComputedMoves.{position_after, is_capture, is_en_passant, is_pawn, is_pawn_of}
use Rattle.board_core.proofs.ComputedMoves.{position_legal, Decides-pawn_of}
use Rattle.board_core.proofs.Preserved.{carried_sum, moves_away}
use Rattle.place_index.specs.declared.man.Man.{Man}
use Rattle.place_index.specs.Men.{man, codes_of, stands, falling, other_side, exchanged}
use Rattle.place_index.specs.Square.{bottom_top}
use Rattle.place_index.specs.Material.{count_of, pieces_of}
use Rattle.place_index.specs.Shape.{lead_code, black_leads}
use Rattle.place_index.specs.Pawns.{pawn_square, pawn_numbers_of}
use Rattle.place_index.specs.Turning.{lead_pawn, lead_file}
use Rattle.place_index.specs.Placed.{is_black, kind_code, code_of_man, men_from, men_on}
use Rattle.table_file.specs.Files.{is_symmetric}
use Rattle.judge_core.specs.LookUp.{is_named, is_material, material_of, placement, placed_of}
use Rattle.judge_core.specs.Distances.{moves_pawn, is_quiet}

-- ---- tests that no man but a pawn passes

abbrev pub is_no_pawn : Option Piece → Bool
is_no_pawn None = true
is_no_pawn (Some piece) = not (is_pawn piece.kind)

not_pawn : (b : Bool) → not b ≡ true → b ≡ false
not_pawn true e = cc
not_pawn false e = refl

module _ (T : Man → Bool) (blind : (piece : Piece) (s : ℕ) → is_pawn piece.kind ≡ false → T (man (code_of_man piece) s) ≡ false) where
  passed_over : (k : ℕ) (o : Option Piece) (board : List (Option Piece)) → is_no_pawn o ≡ true → list_any T (men_from k (o ∷ board)) ≡ list_any T (men_from (suc k) board)
  unfolding men_from
  passed_over k None board e = refl
  passed_over k (Some piece) board e = rw (blind piece k (not_pawn (is_pawn piece.kind) e)) refl

  one_square : (k : ℕ) (board : List (Option Piece)) (i : ℕ) (x : Option Piece) → is_no_pawn (get_or board i None) ≡ true → is_no_pawn x ≡ true → list_any T (men_from k (set board i x)) ≡ list_any T (men_from k board)
  unfolding men_from
  one_square k [] i x a b = refl
  one_square k (o ∷ board) zero x a b = passed_over k x board b ∙ sym (passed_over k o board a)
  one_square k (None ∷ board) (suc i) x a b = one_square (suc k) board i x a b
  one_square k (Some piece ∷ board) (suc i) x a b = ap (λ r. T (man (code_of_man piece) k) || r) (one_square (suc k) board i x a b)

  same_any : (board : List (Option Piece)) (from to : ℕ) → from ≢ to → is_no_pawn (man_at board from) ≡ true → man_at board to ≡ None → list_any T (men_on (carried board from to (man_at board from))) ≡ list_any T (men_on board)
  same_any board from to apart a b =
      let there : is_no_pawn (get_or (set board from None) to None) ≡ true = ap is_no_pawn (get_or-set_other board from to None None (λ e. apart (sym e)) ∙ b) in
      one_square 0 (set board from None) to (man_at board from) there a ∙ one_square 0 board from None a refl

-- pawns have the codes 1 and 9
not_one : (side : Side) (kind : Kind) → is_pawn kind ≡ false → eqb (cond (is_black side) (kind_code kind + 8) (kind_code kind)) 1 ≡ false
not_one White Pawn e = cc
not_one White Knight e = refl
not_one White Bishop e = refl
not_one White Rook e = refl
not_one White Queen e = refl
not_one White King e = refl
not_one Black Pawn e = cc
not_one Black Knight e = refl
not_one Black Bishop e = refl
not_one Black Rook e = refl
not_one Black Queen e = refl
not_one Black King e = refl

not_nine : (side : Side) (kind : Kind) → is_pawn kind ≡ false → eqb (cond (is_black side) (kind_code kind + 8) (kind_code kind)) 9 ≡ false
not_nine White Pawn e = cc
not_nine White Knight e = refl
not_nine White Bishop e = refl
not_nine White Rook e = refl
not_nine White Queen e = refl
not_nine White King e = refl
not_nine Black Pawn e = cc
not_nine Black Knight e = refl
not_nine Black Bishop e = refl
not_nine Black Rook e = refl
not_nine Black Queen e = refl
not_nine Black King e = refl

not_other_one : (side : Side) (kind : Kind) → is_pawn kind ≡ false → eqb (other_side (cond (is_black side) (kind_code kind + 8) (kind_code kind))) 1 ≡ false
not_other_one White Pawn e = cc
not_other_one White Knight e = refl
not_other_one White Bishop e = refl
not_other_one White Rook e = refl
not_other_one White Queen e = refl
not_other_one White King e = refl
not_other_one Black Pawn e = cc
not_other_one Black Knight e = refl
not_other_one Black Bishop e = refl
not_other_one Black Rook e = refl
not_other_one Black Queen e = refl
not_other_one Black King e = refl

not_other_nine : (side : Side) (kind : Kind) → is_pawn kind ≡ false → eqb (other_side (cond (is_black side) (kind_code kind + 8) (kind_code kind))) 9 ≡ false
not_other_nine White Pawn e = cc
not_other_nine White Knight e = refl
not_other_nine White Bishop e = refl
not_other_nine White Rook e = refl
not_other_nine White Queen e = refl
not_other_nine White King e = refl
not_other_nine Black Pawn e = cc
not_other_nine Black Knight e = refl
not_other_nine Black Bishop e = refl
not_other_nine Black Rook e = refl
not_other_nine Black Queen e = refl
not_other_nine Black King e = refl

-- ---- the file of the leading pawn

falling_same : (f g : ℕ → Bool) → ((n : ℕ) → f n ≡ g n) → (n : ℕ) → falling f n ≡ falling g n
unfolding falling
falling_same f g h zero = refl
falling_same f g h (suc n) = rw (h n, falling_same f g h n) refl

lead_code-is : (key : ℕ) → (lead_code key ≡ 1) ⊎ (lead_code key ≡ 9)
unfolding lead_code
lead_code-is key = by_colour (black_leads key) (lead_code key) refl
  where
    by_colour : (b : Bool) (n : ℕ) → n ≡ cond b 9 1 → (n ≡ 1) ⊎ (n ≡ 9)
    by_colour true n e = inr e
    by_colour false n e = inl e

-- pawns of both colours stand on the same squares
abbrev SamePawns : List Man → List Man → Type 0
SamePawns xs ys = ((s : ℕ) → stands xs 1 s ≡ stands ys 1 s) × ((s : ℕ) → stands xs 9 s ≡ stands ys 9 s)

pawns_at : (xs ys : List Man) → SamePawns xs ys → (c : ℕ) → (c ≡ 1) ⊎ (c ≡ 9) → (s : ℕ) → stands xs c s ≡ stands ys c s
pawns_at xs ys same c (inl e) s = rw e (same.0 s)
pawns_at xs ys same c (inr e) s = rw e (same.1 s)

lead_file-same : (key : ℕ) (xs ys : List Man) → SamePawns xs ys → lead_file key xs ≡ lead_file key ys
unfolding lead_file lead_pawn pawn_numbers_of
lead_file-same key xs ys same =
    let e = falling_same (λ n. stands xs (lead_code key) (pawn_square n)) (λ n. stands ys (lead_code key) (pawn_square n)) (λ n. pawns_at xs ys same (lead_code key) (lead_code-is key) (pawn_square n)) 48 in
    rw e refl

list_any-map : (T : Man → Bool) (f : Man → Man) (xs : List Man) → list_any T (map f xs) ≡ list_any (λ m. T (f m)) xs
list_any-map T f [] = refl
list_any-map T f (x ∷ xs) = ap (λ r. T (f x) || r) (list_any-map T f xs)

-- ---- counts of codes

-- how much a man counts, by a test of codes
abbrev counts : (ℕ → Bool) → Option Piece → ℕ
counts f None = 0
counts f (Some piece) = cond (f (code_of_man piece)) 1 0

count_on : (f : ℕ → Bool) (k : ℕ) (board : List (Option Piece)) → count_by f (codes_of (men_from k board)) ≡ sum_by (counts f) board
unfolding men_from
count_on f k [] = refl
count_on f k (None ∷ board) =
    let rest = count_on f (suc k) board in
    let e : sum_by (counts f) (None ∷ board) ≡ 0 + sum_by (counts f) board = sum_by-cons (counts f) None board in
    omega (arith, rest, e)
count_on f k (Some piece ∷ board) =
    sum_by-cons (λ c. cond (f c) 1 0) (code_of_man piece) (codes_of (men_from (suc k) board))
    ∙ ap (λ n. cond (f (code_of_man piece)) 1 0 + n) (count_on f (suc k) board)
    ∙ sym (sum_by-cons (counts f) (Some piece) board)

-- as many of each code
abbrev SameCodes : List ℕ → List ℕ → Type 0
SameCodes xs ys = (f : ℕ → Bool) → count_by f xs ≡ count_by f ys

same_counts : (p : Parts) (from to : ℕ) → IsPosition p → from < 64 → to < 64 → from ≢ to → man_at p.men to ≡ None → SameCodes (codes_of (men_on (carried p.men from to (man_at p.men from)))) (codes_of (men_on p.men))
same_counts p from to position lf lt apart none f =
    let sum = carried_sum (counts f) p.men from to (man_at p.men from) refl position.squares lf lt apart in
    let zero_there : counts f (man_at p.men to) ≡ 0 = ap (counts f) none in
    count_on f 0 (carried p.men from to (man_at p.men from)) ∙ omega (arith, sum, zero_there) ∙ sym (count_on f 0 p.men)

count_exchanged : (f : ℕ → Bool) (men : List Man) → count_by f (codes_of (exchanged men)) ≡ count_by (λ c. f (other_side c)) (codes_of men)
count_exchanged f [] = refl
count_exchanged f (m ∷ men) =
    sum_by-cons (λ c. cond (f c) 1 0) (other_side m.code) (codes_of (exchanged men))
    ∙ ap (λ n. cond (f (other_side m.code)) 1 0 + n) (count_exchanged f men)
    ∙ sym (sum_by-cons (λ c. cond (f (other_side c)) 1 0) m.code (codes_of men))

count_all : (xs : List ℕ) → count_by (λ c. true) xs ≡ length xs
count_all [] = refl
count_all (x ∷ xs) = sum_by-cons (λ c. 1) x xs ∙ ap (λ n. 1 + n) (count_all xs) ∙ (let e : 1 + length xs ≡ suc (length xs) = omega arith in e)

list_all-same : (f g : ℕ → Bool) → ((n : ℕ) → f n ≡ g n) → (xs : List ℕ) → list_all f xs ≡ list_all g xs
list_all-same f g h [] = refl
list_all-same f g h (x ∷ xs) = rw (h x, list_all-same f g h xs) refl

find-same : (f g : ℕ → Bool) → ((n : ℕ) → f n ≡ g n) → (xs : List ℕ) → find f xs ≡ find g xs
find-same f g h [] = refl
find-same f g h (x ∷ xs) = rw (h x, find-same f g h xs) refl

named-same : (key : ℕ) (xs ys : List Man) → SameCodes (codes_of xs) (codes_of ys) → is_named key xs ≡ is_named key ys
unfolding count_of
named-same key xs ys same =
    let l : length (codes_of xs) ≡ length (codes_of ys) = sym (count_all (codes_of xs)) ∙ same (λ c. true) ∙ count_all (codes_of ys) in
    let all = list_all-same (λ c. eqb (count_by (λ x. eqb x c) (codes_of xs)) (count_by (λ x. eqb x c) (pieces_of key))) (λ c. eqb (count_by (λ x. eqb x c) (codes_of ys)) (count_by (λ x. eqb x c) (pieces_of key))) (λ c. ap (λ n. eqb n (count_by (λ x. eqb x c) (pieces_of key))) (same (λ x. eqb x c))) (range_with_len 0 16) in
    ap (λ n. eqb n (length (pieces_of key)) && list_all (λ c. eqb (count_by (λ x. eqb x c) (codes_of xs)) (count_by (λ x. eqb x c) (pieces_of key))) (range_with_len 0 16)) l
    ∙ ap (λ b. eqb (length (codes_of ys)) (length (pieces_of key)) && b) all

-- ---- a quiet move

-- the man that moves is no pawn, and its square is empty
quiet_from : (p : Parts) (m : Move) (k : Kind) (q : Option Piece) → q ≡ Some (record { side = p.side; kind = k }) → is_pawn_of p.side q ≡ false → is_no_pawn q ≡ true
quiet_from p m k q e f = rw e (own p.side k (rw e at f))
  where
    own : (side : Side) (k : Kind) → is_pawn_of side (Some (record { side = side; kind = k })) ≡ false → not (is_pawn k) ≡ true
    own White k f = rw f refl
    own Black k f = rw f refl

pawn_moves : (p : Parts) (m : Move) → man_at p.men m.from ≡ Some (record { side = p.side; kind = Pawn }) → moves_pawn p m ≡ false → ⊥
pawn_moves p m e f = let t = (Decides-pawn_of p.side (man_at p.men m.from)).1 e in let g = sym t ∙ f in cc

no_right : (r : Rights) (side : Side) (wing : Wing) → has_any_right r ≡ false → has_right r side wing ≡ false
no_right r side wing none = by_wing side wing (none_of r.white_king r.white_queen r.black_king r.black_queen none)
  where
    none_of : (a b c d : Bool) → (a || b || c || d) ≡ false → (a ≡ false) × (b ≡ false) × (c ≡ false) × (d ≡ false)
    none_of true b c d h = absurd (false≢true (sym h))
    none_of false true c d h = absurd (false≢true (sym h))
    none_of false false true d h = absurd (false≢true (sym h))
    none_of false false false d h = (refl, refl, refl, h)

    by_wing : (side : Side) (wing : Wing) → (r.white_king ≡ false) × (r.white_queen ≡ false) × (r.black_king ≡ false) × (r.black_queen ≡ false) → has_right r side wing ≡ false
    by_wing White KingSide h = h.0
    by_wing White QueenSide h = h.1
    by_wing Black KingSide h = h.2
    by_wing Black QueenSide h = h.3

-- what a quiet move does
pub record IsQuietAfter (p q : Parts) (m : Move) : Type 0 where
  pub men : q.men ≡ carried p.men m.from m.to (man_at p.men m.from)
  pub side : q.side ≡ other p.side
  pub from_board : m.from < 64
  pub to_board : m.to < 64
  pub apart : m.from ≢ m.to
  pub no_pawn : is_no_pawn (man_at p.men m.from) ≡ true
  pub empty : man_at p.men m.to ≡ None

nothing_taken : (o : Option Piece) (e : Bool) → (is_some o || e) ≡ false → o ≡ None
nothing_taken None e h = refl
nothing_taken (Some piece) e h = cc

after_plain : (p : Parts) (m : Move) → ((after p m Plain).men ≡ carried p.men m.from m.to (man_at p.men m.from)) × ((after p m Plain).side ≡ other p.side)
unfolding after
after_plain p m = (refl, refl)

by_rule : (p q : Parts) (m : Move) (c : MoveCase) → IsMove p m c → q ≡ after p m c → m.from < 64 → m.to < 64 → has_any_right p.rights ≡ false → moves_pawn p m ≡ false → is_capture p m ≡ false → IsQuietAfter p q m
by_rule p q m Plain r e lf lt rights a b = record {
  men = ap (λ (x : Parts). x.men) e ∙ (after_plain p m).0;
  side = ap (λ (x : Parts). x.side) e ∙ (after_plain p m).1;
  from_board = lf;
  to_board = lt;
  apart = moves_away p m Plain r;
  no_pawn = quiet_from p m r.kind (man_at p.men m.from) r.stands a;
  empty = nothing_taken (man_at p.men m.to) (is_en_passant p m) b;
}
by_rule p q m Advance r e lf lt rights a b = absurd (pawn_moves p m r.stands a)
by_rule p q m DoubleStep r e lf lt rights a b = absurd (pawn_moves p m r.stands a)
by_rule p q m PawnCapture r e lf lt rights a b = absurd (pawn_moves p m r.stands a)
by_rule p q m EnPassant r e lf lt rights a b = absurd (pawn_moves p m r.stands a)
by_rule p q m (Castle wing) r e lf lt rights a b = absurd (false≢true (sym (no_right p.rights p.side wing rights) ∙ r.right))

pub quiet_after : (p q : Parts) (m : Move) → has_any_right p.rights ≡ false → is_quiet p m ≡ true → position_after p m ≡ Some q → IsQuietAfter p q m
unfolding is_quiet
quiet_after p q m rights quiet e =
    let both = and_parts (not (moves_pawn p m)) (not (is_capture p m)) quiet in
    let l = position_legal p m q e in
    by_rule p q m l.case l.rule l.becomes l.from_board l.to_board rights (not_pawn (moves_pawn p m) both.0) (not_pawn (is_capture p m) both.1)

module _ (p q : Parts) (m : Move) (position : IsPosition p) (quiet : IsQuietAfter p q m) where
  codes_kept : SameCodes (codes_of (men_on q.men)) (codes_of (men_on p.men))
  codes_kept = rw quiet.men (same_counts p m.from m.to position quiet.from_board quiet.to_board quiet.apart quiet.empty)

  codes_exchanged : SameCodes (codes_of (exchanged (men_on q.men))) (codes_of (exchanged (men_on p.men)))
  codes_exchanged f = count_exchanged f (men_on q.men) ∙ codes_kept (λ c. f (other_side c)) ∙ sym (count_exchanged f (men_on p.men))

  any_kept : (T : Man → Bool) → ((piece : Piece) (s : ℕ) → is_pawn piece.kind ≡ false → T (man (code_of_man piece) s) ≡ false) → list_any T (men_on q.men) ≡ list_any T (men_on p.men)
  any_kept T blind = rw quiet.men (same_any T blind p.men m.from m.to quiet.apart quiet.no_pawn quiet.empty)

  pawns_kept : SamePawns (men_on q.men) (men_on p.men)
  unfolding stands
  pawns_kept = (
    (λ s. any_kept (λ x. eqb x.code 1 && eqb x.square s) (λ piece t e. rw (not_one piece.side piece.kind e) refl)),
    (λ s. any_kept (λ x. eqb x.code 9 && eqb x.square s) (λ piece t e. rw (not_nine piece.side piece.kind e) refl)),
  )

  pawns_exchanged : SamePawns (exchanged (men_on q.men)) (exchanged (men_on p.men))
  unfolding stands
  pawns_exchanged = (
    (λ s. list_any-map (λ x. eqb x.code 1 && eqb x.square s) (λ x. man (other_side x.code) (bottom_top x.square)) (men_on q.men)
        ∙ any_kept (λ x. eqb (other_side x.code) 1 && eqb (bottom_top x.square) s) (λ piece t e. rw (not_other_one piece.side piece.kind e) refl)
        ∙ sym (list_any-map (λ x. eqb x.code 1 && eqb x.square s) (λ x. man (other_side x.code) (bottom_top x.square)) (men_on p.men))),
    (λ s. list_any-map (λ x. eqb x.code 9 && eqb x.square s) (λ x. man (other_side x.code) (bottom_top x.square)) (men_on q.men)
        ∙ any_kept (λ x. eqb (other_side x.code) 9 && eqb (bottom_top x.square) s) (λ piece t e. rw (not_other_nine piece.side piece.kind e) refl)
        ∙ sym (list_any-map (λ x. eqb x.code 9 && eqb x.square s) (λ x. man (other_side x.code) (bottom_top x.square)) (men_on p.men))),
  )

  pub material_kept : material_of q ≡ material_of p
  unfolding material_of is_material
  material_kept = find-same (is_material (men_on q.men)) (is_material (men_on p.men)) (λ key. rw (named-same key (men_on q.men) (men_on p.men) codes_kept, named-same key (exchanged (men_on q.men)) (exchanged (men_on p.men)) codes_exchanged) refl) (range_with_len 0 145)

  -- unsymmetric material: the same file, and the other side
  pub other_side_asked : (key : ℕ) → is_symmetric key ≡ false → ((placed_of key q).file ≡ (placed_of key p).file) × ((placed_of key q).side ≡ other (placed_of key p).side)
  unfolding placed_of
  other_side_asked key unsymmetric = rw (unsymmetric, named-same key (men_on q.men) (men_on p.men) codes_kept, quiet.side) (by_exchange (not (is_named key (men_on p.men))) p.side)
    where
      by_exchange : (b : Bool) (side : Side) → ((if b then placement key (exchanged (men_on q.men)) (other (other side)) else placement key (men_on q.men) (other side)).file ≡ (if b then placement key (exchanged (men_on p.men)) (other side) else placement key (men_on p.men) side).file)
          × ((if b then placement key (exchanged (men_on q.men)) (other (other side)) else placement key (men_on q.men) (other side)).side ≡ other (if b then placement key (exchanged (men_on p.men)) (other side) else placement key (men_on p.men) side).side)
      by_exchange true side = (lead_file-same key (exchanged (men_on q.men)) (exchanged (men_on p.men)) pawns_exchanged, refl)
      by_exchange false side = (lead_file-same key (men_on q.men) (men_on p.men) pawns_kept, refl)
