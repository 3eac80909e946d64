use Rattle.std.proofs.Common.{ℕ, zero, suc, ◌≡◌, ◌<◌, ◌≤◌, ◌+◌, ◌*◌, ◌%◌, ◌⊎◌, List, [], ◌∷◌, Option, Some, None, Bool, true, is_some, ◌||◌, ◌≢◌, length, get_or, Decides, All, AllPairs, Contains, filter, refl, sym, ap, subst, not, ◌∙◌, arith, inl, inr}
use Rattle.std.specs.List.{list_any}
use Rattle.std.proofs.lemmas.List.Folds.{Any-from_list_any, list_any_at}
use Rattle.std.proofs.lemmas.Bool.Decides.{same_from_decides, Decides-not}
use Rattle.std.proofs.lemmas.Bool.{cases_eq, cases_Bool}
use Rattle.std.proofs.lemmas.List.Elements.{All-nil, All-cons, All-weaker, All-filter, All-contains, filter_passes}
use Rattle.std.proofs.lemmas.List.Kept.{AllPairs-filter, AllPairs-cons}
use Rattle.board_core.specs.declared.piece.Piece.{Piece}
use Rattle.board_core.specs.Attack.{man_at}
use Rattle.board_core.specs.declared.parts.Parts.{Parts}
use Rattle.board_core.specs.declared.moves.Move.{Move}
use Rattle.board_core.specs.Moves.{IsLegal, HasLegal, IsEnPassant, IsCapture, IsLegalCapture, HasLegalCaptures, IsLegalPawnMove, HasLegalPawnMoves, place_of, promotion_place}
use Rattle.board_core.specs.ComputedMoves.{position_after, is_legal, promotion_at, move_at, moves_from, all_moves, legal_moves, has_some, has_legal_move, is_capture, legal_captures, is_pawn_move, legal_pawn_moves, is_en_passant, has_move_besides_en_passant}
use Rattle.board_core.proofs.Listing.{promotion_below, same_place}
use Rattle.board_core.proofs.ComputedMoves.{position_legal, legal_position, Decides-en_passant, Decides-pawn_of}

pub promotion_back : (k : ℕ) → k < 5 → promotion_place (promotion_at k) ≡ k
promotion_back zero lt = refl
promotion_back (suc zero) lt = refl
promotion_back (suc (suc zero)) lt = refl
promotion_back (suc (suc (suc zero))) lt = refl
promotion_back (suc (suc (suc (suc n)))) lt = omega arith

place_back : (n : ℕ) → place_of (move_at n) ≡ n
place_back n = let k = promotion_back (n % 5) (omega arith) in omega arith

move_back : (m : Move) → m.to < 64 → move_at (place_of m) ≡ m
move_back m lt = same_place (move_at (place_of m)) m (omega arith) lt (place_back (place_of m))

Contains-later : {X : Type 0} (x : X) (xs : List X) (y : X) → Contains xs y → Contains (x ∷ xs) y
Contains-later x xs y h = (suc h.0, omega (arith, h.1), h.2)

moves_from-later : (n k : ℕ) → All (λ m. k ≤ place_of m) (moves_from k n)
unfolding moves_from
moves_from-later zero k = All-nil (λ m. k ≤ place_of m)
moves_from-later (suc n) k =
    let after = moves_from-later n (k + 1) in
    All-cons (λ m. k ≤ place_of m) (move_at k) (moves_from (k + 1) n) (omega (arith, place_back k)) (λ i d lt. omega (arith, after i d lt))

moves_from-ordered : (n k : ℕ) → AllPairs (λ a b. place_of a < place_of b) (moves_from k n)
unfolding moves_from
moves_from-ordered zero k = λ i j d less lt. absurd (omega arith)
moves_from-ordered (suc n) k =
    let after = moves_from-later n (k + 1) in
    AllPairs-cons (λ a b. place_of a < place_of b) (move_at k) (moves_from (k + 1) n) (λ i d lt. omega (arith, after i d lt, place_back k)) (moves_from-ordered n (k + 1))

moves_from-complete : (n k : ℕ) (m : Move) → m.to < 64 → k ≤ place_of m → place_of m < k + n → Contains (moves_from k n) m
unfolding moves_from
moves_from-complete zero k m lt low high = absurd (omega arith)
moves_from-complete (suc n) k m lt low high = elim (cases_eq (place_of m) k) [
  | inl here ↦ (0, omega arith, rw here at (move_back m lt))
  | inr there ↦ Contains-later (move_at k) (moves_from (k + 1) n) m (moves_from-complete n (k + 1) m lt (omega arith) (omega arith))
]

pub some_value : {X : Type 0} (o : Option X) → is_some o ≡ true → (x : X) × (o ≡ Some x)
some_value None e = absurd (let f = e in cc)
some_value (Some x) e = (x, refl)

value_some : {X : Type 0} (o : Option X) (x : X) → o ≡ Some x → is_some o ≡ true
value_some o x e = rw e refl

pub Decides-legal : (p : Parts) (m : Move) → Decides (is_legal p m) (IsLegal p m)
Decides-legal p m = (
  λ e. let q = some_value (position_after p m) e in (q.0, position_legal p m q.0 q.1),
  λ l. value_some (position_after p m) l.0 (legal_position p m l.0 l.1),
)

Contains-first_at : {X : Type 0} (x : X) (xs : List X) (y : X) (k : ℕ) → k < length (x ∷ xs) → get_or (x ∷ xs) k y ≡ y → (x ≡ y) ⊎ Contains xs y
Contains-first_at x xs y zero lt e = inl e
Contains-first_at x xs y (suc k) lt e = inr (k, omega arith, e)

pub Contains-first : {X : Type 0} (x : X) (xs : List X) (y : X) → Contains (x ∷ xs) y → (x ≡ y) ⊎ Contains xs y
Contains-first x xs y h = Contains-first_at x xs y h.0 h.1 h.2

Contains-filter : {X : Type 0} (test : X → Bool) (xs : List X) (y : X) → Contains xs y → test y ≡ true → Contains (filter test xs) y
Contains-filter test [] y h t = absurd (omega (arith, h.1))
Contains-filter test (x ∷ xs) y h t = elim (cases_Bool (test x)) [
  | inl a ↦ rw a (elim (Contains-first x xs y h) [
    | inl e ↦ (0, omega arith, e)
    | inr later ↦ Contains-later x (filter test xs) y (Contains-filter test xs y later t)
  ])
  | inr b ↦ rw b (elim (Contains-first x xs y h) [
    | inl e ↦ let f = rw e at b in let g = sym f ∙ t in absurd cc
    | inr later ↦ Contains-filter test xs y later t
  ])
]

-- the computed list has the legal moves
pub HasLegal-moves : (p : Parts) → HasLegal p (legal_moves p)
unfolding legal_moves all_moves
HasLegal-moves p = record {
  ordered = AllPairs-filter (λ a b. place_of a < place_of b) (is_legal p) (moves_from 0 (64 * 320)) (moves_from-ordered (64 * 320) 0);
  sound = All-weaker (λ m. is_legal p m ≡ true) (IsLegal p) (λ m e. (Decides-legal p m).0 e) _ (filter_passes (is_legal p) (moves_from 0 (64 * 320)));
  complete = λ m l.
      let k = promotion_below m.promotion in
      Contains-filter (is_legal p) (moves_from 0 (64 * 320)) m (moves_from-complete (64 * 320) 0 m l.1.to_board (omega arith) (omega (arith, l.1.to_board, l.1.from_board))) ((Decides-legal p m).1 l);
}

-- two lists that ascend by place and have the same moves are one
same_ascending : (xs ys : List Move) → AllPairs (λ a b. place_of a < place_of b) xs → AllPairs (λ a b. place_of a < place_of b) ys → ((m : Move) → Contains xs m → Contains ys m) → ((m : Move) → Contains ys m → Contains xs m) → xs ≡ ys
same_ascending [] [] h k f g = refl
same_ascending [] (y ∷ ys) h k f g = absurd (let c = g y (0, omega arith, refl) in omega (arith, c.1))
same_ascending (x ∷ xs) [] h k f g = absurd (let c = f x (0, omega arith, refl) in omega (arith, c.1))
same_ascending (x ∷ xs) (y ∷ ys) h k f g =
    let after_x : All (λ m. place_of x < place_of m) xs = λ i d lt. h 0 (suc i) d (omega arith) (omega arith) in
    let after_y : All (λ m. place_of y < place_of m) ys = λ i d lt. k 0 (suc i) d (omega arith) (omega arith) in
    let same : x ≡ y = elim (Contains-first y ys x (f x (0, omega arith, refl))) [
      | inl e ↦ sym e
      | inr late ↦ elim (Contains-first x xs y (g y (0, omega arith, refl))) [
        | inl e ↦ e
        | inr later ↦
            let a = All-contains (λ m. place_of y < place_of m) ys x after_y late in
            let b = All-contains (λ m. place_of x < place_of m) xs y after_x later in
            absurd (omega arith)
      ]
    ] in
    let rest : xs ≡ ys = same_ascending xs ys
    (λ i j d less lt. h (suc i) (suc j) d (omega arith) (omega arith))
    (λ i j d less lt. k (suc i) (suc j) d (omega arith) (omega arith))
    (λ m c. elim (Contains-first y ys m (f m (Contains-later x xs m c))) [
      | inl e ↦ absurd (let a = All-contains (λ m. place_of x < place_of m) xs m after_x c in let b = ap place_of (same ∙ e) in omega arith)
      | inr later ↦ later
    ])
    (λ m c. elim (Contains-first x xs m (g m (Contains-later y ys m c))) [
      | inl e ↦ absurd (let a = All-contains (λ m. place_of y < place_of m) ys m after_y c in let b = ap place_of (sym same ∙ e) in omega arith)
      | inr later ↦ later
    ]) in
    rw (same, rest) refl

-- there is one list of the legal moves
pub one_list : (p : Parts) (xs ys : List Move) → HasLegal p xs → HasLegal p ys → xs ≡ ys
one_list p xs ys h k =
    same_ascending xs ys h.ordered k.ordered
    (λ m c. k.complete m (All-contains (IsLegal p) xs m h.sound c))
    (λ m c. h.complete m (All-contains (IsLegal p) ys m k.sound c))

pub listed : (p : Parts) (xs : List Move) → HasLegal p xs → xs ≡ legal_moves p
listed p xs h = one_list p xs (legal_moves p) h (HasLegal-moves p)

capture_to : (o : Option Piece) (b : Bool) (E : Type 0) → (b ≡ true → E) → (is_some o || b) ≡ true → (o ≢ None) ⊎ E
capture_to None b E f e = inr (f e)
capture_to (Some man) b E f e = inl (λ none. let x = none in cc)

capture_back : (o : Option Piece) (b : Bool) (E : Type 0) → (E → b ≡ true) → (o ≢ None) ⊎ E → (is_some o || b) ≡ true
capture_back None b E f (inl there) = absurd (there refl)
capture_back None b E f (inr x) = f x
capture_back (Some man) b E f h = refl

pub Decides-capture : (p : Parts) (m : Move) → Decides (is_capture p m) (IsCapture p m)
Decides-capture p m = (
  capture_to (man_at p.men m.to) (is_en_passant p m) (IsEnPassant p m) (Decides-en_passant p m).0,
  capture_back (man_at p.men m.to) (is_en_passant p m) (IsEnPassant p m) (Decides-en_passant p m).1,
)

pub HasLegalCaptures-filter : (p : Parts) (xs : List Move) → HasLegal p xs → HasLegalCaptures p (filter (is_capture p) xs)
HasLegalCaptures-filter p xs h =
    let kept = All-filter (is_capture p) (IsLegal p) xs h.sound in
    let taking = filter_passes (is_capture p) xs in
    record {
      ordered = AllPairs-filter (λ a b. place_of a < place_of b) (is_capture p) xs h.ordered;
      sound = λ k d lt. (kept k d lt, (Decides-capture p _).0 (taking k d lt));
      complete = λ m l. Contains-filter (is_capture p) xs m (h.complete m l.0) ((Decides-capture p m).1 l.1);
    }

-- there is one list of the legal captures
pub one_list_of_captures : (p : Parts) (xs ys : List Move) → HasLegalCaptures p xs → HasLegalCaptures p ys → xs ≡ ys
one_list_of_captures p xs ys h k =
    same_ascending xs ys h.ordered k.ordered
    (λ m c. k.complete m (All-contains (IsLegalCapture p) xs m h.sound c))
    (λ m c. h.complete m (All-contains (IsLegalCapture p) ys m k.sound c))

pub HasLegalCaptures-moves : (p : Parts) → HasLegalCaptures p (legal_captures p)
HasLegalCaptures-moves p = HasLegalCaptures-filter p (legal_moves p) (HasLegal-moves p)

pub captures_listed : (p : Parts) (xs : List Move) → HasLegalCaptures p xs → xs ≡ legal_captures p
captures_listed p xs h = one_list_of_captures p xs (legal_captures p) h (HasLegalCaptures-moves p)

pub some_capture : (p : Parts) (m : Move) → IsLegalCapture p m → legal_captures p ≢ []
some_capture p m l none = let c = (HasLegalCaptures-moves p).complete m l in let lt = rw none at c.1 in absurd (omega arith)

-- ---- moves of pawns

HasLegalPawnMoves-filter : (p : Parts) (xs : List Move) → HasLegal p xs → HasLegalPawnMoves p (filter (is_pawn_move p) xs)
HasLegalPawnMoves-filter p xs h =
    let kept = All-filter (is_pawn_move p) (IsLegal p) xs h.sound in
    let pawns = filter_passes (is_pawn_move p) xs in
    record {
      ordered = AllPairs-filter (λ a b. place_of a < place_of b) (is_pawn_move p) xs h.ordered;
      sound = λ k d lt. (kept k d lt, (Decides-pawn_of p.side (man_at p.men (get_or (filter (is_pawn_move p) xs) k d).from)).0 (pawns k d lt));
      complete = λ m l. Contains-filter (is_pawn_move p) xs m (h.complete m l.0) ((Decides-pawn_of p.side (man_at p.men m.from)).1 l.1);
    }

HasLegalPawnMoves-moves : (p : Parts) → HasLegalPawnMoves p (legal_pawn_moves p)
HasLegalPawnMoves-moves p = HasLegalPawnMoves-filter p (legal_moves p) (HasLegal-moves p)

-- there is one list of the legal moves of pawns
pub pawn_moves_listed : (p : Parts) (xs : List Move) → HasLegalPawnMoves p xs → xs ≡ legal_pawn_moves p
pawn_moves_listed p xs h =
    let k = HasLegalPawnMoves-moves p in
    same_ascending xs (legal_pawn_moves p) h.ordered k.ordered
    (λ m c. k.complete m (All-contains (IsLegalPawnMove p) xs m h.sound c))
    (λ m c. h.complete m (All-contains (IsLegalPawnMove p) (legal_pawn_moves p) m k.sound c))

pub some_pawn_move : (p : Parts) (m : Move) → IsLegalPawnMove p m → legal_pawn_moves p ≢ []
some_pawn_move p m l none = let c = (HasLegalPawnMoves-moves p).complete m l in let lt = rw none at c.1 in absurd (omega arith)

-- what decides that a move is legal is the computed test
pub legal_computed : (p : Parts) (m : Move) (r : Bool) → Decides r (IsLegal p m) → r ≡ is_legal p m
legal_computed p m r h = same_from_decides r (is_legal p m) h (Decides-legal p m)

-- the computed list has a move exactly where some move is legal
has_some_of : (p : Parts) (moves : List Move) → HasLegal p moves → Decides (has_some moves) ((m : Move) × IsLegal p m)
has_some_of p [] h = (λ t. absurd (let f = t in cc), λ a. absurd (let lt = (h.complete a.0 a.1).1 in omega arith))
has_some_of p (m ∷ moves) h = (λ _. (m, h.sound 0 m (omega arith)), λ _. refl)

pub some_computed : (p : Parts) (r : Bool) → Decides r ((m : Move) × IsLegal p m) → r ≡ has_legal_move p
unfolding has_legal_move
some_computed p r h = same_from_decides r (has_some (legal_moves p)) h (has_some_of p (legal_moves p) (HasLegal-moves p))

-- and so for a move other than en passant
abbrev besides : Parts → Move → Bool
besides p m = not (is_en_passant p m)

Decides-besides : (p : Parts) (m : Move) → Decides (besides p m) (IsEnPassant p m → ⊥)
Decides-besides p m = Decides-not (is_en_passant p m) (Decides-en_passant p m)

besides_of : (p : Parts) (moves : List Move) → HasLegal p moves → Decides (list_any (besides p) moves) ((m : Move) × IsLegal p m × (IsEnPassant p m → ⊥))
besides_of p moves h = (
  λ t. let a = Any-from_list_any (besides p) moves t in (a.1, subst (IsLegal p) a.3 (h.sound a.0 a.1 a.2), (Decides-besides p a.1).0 a.4),
  λ a. let c = h.complete a.0 a.1 in list_any_at (besides p) moves c.0 a.0 c.1 (ap (besides p) c.2 ∙ (Decides-besides p a.0).1 a.2),
)

pub besides_computed : (p : Parts) (r : Bool) → Decides r ((m : Move) × IsLegal p m × (IsEnPassant p m → ⊥)) → r ≡ has_move_besides_en_passant p
unfolding has_move_besides_en_passant
besides_computed p r h = same_from_decides r (list_any (besides p) (legal_moves p)) h (besides_of p (legal_moves p) (HasLegal-moves p))
