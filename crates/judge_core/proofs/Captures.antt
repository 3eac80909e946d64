-- Captures: which are en passant, and that each takes a man.
use Rattle.std.proofs.Common.{◌≡◌, ◌∙◌, sym, ap, subst, refl, All, Bool, true, false, ◌&&◌, ◌||◌, not, is_some, is_none, List, [], ◌∷◌, Option, Some, None, filter, ◌+◌, arith, inl, inr}
use Rattle.std.specs.List.{list_all, list_any}
use Rattle.std.proofs.lemmas.List.Elements.{All-filter, filter_passes}
use Rattle.std.proofs.lemmas.Bool.{cases_Bool, and_parts}
use Rattle.board_core.specs.declared.piece.Piece.{Piece}
use Rattle.board_core.specs.declared.parts.Parts.{Parts}
use Rattle.board_core.specs.declared.moves.Move.{Move}
use Rattle.board_core.specs.Attack.{man_at}
use Rattle.board_core.specs.Position.{IsPosition}
use Rattle.board_core.specs.ComputedMoves.{has_some, has_legal_move, has_move_besides_en_passant, is_later, captures_after, is_square, is_en_passant, is_capture, legal_moves, legal_captures, position_after, count_of_men}
use Rattle.board_core.proofs.ComputedMoves.{position_legal}
use Rattle.board_core.proofs.ComputedMen.{capture_takes}
use Rattle.board_core.specs.Ends.{has_no_move}
use Rattle.judge_core.specs.Probing.{is_forced, are_en_passant}
use Rattle.judge_core.specs.Inside.Found.{lands_empty}

-- ---- filters

module _ {X : Type 0} where
  pub filter_same : (t f g : X → Bool) → ((x : X) → t x ≡ true → f x ≡ g x) → (xs : List X) → filter f (filter t xs) ≡ filter g (filter t xs)
  filter_same t f g h [] = refl
  filter_same t f g h (x ∷ xs) = step (filter_same t f g h xs) (t x) refl
    where
      step : filter f (filter t xs) ≡ filter g (filter t xs) → (b : Bool) → t x ≡ b → filter f (filter t (x ∷ xs)) ≡ filter g (filter t (x ∷ xs))
      step rest true e = rw (e, h x e, rest) refl
      step rest false e = rw e rest

-- ---- en passant

none_not_some : (o : Option Piece) → is_none o ≡ true → is_some o ≡ true → ⊥
none_not_some None a b = cc
none_not_some (Some x) a b = cc

pub passant_lands : (p : Parts) (m : Move) → is_en_passant p m ≡ true → lands_empty p m ≡ true
unfolding is_en_passant lands_empty
passant_lands p m h = (and_parts _ _ (and_parts _ _ h).0).1

pub passant_is_capture : (p : Parts) (m : Move) → is_en_passant p m ≡ true → is_capture p m ≡ true
passant_is_capture p m h = step (is_some (man_at p.men m.to))
  where
    step : (b : Bool) → (b || is_en_passant p m) ≡ true
    step true = refl
    step false = h

-- a capture that goes to an empty square is en passant
pub lands_passant : (p : Parts) (m : Move) → is_capture p m ≡ true → lands_empty p m ≡ true → is_en_passant p m ≡ true
unfolding lands_empty
lands_passant p m c e = step (man_at p.men m.to) c e
  where
    step : (o : Option Piece) → (is_some o || is_en_passant p m) ≡ true → is_none o ≡ true → is_en_passant p m ≡ true
    step None c e = c
    step (Some x) c e = cc

pub one_test : (p : Parts) (m : Move) → is_capture p m ≡ true → is_en_passant p m ≡ lands_empty p m
one_test p m c = elim (cases_Bool (lands_empty p m)) [
  | inl yes' ↦ lands_passant p m c yes' ∙ sym yes'
  | inr no' ↦ elim (cases_Bool (is_en_passant p m)) [
    | inl is ↦ is ∙ sym (passant_lands p m is)
    | inr is ↦ is ∙ sym no'
  ]
]

-- ---- the captures of a position

pub passants : (p : Parts) → filter (lands_empty p) (legal_captures p) ≡ filter (is_en_passant p) (legal_captures p)
passants p = filter_same (is_capture p) (lands_empty p) (is_en_passant p) (λ m c. sym (one_test p m c)) (legal_moves p)

pub others : (p : Parts) → filter (λ m. not (lands_empty p m)) (legal_captures p) ≡ filter (λ m. not (is_en_passant p m)) (legal_captures p)
others p = filter_same (is_capture p) (λ m. not (lands_empty p m)) (λ m. not (is_en_passant p m)) (λ m c. ap not (sym (one_test p m c))) (legal_moves p)

-- ---- en passant alone

-- without an en passant square no move is en passant
none_passes : (p : Parts) (m : Move) → p.en_passant ≡ None → is_en_passant p m ≡ true → ⊥
unfolding is_en_passant
none_passes p m none h =
    let passed : is_square p.en_passant m.to ≡ true = (and_parts _ _ (and_parts _ _ (and_parts _ _ h).0).0).1 in
    let never = rw none at passed in absurd cc

pub no_square : (p : Parts) → p.en_passant ≡ None → false ≡ is_forced p
unfolding is_forced
no_square p none = step (legal_moves p)
  where
    step : (ms : List Move) → false ≡ are_en_passant p ms
    step [] = refl
    step (m ∷ ms) = elim (cases_Bool (list_all (is_en_passant p) (m ∷ ms))) [
      | inl all ↦ absurd (none_passes p m none (and_parts (is_en_passant p m) (list_all (is_en_passant p) ms) all).0)
      | inr some ↦ sym some
    ]

all_not : (f : Move → Bool) (ms : List Move) → list_all f ms ≡ not (list_any (λ m. not (f m)) ms)
all_not f [] = refl
all_not f (m ∷ ms) = step (all_not f ms) (f m) refl
  where
    step : list_all f ms ≡ not (list_any (λ x. not (f x)) ms) → (b : Bool) → f m ≡ b → list_all f (m ∷ ms) ≡ not (list_any (λ x. not (f x)) (m ∷ ms))
    step rest true e = rw e rest
    step rest false e = rw e refl

forced_by : (p : Parts) → (has_legal_move p && not (has_move_besides_en_passant p)) ≡ is_forced p
unfolding is_forced has_legal_move has_move_besides_en_passant
forced_by p = step (legal_moves p)
  where
    step : (ms : List Move) → (has_some ms && not (list_any (λ m. not (is_en_passant p m)) ms)) ≡ are_en_passant p ms
    step [] = refl
    step (m ∷ ms) = sym (all_not (is_en_passant p) (m ∷ ms))

pub forced : (p : Parts) (some other : Bool) → some ≡ has_legal_move p → other ≡ has_move_besides_en_passant p → (some && not other) ≡ is_forced p
forced p some other s o = rw (s, o) (forced_by p)

pub unforced : (p : Parts) → false ≡ has_legal_move p → false ≡ is_forced p
unforced p s = forced p false (has_move_besides_en_passant p) s refl

-- ---- walking over captures

-- the next capture is one
pub is_captured : (p : Parts) (last : Option Move) (m : Move) (rest : List Move) → captures_after p last ≡ m ∷ rest → is_capture p m ≡ true
unfolding captures_after
is_captured p last m rest e =
    let all : All (λ x. is_capture p x ≡ true) (captures_after p last) = All-filter (is_later last) (λ x. is_capture p x ≡ true) (legal_captures p) (filter_passes (is_capture p) (legal_moves p)) in
    let there : All (λ x. is_capture p x ≡ true) (m ∷ rest) = subst (All (λ x. is_capture p x ≡ true)) e all in
    there 0 m (omega arith)

-- each capture takes a man
pub falls : (p q : Parts) (m : Move) → IsPosition p → is_capture p m ≡ true → position_after p m ≡ Some q → count_of_men q + 1 ≡ count_of_men p
falls p q m position c e = capture_takes p m q position (position_legal p m q e) c

-- ---- no legal move

none_in : (moves : List Move) → not (has_some moves) ≡ has_no_move moves
none_in [] = refl
none_in (m ∷ moves) = refl

pub no_move : (p : Parts) → not (has_legal_move p) ≡ has_no_move (legal_moves p)
unfolding has_legal_move
no_move p = none_in (legal_moves p)
