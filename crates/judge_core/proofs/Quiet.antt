-- Pawn steps and quiet moves, as the code tells them.
use Rattle.std.proofs.Common.{◌≡◌, ◌≢◌, ◌<◌, ◌∙◌, sym, ap, refl, ℕ, Bool, true, false, not, ◌&&◌, ◌||◌, is_some, is_none, List, [], ◌∷◌, Option, Some, None, filter, if◌then◌else◌, inl, inr, arith}
use Rattle.std.proofs.lemmas.Bool.{cases_Bool}
use Rattle.board_core.specs.declared.piece.Piece.{Piece}
use Rattle.board_core.specs.declared.piece.Side.{Side}
use Rattle.board_core.specs.declared.piece.Side.TheVariants.{White, Black}
use Rattle.board_core.specs.declared.piece.Kind.{Kind}
use Rattle.board_core.specs.declared.piece.Kind.TheVariants.{Pawn, King}
use Rattle.board_core.specs.declared.parts.Parts.{Parts}
use Rattle.board_core.specs.declared.moves.Move.{Move}
use Rattle.board_core.specs.declared.moves.MoveCase.{MoveCase}
use Rattle.board_core.specs.declared.moves.MoveCase.TheVariants.{Plain, Advance, DoubleStep, PawnCapture, EnPassant, Castle}
use Rattle.board_core.specs.Square.{file_of, apart}
use Rattle.board_core.specs.Attack.{man_at, Along, IsPawnAttack, forward}
use Rattle.board_core.specs.Moves.{IsMove}
use Rattle.std.specs.Int.{bit_at}
use Rattle.std.proofs.lemmas.Nat.Bits.{bit_at-zero}
use Rattle.board_core.specs.Sides.{IsOccupied}
use Rattle.board_core.specs.ComputedMoves.{position_after, is_en_passant, is_capture, is_pawn_of, is_pawn_move, is_legal, all_moves, legal_moves}
use Rattle.board_core.proofs.ComputedLists.{Decides-legal}
use Rattle.board_core.proofs.ComputedMoves.{position_legal, Decides-en_passant, Decides-pawn_of}
use Rattle.judge_core.specs.Inside.Found.{lands_empty}
use Rattle.judge_core.specs.Distances.{moves_pawn, is_pawn_step, is_quiet}
use Rattle.judge_core.proofs.Asking.{passing}

-- ---- quiet moves

-- a move of no pawn isn't en passant
pub not_passant : (p : Parts) (m : Move) → moves_pawn p m ≡ false → is_en_passant p m ≡ false
unfolding is_en_passant
not_passant p m e = rw e refl

-- it takes a man where one stands on its square
pub takes : (p : Parts) (m : Move) → moves_pawn p m ≡ false → is_capture p m ≡ not (lands_empty p m)
unfolding lands_empty
takes p m e = by_man (man_at p.men m.to)
  where
    by_man : (o : Option Piece) → (is_some o || is_en_passant p m) ≡ not (is_none o)
    by_man None = not_passant p m e
    by_man (Some man) = refl

pub quiet_test : (p : Parts) (m : Move) → is_quiet p m ≡ (not (moves_pawn p m) && lands_empty p m)
unfolding is_quiet
quiet_test p m = elim (cases_Bool (moves_pawn p m)) [
  | inl pawn ↦ rw pawn refl
  | inr other ↦ rw (other, takes p m other) (twice (lands_empty p m))
]
  where
    twice : (b : Bool) → not (not b) ≡ b
    twice true = refl
    twice false = refl

pub quiet_played : (p : Parts) (m : Move) (r : Option Parts) → moves_pawn p m ≡ false → lands_empty p m ≡ true → r ≡ position_after p m → r ≡ passing (is_quiet p) p m
quiet_played p m r a b e = rw (quiet_test p m, a, b) e

pub pawn_isnt_quiet : (p : Parts) (m : Move) → moves_pawn p m ≡ true → None ≡ passing (is_quiet p) p m
pawn_isnt_quiet p m a = rw (quiet_test p m, a) refl

pub taking_isnt_quiet : (p : Parts) (m : Move) → lands_empty p m ≡ false → None ≡ passing (is_quiet p) p m
taking_isnt_quiet p m b = rw (quiet_test p m, b) (by_pawn (moves_pawn p m))
  where
    by_pawn : (a : Bool) → None ≡ (if not a && false then position_after p m else None)
    by_pawn true = refl
    by_pawn false = refl

-- ---- pawn steps

-- squares one file apart aren't of one file
one_file_apart : (a b : ℕ) → apart a b ≡ 1 → a ≢ b
one_file_apart a b e same = absurd (omega (arith, e, same))

files_apart : (side : Side) (from to : ℕ) → IsPawnAttack side from to → file_of from ≢ file_of to
files_apart White from to a = one_file_apart (file_of from) (file_of to) a.0
files_apart Black from to a = one_file_apart (file_of from) (file_of to) a.0

on_file : (side : Side) (n from to : ℕ) → Along (forward side) n from to → file_of from ≡ file_of to
on_file White n from to a = sym a.0
on_file Black n from to a = sym a.0

pub same_file_takes_nothing : (p : Parts) (m : Move) → file_of m.from ≡ file_of m.to → lands_empty p m ≡ true → is_capture p m ≡ false
unfolding lands_empty
same_file_takes_nothing p m f e = by_man (man_at p.men m.to) e
  where
    by_man : (o : Option Piece) → is_none o ≡ true → (is_some o || is_en_passant p m) ≡ false
    by_man None e = elim (cases_Bool (is_en_passant p m)) [
      | inl t ↦ absurd (files_apart p.side m.from m.to ((Decides-en_passant p m).0 t).attacks f)
      | inr other ↦ other
    ]
    by_man (Some man) e = cc

abbrev kind_in : Option Piece → Kind
kind_in None = King
kind_in (Some man) = man.kind

-- a pawn that takes nothing stays on its file
pub stays : (p : Parts) (m : Move) (c : MoveCase) → IsMove p m c → moves_pawn p m ≡ true → is_capture p m ≡ false → file_of m.from ≡ file_of m.to
stays p m Plain r a b = absurd (r.no_pawn (ap kind_in (sym r.stands ∙ (Decides-pawn_of p.side (man_at p.men m.from)).0 a)))
stays p m Advance r a b = on_file p.side 1 m.from m.to r.ahead
stays p m DoubleStep r a b = on_file p.side 2 m.from m.to r.ahead
stays p m PawnCapture r a b = absurd (let b' = rw r.enemy.1 at b in cc)
stays p m EnPassant r a b = absurd (let t = (Decides-en_passant p m).1 r in taken (man_at p.men m.to) (is_en_passant p m) t b)
  where
    taken : (o : Option Piece) (e : Bool) → e ≡ true → (is_some o || e) ≡ false → ⊥
    taken None e t b = cc
    taken (Some man) e t b = cc
stays p m (Castle wing) r a b = absurd (let e : King ≡ Pawn = ap kind_in (sym r.stands ∙ (Decides-pawn_of p.side (man_at p.men m.from)).0 a) in cc)

pub step_played : (p : Parts) (m : Move) (r : Option Parts) → file_of m.from ≡ file_of m.to → moves_pawn p m ≡ true → lands_empty p m ≡ true → r ≡ position_after p m → r ≡ passing (is_pawn_step p) p m
unfolding is_pawn_step
step_played p m r f a b e = rw (a, same_file_takes_nothing p m f b) e

none_from : {X : Type 0} (o : Option X) → ((x : X) → o ≡ Some x → ⊥) → None ≡ o
none_from None h = refl
none_from (Some x) h = absurd (h x refl)

-- what isn't on one file, or is no pawn, or goes to a man, is no legal pawn step
pub no_step : (p : Parts) (m : Move) → (file_of m.from ≡ file_of m.to → moves_pawn p m ≡ true → lands_empty p m ≡ true → ⊥) → None ≡ passing (is_pawn_step p) p m
unfolding is_pawn_step lands_empty
no_step p m none = by_test (moves_pawn p m) (is_capture p m) refl refl
  where
    empty : (o : Option Piece) → (is_some o || is_en_passant p m) ≡ false → is_none o ≡ true
    empty None e = refl
    empty (Some man) e = cc

    by_test : (a b : Bool) → moves_pawn p m ≡ a → is_capture p m ≡ b → None ≡ (if a && not b then position_after p m else None)
    by_test true true ea eb = refl
    by_test false true ea eb = refl
    by_test false false ea eb = refl
    by_test true false ea eb = none_from (position_after p m) (λ q e. (let l = position_legal p m q e in none (stays p m l.case l.rule ea eb) ea (empty (man_at p.men m.to) eb)))

-- ---- pawns on the board

-- each pawn of the side to move stands on a square of the set
abbrev pub HasPawns : Parts → ℕ → Type 0
HasPawns p set = (s : ℕ) → s < 64 → is_pawn_of p.side (man_at p.men s) ≡ true → bit_at set s ≡ 1

pub all_men : (p : Parts) (set : ℕ) → IsOccupied p.men set → HasPawns p set
all_men p set all s lt e = (all s).1 (stands (man_at p.men s) e)
  where
    stands : (o : Option Piece) → is_pawn_of p.side o ≡ true → is_some o ≡ true
    stands None e = e
    stands (Some man) e = refl

pub pawnless : (p : Parts) (set : ℕ) → HasPawns p set → set ≡ 0 → (s : ℕ) → s < 64 → is_pawn_of p.side (man_at p.men s) ≡ false
pawnless p set has none s lt = elim (cases_Bool (is_pawn_of p.side (man_at p.men s))) [
  | inl yes' ↦ absurd (let a = has s lt yes' in let b = bit_at-zero s in let c = rw none at a in omega (arith, b, c))
  | inr no' ↦ no'
]

pub one_less : (p : Parts) (set set' at : ℕ) → HasPawns p set → is_pawn_of p.side (man_at p.men at) ≡ false → ((s : ℕ) → s < 64 → s ≢ at → bit_at set' s ≡ bit_at set s) → HasPawns p set'
one_less p set set' at has none kept s lt e = kept s lt (λ same. (let f = rw same at e in cc)) ∙ has s lt e

-- ---- no pawn, no pawn step

legal_from : (p : Parts) (m : Move) → is_legal p m ≡ true → m.from < 64
legal_from p m e = (let l = (Decides-legal p m).0 e in l.1.from_board)

pub no_steps_listed : (p : Parts) → ((s : ℕ) → s < 64 → is_pawn_of p.side (man_at p.men s) ≡ false) → filter (is_pawn_step p) (legal_moves p) ≡ []
unfolding legal_moves is_pawn_step
no_steps_listed p none = none_pass (is_legal p) (is_pawn_step p) (λ m e. rw (none m.from (legal_from p m e)) refl) all_moves
  where
    none_pass : (t f : Move → Bool) → ((m : Move) → t m ≡ true → f m ≡ false) → (ms : List Move) → filter f (filter t ms) ≡ []
    none_pass t f h [] = refl
    none_pass t f h (m ∷ ms) = step (none_pass t f h ms) (t m) refl
      where
        step : filter f (filter t ms) ≡ [] → (b : Bool) → t m ≡ b → filter f (filter t (m ∷ ms)) ≡ []
        step rest true e = rw (e, h m e) rest
        step rest false e = rw e rest

pub not_there : (p : Parts) (at : ℕ) (side : Side) (man : Option Piece) → side ≡ p.side → man ≡ man_at p.men at → is_pawn_of side man ≡ false → is_pawn_of p.side (man_at p.men at) ≡ false
not_there p at side man a b e = rw (← a, ← b) e

pub not_false : (b : Bool) → not b ≡ false → b ≡ true
not_false true e = refl
not_false false e = cc

-- ---- pawn steps among the moves of pawns

no_pawn_no_step : (p : Parts) (m : Move) → is_pawn_move p m ≡ false → is_pawn_step p m ≡ false
unfolding is_pawn_step
no_pawn_no_step p m e = rw e refl

pub steps_of_pawns : (p : Parts) (ms : List Move) → filter (is_pawn_step p) (filter (is_pawn_move p) ms) ≡ filter (is_pawn_step p) ms
steps_of_pawns p [] = refl
steps_of_pawns p (m ∷ ms) = by_pawn (steps_of_pawns p ms) (is_pawn_move p m) refl
  where
    by_pawn : filter (is_pawn_step p) (filter (is_pawn_move p) ms) ≡ filter (is_pawn_step p) ms → (b : Bool) → is_pawn_move p m ≡ b → filter (is_pawn_step p) (filter (is_pawn_move p) (m ∷ ms)) ≡ filter (is_pawn_step p) (m ∷ ms)
    by_pawn rest true e = rw e (ap (λ (xs : List Move). if is_pawn_step p m then m ∷ xs else xs) rest)
    by_pawn rest false e = rw (e, no_pawn_no_step p m e) rest
