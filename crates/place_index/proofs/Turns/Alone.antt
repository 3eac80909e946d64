-- A man that is the only one of its code, before and after all men are moved.
use Rattle.std.proofs.Common.{◌≡◌, ℕ, ◌<◌, true, List, [], ◌∷◌, length, slice_index, refl, sym, ap, ◌∙◌, arith}
use Rattle.place_index.specs.Material.{pieces_of, count_of}
use Rattle.place_index.specs.Men.{stands, squares_of, square_of, moved}
use Rattle.place_index.specs.declared.man.Man.{Man}
use Rattle.place_index.proofs.Counting.Falling.{falling_alone, falling_member, list_one}
use Rattle.place_index.proofs.Indices.Settled.{IsSettled}
use Rattle.place_index.proofs.Turns.Board.{IsMirroring, stands_moved}

-- the man with this code stands on this square and nowhere else
pub record IsAlone (men : List Man) (c s : ℕ) : Type 0 where
  pub board : s < 64
  pub here : stands men c s ≡ true
  pub only : (t : ℕ) → t < 64 → stands men c t ≡ true → t ≡ s

pub squares_of_alone : (men : List Man) (c s : ℕ) → IsAlone men c s → squares_of men c ≡ s ∷ []
unfolding squares_of
squares_of_alone men c s a = falling_alone (stands men c) 64 s a.board a.here a.only

pub square_of_alone : (men : List Man) (c s : ℕ) → IsAlone men c s → square_of men c ≡ s
square_of_alone men c s a = ap (λ l. slice_index l 0) (squares_of_alone men c s a)

-- a code of which the material has one man
one_square : (xs : List ℕ) → length xs ≡ 1 → (s : ℕ) × (xs ≡ s ∷ [])
one_square [] e = absurd (omega (arith, e))
one_square (s ∷ []) e = (s, refl)
one_square (s ∷ t ∷ xs) e = absurd (omega (arith, e))

pub alone_of_list : (men : List Man) (c s : ℕ) → squares_of men c ≡ s ∷ [] → IsAlone men c s
unfolding squares_of
alone_of_list men c s e =
    let m = falling_member (stands men c) 64 s [] e in
    record { board = m.1; here = m.0; only = λ t lt h. only t lt h }
  where
    only : (t : ℕ) → t < 64 → stands men c t ≡ true → t ≡ s
    only t lt h = list_one (stands men c) 64 s t e lt h

pub alone_of : (key : ℕ) (men : List Man) (c : ℕ) → IsSettled key men → count_of (pieces_of key) c ≡ 1 → (s : ℕ) × IsAlone men c s
alone_of key men c h one =
    let l = one_square (squares_of men c) (h.counts c ∙ one) in
    (l.0, alone_of_list men c l.0 l.1)

-- a lone man goes to the square opposite
pub alone_moved : (f : ℕ → ℕ) (men : List Man) (c s : ℕ) → IsMirroring f → ((c s : ℕ) → stands men c s ≡ true → s < 64) → IsAlone men c s → IsAlone (moved f men) c (f s)
alone_moved f men c s m board a = record {
  board = m.stays s a.board;
  here = stands_moved f men c (f s) m board (m.stays s a.board) ∙ ap (stands men c) (m.back s a.board) ∙ a.here;
  only = λ t lt h. sym (m.back t lt) ∙ ap f (a.only (f t) (m.stays t lt) (sym (stands_moved f men c t m board lt) ∙ h));
}
