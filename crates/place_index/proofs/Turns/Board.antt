-- Where men stand, before and after all are moved.
use Rattle.std.proofs.Common.{◌≡◌, ◌≢◌, ℕ, zero, suc, ◌+◌, ◌*◌, ◌/◌, ◌%◌, ◌<◌, ◌≤◌, ◌⊎◌, Bool, true, false, eqb, ltb, List, [], ◌∷◌, length, refl, sym, ap, ◌∙◌, subst, inl, inr, arith}
use Rattle.std.specs.Prelude.{◌&&◌, ◌||◌}
use Rattle.std.specs.List.Sorted.{IsPermutation}
use Rattle.std.proofs.lemmas.Bool.{cases_eq, cases_Bool, eq-eqb, ne_eqb, eqb-true, lt-ltb, le-ltb, and_parts, or_right, or_cases, false≢true, agree_below_at}
use Rattle.place_index.specs.Square.{rank, left_right, bottom_top, across}
use Rattle.place_index.specs.Material.{count_of, pieces_of}
use Rattle.place_index.specs.Men.{man, codes_of, stands, falling, squares_of, moved}
use Rattle.place_index.specs.Inside.ShortLists.{inserted}
use Rattle.place_index.specs.Kings.{kings_apart}
use Rattle.place_index.specs.Choose.{IsFallingBelow}
use Rattle.place_index.specs.Shape.{is_pawn_code}
use Rattle.place_index.specs.Index.{AreAlone, IsPlacement}
use Rattle.place_index.specs.declared.man.Man.{Man}
use Rattle.place_index.proofs.Materials.Arranging.{count_nil, count_hit, count_miss, count_arranged}
use Rattle.place_index.proofs.Counting.Falling.{falling_hit, falling_miss, falling_falls, falling_same}
use Rattle.place_index.proofs.Indices.Settled.{IsSettled, squares_same}

pub stands_cons : (m : Man) (men : List Man) (c s : ℕ) → stands (m ∷ men) c s ≡ (eqb m.code c && eqb m.square s) || stands men c s
unfolding stands
stands_cons m men c s = refl

pub stands_nil : (c s : ℕ) → stands [] c s ≡ false
unfolding stands
stands_nil c s = refl

pub stands_here : (m : Man) (men : List Man) → stands (m ∷ men) m.code m.square ≡ true
stands_here m men = stands_cons m men m.code m.square ∙ rw (eq-eqb m.code m.code refl, eq-eqb m.square m.square refl) refl

pub stands_later : (m : Man) (men : List Man) (c s : ℕ) → stands men c s ≡ true → stands (m ∷ men) c s ≡ true
stands_later m men c s h = stands_cons m men c s ∙ or_right (eqb m.code c && eqb m.square s) (stands men c s) h

-- a man that stands is the first one or one of the rest
abbrev pub IsFirst : Man → ℕ → ℕ → Type 0
IsFirst m c s = (m.code ≡ c) × (m.square ≡ s)

pub stands_cases : (m : Man) (men : List Man) (c s : ℕ) → stands (m ∷ men) c s ≡ true → IsFirst m c s ⊎ (stands men c s ≡ true)
stands_cases m men c s h =
    elim (or_cases (eqb m.code c && eqb m.square s) (stands men c s) (sym (stands_cons m men c s) ∙ h)) [
      | inl here ↦ let both = and_parts (eqb m.code c) (eqb m.square s) here in inl (eqb-true m.code c both.0, eqb-true m.square s both.1)
      | inr later ↦ inr later
    ]

pub stands_other_square : (m : Man) (men : List Man) (c s : ℕ) → m.square ≢ s → stands (m ∷ men) c s ≡ stands men c s
stands_other_square m men c s ne = stands_cons m men c s ∙ other (eqb m.code c)
  where
    other : (b : Bool) → ((b && eqb m.square s) || stands men c s) ≡ stands men c s
    other true = rw (ne_eqb m.square s ne) refl
    other false = refl

pub stands_other_code : (m : Man) (men : List Man) (c s : ℕ) → m.code ≢ c → stands (m ∷ men) c s ≡ stands men c s
stands_other_code m men c s ne = stands_cons m men c s ∙ rw (ne_eqb m.code c ne) refl

pub stands_same_code : (m : Man) (men : List Man) (c s : ℕ) → m.code ≡ c → stands (m ∷ men) c s ≡ eqb m.square s || stands men c s
stands_same_code m men c s e = stands_cons m men c s ∙ rw (eq-eqb m.code c e) refl

-- ---- one number more in a falling list

pub inserted_top : (s : ℕ) (xs : List ℕ) → IsFallingBelow s xs → inserted s xs ≡ s ∷ xs
unfolding inserted
inserted_top s [] f = refl
inserted_top s (x ∷ xs) f = rw (lt-ltb x s f.0) refl

pub inserted_below : (s x : ℕ) (xs : List ℕ) → s ≤ x → inserted s (x ∷ xs) ≡ x ∷ inserted s xs
unfolding inserted
inserted_below s x xs le = rw (le-ltb x s le) refl

pub length_inserted : (s : ℕ) (xs : List ℕ) → length (inserted s xs) ≡ suc (length xs)
unfolding inserted
length_inserted s [] = refl
length_inserted s (x ∷ xs) = elim (cases_Bool (ltb x s)) [ inl t ↦ rw t refl | inr f ↦ rw f (ap suc (length_inserted s xs)) ]

pub falling_inserted : (test : ℕ → Bool) (s n : ℕ) → test s ≡ false → s < n → falling (λ t. eqb s t || test t) n ≡ inserted s (falling test n)
falling_inserted test s zero fails lt = absurd (omega (arith, lt))
falling_inserted test s (suc n) fails lt =
    elim (cases_eq s n) [
      | inl e ↦
          let more : falling (λ t. eqb s t || test t) (suc n) ≡ n ∷ falling (λ t. eqb s t || test t) n = falling_hit (λ t. eqb s t || test t) n (rw (eq-eqb s n e) refl) in
          let rest : falling (λ t. eqb s t || test t) n ≡ falling test n = falling_same (λ t. eqb s t || test t) test n (λ t below. rw (ne_eqb s t (λ same. omega (arith, same, e, below))) refl) in
          let miss : falling test (suc n) ≡ falling test n = falling_miss test n (ap test (sym e) ∙ fails) in
          more ∙ ap (λ l. n ∷ l) rest ∙ ap (λ x. x ∷ falling test n) (sym e) ∙ sym (inserted_top s (falling test n) (subst (λ k. IsFallingBelow k (falling test n)) (sym e) (falling_falls test n))) ∙ ap (inserted s) (sym miss)
      | inr ne ↦
          let below : s < n = omega (arith, lt, ne) in
          elim (cases_Bool (test n)) [
            | inl t ↦
                falling_hit (λ t. eqb s t || test t) n (or_right (eqb s n) (test n) t) ∙ ap (λ l. n ∷ l) (falling_inserted test s n fails below)
                ∙ sym (inserted_below s n (falling test n) (omega (arith, below))) ∙ ap (inserted s) (sym (falling_hit test n t))
            | inr f ↦
                falling_miss (λ t. eqb s t || test t) n (rw (ne_eqb s n ne) f) ∙ falling_inserted test s n fails below ∙ ap (inserted s) (sym (falling_miss test n f))
          ]
    ]

pub squares_more : (m : Man) (men : List Man) (c : ℕ) → m.code ≡ c → m.square < 64 → stands men c m.square ≡ false → squares_of (m ∷ men) c ≡ inserted m.square (squares_of men c)
unfolding squares_of
squares_more m men c e lt free =
    falling_same (stands (m ∷ men) c) (λ t. eqb m.square t || stands men c t) 64 (λ s below. stands_same_code m men c s e)
    ∙ falling_inserted (stands men c) m.square 64 free lt

pub squares_still : (m : Man) (men : List Man) (c : ℕ) → m.code ≢ c → squares_of (m ∷ men) c ≡ squares_of men c
squares_still m men c ne = squares_same (m ∷ men) men c (λ s below. stands_other_code m men c s ne)

squares_nil : (c : ℕ) → squares_of [] c ≡ []
unfolding squares_of falling stands
squares_nil c = refl

-- each code stands on as many squares as there are men of it
pub squares_counted : (men : List Man) (c : ℕ) → AreAlone men → ((c s : ℕ) → stands men c s ≡ true → s < 64) → length (squares_of men c) ≡ count_of (codes_of men) c
squares_counted [] c a board = rw (squares_nil c) (sym (count_nil c))
squares_counted (m ∷ men) c a board =
    let rest = squares_counted men c a.1 (λ d s h. board d s (stands_later m men d s h)) in
    elim (cases_eq m.code c) [
      | inl e ↦
          let more = squares_more m men c e (board m.code m.square (stands_here m men)) (a.0 c) in
          omega (arith, ap length more, length_inserted m.square (squares_of men c), rest, count_hit m.code (codes_of men), ap (count_of (m.code ∷ codes_of men)) e, ap (count_of (codes_of men)) e)
      | inr ne ↦ omega (arith, ap length (squares_still m men c ne), rest, count_miss m.code (codes_of men) c ne)
    ]

-- one man on a square
alone_once : (men : List Man) (c d s : ℕ) → AreAlone men → stands men c s ≡ true → stands men d s ≡ true → c ≡ d
alone_once [] c d s a h k = absurd (false≢true (sym (stands_nil c s) ∙ h))
alone_once (m ∷ men) c d s a h k =
    elim (stands_cases m men c s h) [
      | inl first ↦ elim (stands_cases m men d s k) [
        | inl other ↦ sym first.0 ∙ other.0
        | inr later ↦ absurd (false≢true (sym (a.0 d) ∙ ap (stands men d) first.1 ∙ later))
      ]
      | inr late ↦ elim (stands_cases m men d s k) [
        | inl other ↦ absurd (false≢true (sym (a.0 c) ∙ ap (stands men c) other.1 ∙ late))
        | inr later ↦ alone_once men c d s a.1 late later
      ]
    ]

pawn_square_range : (s : ℕ) → s < 64 → 1 ≤ rank s → rank s ≤ 6 → (8 ≤ s) × (s < 56)
pawn_square_range s lt least most = (omega (arith, least), omega (arith, most))

pub settled : (key : ℕ) (men : List Man) → IsPlacement key men → IsSettled key men
settled key men p = record {
  board = p.board;
  once = λ c d s. alone_once men c d s p.alone;
  counts = λ c. squares_counted men c p.alone p.board ∙ count_arranged (codes_of men) (pieces_of key) c p.material;
  pawns = λ c s pawn h. let r = p.pawns c s pawn h in pawn_square_range s (p.board c s h) r.0 r.1;
  kings = p.kings;
}

-- ---- men moved

-- each square goes to another one, and back from there
pub record IsMirroring (f : ℕ → ℕ) : Type 0 where
  pub stays : (s : ℕ) → s < 64 → f s < 64
  pub back : (s : ℕ) → s < 64 → f (f s) ≡ s
  pub apart : (a b : ℕ) → a < 64 → b < 64 → kings_apart (f a) (f b) ≡ kings_apart a b

same_square : (f : ℕ → ℕ) → IsMirroring f → (s t : ℕ) → s < 64 → t < 64 → eqb (f s) t ≡ eqb s (f t)
same_square f m s t ls lt =
    elim (cases_eq s (f t)) [
      | inl e ↦ eq-eqb (f s) t (ap f e ∙ m.back t lt) ∙ sym (eq-eqb s (f t) e)
      | inr ne ↦ ne_eqb (f s) t (λ e. ne (sym (m.back s ls) ∙ ap f e)) ∙ sym (ne_eqb s (f t) ne)
    ]

pub stands_moved : (f : ℕ → ℕ) (men : List Man) (c t : ℕ) → IsMirroring f → ((c s : ℕ) → stands men c s ≡ true → s < 64) → t < 64 → stands (moved f men) c t ≡ stands men c (f t)
stands_moved f [] c t m board lt = stands_nil c t ∙ sym (stands_nil c (f t))
stands_moved f (x ∷ men) c t m board lt =
    stands_cons (man x.code (f x.square)) (moved f men) c t
    ∙ ap (λ b. (eqb x.code c && b) || stands (moved f men) c t) (same_square f m x.square t (board x.code x.square (stands_here x men)) lt)
    ∙ ap (λ b. (eqb x.code c && eqb x.square (f t)) || b) (stands_moved f men c t m (λ d s h. board d s (stands_later x men d s h)) lt)
    ∙ sym (stands_cons x men c (f t))

pub moved_board : (f : ℕ → ℕ) (men : List Man) → IsMirroring f → ((c s : ℕ) → stands men c s ≡ true → s < 64) → (c s : ℕ) → stands (moved f men) c s ≡ true → s < 64
moved_board f [] m board c s h = absurd (false≢true (sym (stands_nil c s) ∙ h))
moved_board f (x ∷ men) m board c s h =
    elim (stands_cases (man x.code (f x.square)) (moved f men) c s h) [
      | inl first ↦ omega (arith, first.1, m.stays x.square (board x.code x.square (stands_here x men)))
      | inr later ↦ moved_board f men m (λ d t k. board d t (stands_later x men d t k)) c s later
    ]

pub moved_alone : (f : ℕ → ℕ) (men : List Man) → IsMirroring f → ((c s : ℕ) → stands men c s ≡ true → s < 64) → AreAlone men → AreAlone (moved f men)
moved_alone f [] m board a = tt
moved_alone f (x ∷ men) m board a =
    let on = board x.code x.square (stands_here x men) in
    let rest : (d s : ℕ) → stands men d s ≡ true → s < 64 = λ d s h. board d s (stands_later x men d s h) in
    ((λ c. stands_moved f men c (f x.square) m rest (m.stays x.square on) ∙ ap (stands men c) (m.back x.square on) ∙ a.0 c), moved_alone f men m rest a.1)

codes_moved : (f : ℕ → ℕ) (men : List Man) → codes_of (moved f men) ≡ codes_of men
codes_moved f [] = refl
codes_moved f (x ∷ men) = ap (λ l. x.code ∷ l) (codes_moved f men)

pub moved_placement : (f : ℕ → ℕ) (key : ℕ) (men : List Man) → IsMirroring f → ((c s : ℕ) → is_pawn_code c ≡ true → stands men c s ≡ true → (1 ≤ rank (f s)) × (rank (f s) ≤ 6)) → IsPlacement key men
    → IsPlacement key (moved f men)
moved_placement f key men m pawns p =
    let board = moved_board f men m p.board in
    record {
      material = subst (λ l. IsPermutation l (pieces_of key)) (sym (codes_moved f men)) p.material;
      alone = moved_alone f men m p.board p.alone;
      board = board;
      pawns = λ c s pawn h.
          let lt = board c s h in
          let at = pawns c (f s) pawn (sym (stands_moved f men c s m p.board lt) ∙ h) in
          subst (λ t. (1 ≤ rank t) × (rank t ≤ 6)) (m.back s lt) at;
      kings = λ a b h k.
          let la = board 6 a h in
          let lb = board 14 b k in
          sym (m.apart a b la lb) ∙ p.kings (f a) (f b) (sym (stands_moved f men 6 a m p.board la) ∙ h) (sym (stands_moved f men 14 b m p.board lb) ∙ k);
    }

-- ---- the three mirrorings

apart_pair : (f : ℕ → ℕ) → (((i : ℕ) → i < 4096 → kings_apart (f (i / 64)) (f (i % 64)) ≡ kings_apart (i / 64) (i % 64))) → (a b : ℕ) → a < 64 → b < 64 → kings_apart (f a) (f b) ≡ kings_apart a b
apart_pair f all a b la lb =
    let x : (a * 64 + b) / 64 ≡ a = omega arith in
    let y : (a * 64 + b) % 64 ≡ b = omega arith in
    let h = all (a * 64 + b) (omega arith) in
    rw (x, y) at h

left_right_apart : (i : ℕ) → i < 4096 → kings_apart (left_right (i / 64)) (left_right (i % 64)) ≡ kings_apart (i / 64) (i % 64)
left_right_apart i lt = agree_below_at (λ i. kings_apart (left_right (i / 64)) (left_right (i % 64))) (λ i. kings_apart (i / 64) (i % 64)) 4096 i refl lt

bottom_top_apart : (i : ℕ) → i < 4096 → kings_apart (bottom_top (i / 64)) (bottom_top (i % 64)) ≡ kings_apart (i / 64) (i % 64)
bottom_top_apart i lt = agree_below_at (λ i. kings_apart (bottom_top (i / 64)) (bottom_top (i % 64))) (λ i. kings_apart (i / 64) (i % 64)) 4096 i refl lt

across_apart : (i : ℕ) → i < 4096 → kings_apart (across (i / 64)) (across (i % 64)) ≡ kings_apart (i / 64) (i % 64)
across_apart i lt = agree_below_at (λ i. kings_apart (across (i / 64)) (across (i % 64))) (λ i. kings_apart (i / 64) (i % 64)) 4096 i refl lt

pub left_right_mirrors : IsMirroring left_right
left_right_mirrors = record { stays = λ s lt. omega arith; back = λ s lt. omega arith; apart = apart_pair left_right left_right_apart }

pub bottom_top_mirrors : IsMirroring bottom_top
bottom_top_mirrors = record { stays = λ s lt. omega arith; back = λ s lt. omega arith; apart = apart_pair bottom_top bottom_top_apart }

pub across_mirrors : IsMirroring across
across_mirrors = record { stays = λ s lt. omega arith; back = λ s lt. omega arith; apart = apart_pair across across_apart }
