-- Leading pawns by their numbers.
use Rattle.std.proofs.Common.{◌≡◌, ℕ, zero, suc, ◌+◌, ◌-◌, ◌*◌, ◌<◌, ◌≤◌, List, length, refl, sym, ap, inl, inr, zero-add, arith}
use Rattle.place_index.specs.Square.{file, rank}
use Rattle.place_index.specs.Choose.{choose, IsLater}
use Rattle.place_index.specs.Pawns.{pawn_number, pawns_before, pawns_number, pawns_size, AreTurnedPawns, pawns_order, PawnsAreNumbered}
use Rattle.place_index.proofs.Counting.SetNumbers.{number_below, later_is_greater}
use Rattle.place_index.proofs.Counting.Orders.{later_head, later_total, same_heads}

before_step : (f k n : ℕ) → pawns_before f k (suc n) ≡ pawns_before f k n + choose (pawn_number (8 * suc n + f)) k
unfolding pawns_before
before_step f k n = refl

before_grows : (f k d n : ℕ) → pawns_before f k n ≤ pawns_before f k (d + n)
before_grows f k zero n =
    let e : pawns_before f k (zero + n) ≡ pawns_before f k n = ap (pawns_before f k) (zero-add n) in
    omega (arith, e)
before_grows f k (suc d) n =
    let s : suc d + n ≡ suc (d + n) = omega arith in
    let e : pawns_before f k (suc d + n) ≡ pawns_before f k (suc (d + n)) = ap (pawns_before f k) s in
    omega (arith, e, before_grows f k d n, before_step f k (d + n))

before_mono : (f k m n : ℕ) → m ≤ n → pawns_before f k m ≤ pawns_before f k n
before_mono f k m n le =
    let e : (n - m) + m ≡ n = omega arith in
    let g : pawns_before f k ((n - m) + m) ≡ pawns_before f k n = ap (pawns_before f k) e in
    omega (arith, g, before_grows f k (n - m) m)

-- the placements with the leading pawn on its rank end where those on the next one begin
within_rank : (f a : ℕ) (xs : List ℕ) → AreTurnedPawns f a xs → pawns_number a xs < pawns_before f (length xs) (rank a)
within_rank f a xs t =
    let s : suc (rank a - 1) ≡ rank a = omega (arith, t.off_first) in
    let sq : 8 * suc (rank a - 1) + file a ≡ a = omega (arith, t.off_first) in
    let e : pawns_before (file a) (length xs) (suc (rank a - 1)) ≡ pawns_before (file a) (length xs) (rank a) = ap (pawns_before (file a) (length xs)) s in
    let c : choose (pawn_number (8 * suc (rank a - 1) + file a)) (length xs) ≡ choose (pawn_number a) (length xs) = ap (λ q. choose (pawn_number q) (length xs)) sq in
    let n = number_below (pawn_number a) xs t.falling in
    rw (← t.on_file) (omega (arith, e, c, n, before_step (file a) (length xs) (rank a - 1)))

pub pawns_below : (f a : ℕ) (xs : List ℕ) → AreTurnedPawns f a xs → pawns_number a xs < pawns_size f (length xs)
pawns_below f a xs t = omega (arith, within_rank f a xs t, before_mono f (length xs) (rank a) 6 t.off_last)

same_lead : (f a b : ℕ) → file a ≡ f → file b ≡ f → rank a ≡ rank b → a ≡ b
same_lead f a b p q e = omega (arith, p, q, e)

pub pawns_later : (f a b : ℕ) (xs ys : List ℕ) → AreTurnedPawns f a xs → AreTurnedPawns f b ys → length xs ≡ length ys → IsLater (pawns_order a xs) (pawns_order b ys) → pawns_number a xs < pawns_number b ys
pawns_later f a b xs ys t u same later =
    elim (later_head _ _ _ _ later) [
      | inl lt ↦
          let g : pawns_before f (length xs) (rank b - 1) ≡ pawns_before (file b) (length ys) (rank b - 1) = rw (same, u.on_file) refl in
          omega (arith, g, within_rank f a xs t, before_mono f (length xs) (rank a) (rank b - 1) (omega (arith, lt)))
      | inr h ↦
          let p : a ≡ b = same_lead f a b t.on_file u.on_file h.0 in
          let fall = rw (← p) at u.falling in
          let g : pawns_before (file a) (length xs) (rank a - 1) ≡ pawns_before (file b) (length ys) (rank b - 1) = rw (same, p) refl in
          omega (arith, g, later_is_greater (pawn_number a) xs ys t.falling fall same h.1)
    ]

pub pawns_one : (f a b : ℕ) (xs ys : List ℕ) → AreTurnedPawns f a xs → AreTurnedPawns f b ys → length xs ≡ length ys → pawns_number a xs ≡ pawns_number b ys → (a ≡ b) × (xs ≡ ys)
pawns_one f a b xs ys t u same e =
    elim (later_total (pawns_order a xs) (pawns_order b ys) (ap suc same)) [
      | inl o ↦
          let h = same_heads _ _ _ _ o in
          (same_lead f a b t.on_file u.on_file h.0, h.1)
      | inr (inl l) ↦ absurd (omega (arith, e, pawns_later f a b xs ys t u same l))
      | inr (inr l) ↦ absurd (omega (arith, e, pawns_later f b a ys xs u t (sym same) l))
    ]

pub pawns_are_numbered : PawnsAreNumbered
pawns_are_numbered = (pawns_below, pawns_later, pawns_one)
