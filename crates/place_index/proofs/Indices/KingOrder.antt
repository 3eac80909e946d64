-- Two kings by their numbers.
use Rattle.std.proofs.Common.{◌≡◌, ℕ, ◌+◌, ◌*◌, ◌/◌, ◌%◌, ◌<◌, ◌≤◌, true, [], ◌∷◌, slice_index, refl, ap, ◌∙◌, inl, inr, arith}
use Rattle.std.specs.Prelude.{◌&&◌}
use Rattle.std.proofs.lemmas.Bool.{cases_eq, cases_Bool, le-ltb, eq-eqb, ne_eqb, and_from, or_left, or_right, not_from_false}
use Rattle.place_index.specs.Square.{file, rank, on_diagonal}
use Rattle.place_index.specs.Counting.{count_before}
use Rattle.place_index.specs.Choose.{IsLater}
use Rattle.place_index.specs.Three.{triangle, triangle_number}
use Rattle.place_index.specs.Kings.{kings_size, both_on, AreTurnedKings, kings_place, kings_test, is_kings_place, kings_number, kings_order, KingsAreNumbered}
use Rattle.place_index.proofs.Counting.Counts.{count_later}
use Rattle.place_index.proofs.Indices.ThreeOrder.{triangle_off, triangle_on, triangle_one, triangle_back}
use Rattle.place_index.proofs.Counting.Orders.{later_head, never_later, later_total, same_heads}

pub triangle_ten : (a : ℕ) → a < 64 → rank a ≤ file a → file a < 4 → triangle_number a < 10
triangle_ten a lt under left =
    elim (cases_eq (file a) (rank a)) [
      | inl on ↦ omega (arith, triangle_on a lt on left)
      | inr ne ↦
          let u : rank a < file a = omega (arith, ne, under) in
          omega (arith, triangle_off a lt u left)
    ]

pub both_small : (a b : ℕ) → both_on a b < 2
both_small a b = elim (cases_Bool (on_diagonal a && on_diagonal b)) [ inl e ↦ rw e (omega arith) | inr e ↦ rw e (omega arith) ]

-- the parts of a place
pub key_first : (x t b : ℕ) → t < 10 → b < 64 → ((x * 10 + t) * 64 + b) / 64 % 10 ≡ t
key_first x t b p q = omega arith

pub key_second : (x t b : ℕ) → t < 10 → b < 64 → ((x * 10 + t) * 64 + b) % 64 ≡ b
key_second x t b p q = omega arith

pub key_both : (x t b : ℕ) → t < 10 → b < 64 → ((x * 10 + t) * 64 + b) / 640 ≡ x
key_both x t b p q = omega arith

test_of : (a b : ℕ) → AreTurnedKings a b → kings_test a b (both_on a b) ≡ true
test_of a b k =
    and_from _ _ (and_from _ _ k.apart
    (elim (cases_eq (file a) (rank a)) [
      | inl on ↦ or_right _ _ (not_from_false _ (le-ltb (file b) (rank b) (k.under1 on)))
      | inr ne ↦ or_left _ _ (not_from_false _ (ne_eqb (file a) (rank a) ne))
    ])) (eq-eqb (both_on a b) (both_on a b) refl)

pub key_of : (a b : ℕ) → AreTurnedKings a b → is_kings_place (kings_place a b) ≡ true
key_of a b k =
    let t = triangle_ten a k.board0 k.under0 k.left in
    let p = key_first (both_on a b) (triangle_number a) b t k.board1 in
    let q = key_second (both_on a b) (triangle_number a) b t k.board1 in
    let r = key_both (both_on a b) (triangle_number a) b t k.board1 in
    let s = triangle_back a k.board0 k.under0 k.left in
    let e : slice_index triangle (kings_place a b / 64 % 10) ≡ a = ap (λ n. slice_index triangle n) p ∙ s in
    rw (e, q, r) (test_of a b k)

kings_all : count_before is_kings_place 1280 ≡ kings_size
unfolding kings_size
kings_all = refl

pub kings_below : (a b : ℕ) → AreTurnedKings a b → kings_number a b < kings_size
kings_below a b k =
    let t = triangle_ten a k.board0 k.under0 k.left in
    let lt : kings_place a b < 1280 = omega (arith, t, k.board1, both_small a b) in
    omega (arith, kings_all, count_later is_kings_place (kings_place a b) 1280 (key_of a b k) lt)

key_later : (x y t u b e : ℕ) → t < 10 → u < 10 → b < 64 → e < 64 → IsLater (x ∷ t ∷ b ∷ []) (y ∷ u ∷ e ∷ []) → (x * 10 + t) * 64 + b < (y * 10 + u) * 64 + e
key_later x y t u b e p q r s later =
    elim (later_head x y _ _ later) [
      | inl lt ↦ omega arith
      | inr h ↦ elim (later_head t u _ _ h.1) [
        | inl lt ↦ omega (arith, h.0)
        | inr i ↦ elim (later_head b e _ _ i.1) [
          | inl lt ↦ omega (arith, h.0, i.0)
          | inr j ↦ absurd (never_later j.1)
        ]
      ]
    ]

kings_later : (a b d e : ℕ) → AreTurnedKings a b → AreTurnedKings d e → IsLater (kings_order a b) (kings_order d e) → kings_number a b < kings_number d e
kings_later a b d e k l later =
    count_later is_kings_place (kings_place a b) (kings_place d e) (key_of a b k)
    (key_later (both_on a b) (both_on d e) (triangle_number a) (triangle_number d) b e
    (triangle_ten a k.board0 k.under0 k.left) (triangle_ten d l.board0 l.under0 l.left) k.board1 l.board1 later)

pub kings_one : (a b d e : ℕ) → AreTurnedKings a b → AreTurnedKings d e → kings_number a b ≡ kings_number d e → (a ≡ d) × (b ≡ e)
kings_one a b d e k l same =
    elim (later_total (kings_order a b) (kings_order d e) refl) [
      | inl o ↦
          let h = same_heads _ _ _ _ o in
          let i = same_heads _ _ _ _ h.1 in
          let j = same_heads _ _ _ _ i.1 in
          (triangle_one a d k.board0 l.board0 k.under0 l.under0 k.left l.left i.0, j.0)
      | inr (inl m) ↦ absurd (omega (arith, same, kings_later a b d e k l m))
      | inr (inr m) ↦ absurd (omega (arith, same, kings_later d e a b l k m))
    ]

pub kings_are_numbered : KingsAreNumbered
kings_are_numbered = (kings_below, kings_later, kings_one)
