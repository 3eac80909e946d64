-- The leading men of tables without pawns.
use Rattle.std.proofs.Common.{◌≡◌, ℕ, false, List, [], ◌∷◌, length, slice_index, sym, ap, ◌∙◌, subst, inl, inr}
use Rattle.std.proofs.lemmas.Bool.{cases_Bool}
use Rattle.place_index.specs.Material.{pieces_of, count_of}
use Rattle.place_index.specs.Men.{squares_of, square_of}
use Rattle.place_index.specs.Kings.{AreTurnedKings, kings_number}
use Rattle.place_index.specs.Three.{three_number}
use Rattle.place_index.specs.Others.{taken}
use Rattle.place_index.specs.Shape.{Layout, has_pawns, has_unique, lead_men}
use Rattle.place_index.specs.Index.{IsShape}
use Rattle.place_index.specs.Inside.Leading.{AreLeading}
use Rattle.place_index.specs.Inside.Turned.{IsTurned}
use Rattle.place_index.specs.Inside.TurnedMen.{TurnedMen}
use Rattle.place_index.specs.declared.leading.Leading.TheVariants.{Three, Kings}
use Rattle.place_index.proofs.Shapes.Beginning.{unique_by_three, none_by_two}
use Rattle.place_index.proofs.Indices.IndexLaw.{number_by_three, number_by_kings, leads_three, lead_kings}
use Rattle.place_index.proofs.Turns.Mirrorings.{three_squares_are, king_squares_are}

-- the first two pieces each occur once, and the third where three men lead
pub first_once : (l : Layout) → IsShape l → has_pawns l.material ≡ false → count_of (pieces_of l.material) (slice_index l.pieces 0) ≡ 1
first_once l s plain =
    elim (cases_Bool (has_unique l.material)) [
      | inl unique ↦ let t = leads_three l s plain unique in ap (λ xs. count_of (pieces_of l.material) (slice_index xs 0)) t.pieces ∙ t.once_a
      | inr common ↦ let t = lead_kings l s plain common in ap (λ xs. count_of (pieces_of l.material) (slice_index xs 0)) t.pieces ∙ t.once_a
    ]

pub second_once : (l : Layout) → IsShape l → has_pawns l.material ≡ false → count_of (pieces_of l.material) (slice_index l.pieces 1) ≡ 1
second_once l s plain =
    elim (cases_Bool (has_unique l.material)) [
      | inl unique ↦ let t = leads_three l s plain unique in ap (λ xs. count_of (pieces_of l.material) (slice_index xs 1)) t.pieces ∙ t.once_b
      | inr common ↦ let t = lead_kings l s plain common in ap (λ xs. count_of (pieces_of l.material) (slice_index xs 1)) t.pieces ∙ t.once_b
    ]

pub third_once : (l : Layout) → IsShape l → has_pawns l.material ≡ false → lead_men l.material ≡ 3 → count_of (pieces_of l.material) (slice_index l.pieces 2) ≡ 1
third_once l s plain three =
    let t = leads_three l s plain (unique_by_three l.material plain three) in
    ap (λ xs. count_of (pieces_of l.material) (slice_index xs 2)) t.pieces ∙ t.once_c

-- what stands first among squares that are one
the_square : (xs : List ℕ) (s : ℕ) → xs ≡ s ∷ [] → slice_index xs 0 ≡ s
the_square xs s e = ap (λ l. slice_index l 0) e

three_same : (a b c x y z : ℕ) → a ≡ x → b ≡ y → c ≡ z → (three_number a b c ≡ three_number x y z) × (a ∷ b ∷ c ∷ [] ≡ x ∷ y ∷ z ∷ [])
three_same a b c x y z e f g = (
  ap (λ s. three_number s b c) e ∙ ap (λ s. three_number x s c) f ∙ ap (three_number x y) g,
  ap (λ s. s ∷ b ∷ c ∷ []) e ∙ ap (λ s. x ∷ s ∷ c ∷ []) f ∙ ap (λ s. x ∷ y ∷ s ∷ []) g,
)

two_same : (a b x y : ℕ) → a ≡ x → b ≡ y → (kings_number a b ≡ kings_number x y) × (a ∷ b ∷ [] ≡ x ∷ y ∷ [])
two_same a b x y e f = (ap (λ s. kings_number s b) e ∙ ap (kings_number x) f, ap (λ s. s ∷ b ∷ []) e ∙ ap (λ s. x ∷ s ∷ []) f)

pub three_lead : (t : TurnedMen) (a b c : ℕ) → IsTurned t → has_pawns t.shape.material ≡ false → lead_men t.shape.material ≡ 3
    → squares_of t.men (slice_index t.shape.pieces 0) ≡ a ∷ [] → squares_of t.men (slice_index t.shape.pieces 1) ≡ b ∷ [] → squares_of t.men (slice_index t.shape.pieces 2) ≡ c ∷ [] → AreLeading t (Three a b c)
three_lead t a b c h plain three first second third =
    let unique = unique_by_three t.shape.material plain three in
    let same = three_same a b c _ _ _ (sym (the_square _ a first)) (sym (the_square _ b second)) (sym (the_square _ c third)) in
    let all = same.1 ∙ sym (three_squares_are t.shape t.men h.shape h.men plain unique) in
    record {
      wanted = tt;
      number = same.0 ∙ sym (number_by_three t.shape t.men plain unique);
      squares = (ap length all, λ s. ap (λ l. taken l s) all);
    }

pub kings_lead : (t : TurnedMen) (a b : ℕ) → IsTurned t → has_pawns t.shape.material ≡ false → (lead_men t.shape.material ≡ 3 → ⊥)
    → squares_of t.men (slice_index t.shape.pieces 0) ≡ a ∷ [] → squares_of t.men (slice_index t.shape.pieces 1) ≡ b ∷ [] → AreLeading t (Kings a b)
kings_lead t a b h plain two first second =
    let common = none_by_two t.shape.material plain two in
    let same = two_same a b _ _ (sym (the_square _ a first)) (sym (the_square _ b second)) in
    let all = same.1 ∙ sym (king_squares_are t.shape t.men h.shape h.men plain common) in
    record {
      wanted = subst (λ x. AreTurnedKings x b) (the_square _ a first) (subst (AreTurnedKings (square_of t.men (slice_index t.shape.pieces 0))) (the_square _ b second) (h.lead.kings plain common));
      number = same.0 ∙ sym (number_by_kings t.shape t.men plain common);
      squares = (ap length all, λ s. ap (λ l. taken l s) all);
    }
