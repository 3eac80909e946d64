-- In which colours the men of a material stand, by their tally.
use Rattle.std.proofs.Common.{◌≡◌, ◌≢◌, ℕ, zero, suc, ◌<◌, Bool, true, false, cond, List, [], ◌∷◌, length, take, sym, ap, ◌∙◌, refl, inl, inr, arith}
use Rattle.std.proofs.lemmas.List.{length-map}
use Rattle.place_index.specs.Material.{pieces_of, tally_of}
use Rattle.place_index.specs.Square.{bottom_top}
use Rattle.place_index.specs.Men.{man, codes_of, other_side, exchanged}
use Rattle.place_index.specs.Placed.{IsNamed, IsMaterialOf, IsSymmetric}
use Rattle.place_index.specs.declared.man.Man.{Man}
use Rattle.place_index.proofs.Materials.Arranging.{arranged_length}
use Rattle.place_index.proofs.Materials.Symmetric.{codes_exchanged, symmetric_named}
use Rattle.place_index.proofs.Materials.Tallies.{tallied, same_tally}

-- in either colours there are as many men as in the material
material_length : (key : ℕ) (men : List Man) → IsMaterialOf key men → length (codes_of men) ≡ length (pieces_of key)
material_length key men (inl named) = arranged_length (codes_of men) (pieces_of key) named
material_length key men (inr named) = omega (arith, ap length (codes_exchanged men), length-map (codes_of men) other_side, arranged_length (codes_of (exchanged men)) (pieces_of key) named)

-- men of a material with its tally, which is known as `wanted`
pub named_by_tally : (key tally wanted : ℕ) (men : List Man) → key < 145 → IsMaterialOf key men → tally ≡ tally_of (codes_of men) → wanted ≡ tally_of (pieces_of key) → tally ≡ wanted → IsNamed key men
named_by_tally key tally wanted men lt is t w e = tallied key (codes_of men) lt (material_length key men is) (sym t ∙ e ∙ w)

pub exchanged_by_tally : (key tally wanted : ℕ) (men : List Man) → key < 145 → IsMaterialOf key men → tally ≡ tally_of (codes_of men) → wanted ≡ tally_of (pieces_of key) → tally ≢ wanted → IsNamed key (exchanged men)
exchanged_by_tally key tally wanted men lt (inl named) t w ne = absurd (ne (t ∙ same_tally (codes_of men) (pieces_of key) named ∙ sym w))
exchanged_by_tally key tally wanted men lt (inr named) t w ne = named

-- symmetric material has its tally in either colours
pub unlike_by_tally : (key tally wanted : ℕ) (men : List Man) → key < 145 → IsMaterialOf key men → tally ≡ tally_of (codes_of men) → wanted ≡ tally_of (pieces_of key) → tally ≢ wanted → IsSymmetric key → ⊥
unlike_by_tally key tally wanted men lt is t w ne symmetric = ne (t ∙ same_tally (codes_of men) (pieces_of key) (symmetric_named key men false lt symmetric is) ∙ sym w)

-- named men may be exchanged where the material is symmetric
pub named_if : (key : ℕ) (men : List Man) (b : Bool) → key < 145 → IsNamed key men → (b ≡ true → IsSymmetric key) → IsNamed key (cond b (exchanged men) men)
named_if key men true lt named is = symmetric_named key men true lt (is refl) (inl named)
named_if key men false lt named is = named

-- the first men of all after the exchange are the first men exchanged
taken_exchanged : (n : ℕ) (men : List Man) → take n (exchanged men) ≡ exchanged (take n men)
taken_exchanged zero men = refl
taken_exchanged (suc n) [] = refl
taken_exchanged (suc n) (m ∷ men) = ap (λ l. man (other_side m.code) (bottom_top m.square) ∷ l) (taken_exchanged n men)

pub taken_in_colours : (n : ℕ) (men now first : List Man) (b : Bool) → now ≡ cond b (exchanged men) men → take n men ≡ first → take n now ≡ cond b (exchanged first) first
taken_in_colours n men now first true is e = ap (take n) is ∙ taken_exchanged n men ∙ ap exchanged e
taken_in_colours n men now first false is e = ap (take n) is ∙ e
