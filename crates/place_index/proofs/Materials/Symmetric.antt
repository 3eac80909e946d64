-- Symmetric material has the same men with colours exchanged.
use Rattle.std.proofs.Common.{◌≡◌, ℕ, zero, suc, ◌+◌, ◌-◌, ◌/◌, ◌%◌, ◌<◌, ◌≤◌, Bool, true, false, cond, eqb, List, [], ◌∷◌, length, map, refl, sym, ap, subst, inl, inr, arith}
use Rattle.std.specs.Prelude.{slice_index_or, not, ◌&&◌, ◌||◌}
use Rattle.std.specs.List.Sorted.{IsPermutation}
use Rattle.std.proofs.lemmas.Bool.{and_parts, cases_eq, eq-eqb, ne_eqb, eqb-true}
use Rattle.std.proofs.lemmas.List.{length-map}
use Rattle.std.proofs.lemmas.List.Sorted.{IsPermutation-trans, IsPermutation-map}
use Rattle.place_index.specs.Material.{pieces_of, count_of}
use Rattle.place_index.specs.Men.{codes_of, other_side, exchanged}
use Rattle.place_index.specs.Placed.{IsNamed, IsMaterialOf, IsSymmetric}
use Rattle.place_index.specs.declared.man.Man.{Man}
use Rattle.place_index.specs.declared.tables.TheConstants.{SYMMETRIC}
use Rattle.place_index.proofs.Materials.Arranging.{arranged_by_counts, arranged_length}
use Rattle.place_index.proofs.Materials.KeyTables.{symmetric_table}
use Rattle.place_index.proofs.Materials.KeyWalk.{each, each_pieces, pieces}
use Rattle.place_index.proofs.Materials.MenTables.{codes_small, men_most}

other_twice : (c : ℕ) → other_side (other_side c) ≡ c
other_twice c =
    elim (cases_eq (c / 8 % 2) 0) [
      | inl e ↦ rw (eq-eqb (c / 8 % 2) 0 e) (rw (ne_eqb ((c + 8) / 8 % 2) 0 (λ z. omega (arith, z, e))) (omega arith))
      | inr ne ↦ rw (ne_eqb (c / 8 % 2) 0 ne) (rw (eq-eqb ((c - 8) / 8 % 2) 0 (omega (arith, ne))) (omega (arith, ne)))
    ]

pub codes_exchanged : (men : List Man) → codes_of (exchanged men) ≡ map other_side (codes_of men)
codes_exchanged [] = refl
codes_exchanged (m ∷ men) = ap (λ l. other_side m.code ∷ l) (codes_exchanged men)

pub twice : (codes : List ℕ) → map other_side (map other_side codes) ≡ codes
twice [] = refl
twice (c ∷ codes) = rw (other_twice c, twice codes) refl

-- the counts of the codes below a number are those with colours exchanged
same_below : ℕ → List ℕ → Bool
same_below zero ps = true
same_below (suc n) ps = eqb (count_of (map other_side ps) n) (count_of ps n) && same_below n ps

same_at : (n c : ℕ) (ps : List ℕ) → same_below n ps ≡ true → c < n → count_of (map other_side ps) c ≡ count_of ps c
unfolding same_below
same_at zero c ps e lt = absurd (omega arith)
same_at (suc n) c ps e lt =
    let both = and_parts (eqb (count_of (map other_side ps) n) (count_of ps n)) (same_below n ps) e in
    elim (cases_eq c n) [
      | inl is ↦ rw is (eqb-true _ _ both.0)
      | inr ne ↦ same_at n c ps both.1 (omega (arith, ne))
    ]

symmetric_test : (k : ℕ) → k < 145 → (not (slice_index_or SYMMETRIC k false) || same_below 16 (pieces_of k)) ≡ true
unfolding each pieces count_of same_below
symmetric_test k lt = each_pieces (λ k ps. not (slice_index_or SYMMETRIC k false) || same_below 16 ps) refl k lt

symmetric_counts : (k c : ℕ) → k < 145 → c < 16 → slice_index_or SYMMETRIC k false ≡ true → count_of (map other_side (pieces_of k)) c ≡ count_of (pieces_of k) c
symmetric_counts k c kk cc16 is = same_at 16 c (pieces_of k) (rw is at (symmetric_test k kk)) cc16

symmetric_pieces : (k : ℕ) → k < 145 → IsSymmetric k → IsPermutation (map other_side (pieces_of k)) (pieces_of k)
symmetric_pieces k lt is =
    arranged_by_counts 16 (map other_side (pieces_of k)) (pieces_of k) (codes_small k lt) (length-map (pieces_of k) other_side) (λ c small. symmetric_counts k c lt small ((symmetric_table k lt).1 is))

turn : (key : ℕ) (codes : List ℕ) → key < 145 → IsSymmetric key → IsPermutation codes (pieces_of key) → IsPermutation (map other_side codes) (pieces_of key)
turn key codes lt is p =
    IsPermutation-trans (map other_side codes) (map other_side (pieces_of key)) (pieces_of key) (IsPermutation-map other_side codes (pieces_of key) p) (symmetric_pieces key lt is)

pub symmetric_named : (key : ℕ) (men : List Man) (b : Bool) → key < 145 → IsSymmetric key → IsMaterialOf key men → IsNamed key (cond b (exchanged men) men)
symmetric_named key men true lt is (inl named) = subst (λ l. IsPermutation l (pieces_of key)) (sym (codes_exchanged men)) (turn key (codes_of men) lt is named)
symmetric_named key men false lt is (inl named) = named
symmetric_named key men true lt is (inr named) = named
symmetric_named key men false lt is (inr named) =
    subst (λ l. IsPermutation l (pieces_of key)) (twice (codes_of men)) (turn key (map other_side (codes_of men)) lt is (subst (λ l. IsPermutation l (pieces_of key)) (codes_exchanged men) named))

pub material_few : (key : ℕ) (men : List Man) → key < 145 → IsMaterialOf key men → length men ≤ 5
material_few key men lt (inl named) = omega (arith, length-map men (λ m. m.code), arranged_length (codes_of men) (pieces_of key) named, men_most key lt)
material_few key men lt (inr named) =
    omega (arith, length-map men (λ m. m.code), ap length (codes_exchanged men), length-map (codes_of men) other_side, arranged_length (codes_of (exchanged men)) (pieces_of key) named, men_most key lt)
