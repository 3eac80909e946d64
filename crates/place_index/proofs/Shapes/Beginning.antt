-- Which men come first, by the kinds of leading groups.
use Rattle.std.proofs.Common.{◌≡◌, ℕ, ◌≤◌, true, false, cond, eqb, List, refl, sym, ap, ◌∙◌, inl, inr, arith}
use Rattle.std.specs.Prelude.{not}
use Rattle.std.proofs.lemmas.Bool.{cases_Bool, false≢true, ne_eqb, eq-eqb, not_from_true, not_from_false}
use Rattle.place_index.specs.Shape.{has_pawns, has_unique, lead_men, lead_pawns, BeginsWell, BeginsByPawns, BeginsByThree, BeginsByKings}

pub some_pawns : (n : ℕ) → 1 ≤ n → not (eqb n 0) ≡ true
some_pawns n some = not_from_false (eqb n 0) (ne_eqb n 0 (λ e. omega (arith, some, e)))

pub no_pawns : (n : ℕ) → (1 ≤ n → ⊥) → not (eqb n 0) ≡ false
no_pawns n none =
    let zero-is : n ≡ 0 = omega (arith, none) in
    not_from_true (eqb n 0) (eq-eqb n 0 zero-is)

pub lead_by_pawns : (key : ℕ) → has_pawns key ≡ true → lead_men key ≡ lead_pawns key
unfolding lead_men
lead_by_pawns key pawned = rw pawned refl

pub lead_others : (key : ℕ) → has_pawns key ≡ false → lead_men key ≡ cond (has_unique key) 3 2
unfolding lead_men
lead_others key none = rw none refl

pub unique_by_three : (key : ℕ) → has_pawns key ≡ false → lead_men key ≡ 3 → has_unique key ≡ true
unique_by_three key none three =
    elim (cases_Bool (has_unique key)) [
      | inl some ↦ some
      | inr missing ↦ absurd (differ (sym three ∙ lead_others key none ∙ ap (λ u. cond {A = ℕ} u 3 2) missing))
    ]
  where
    differ : ◌≡◌ {A = ℕ} 3 2 → ⊥
    differ e = omega (arith, e)

pub none_by_two : (key : ℕ) → has_pawns key ≡ false → (lead_men key ≡ 3 → ⊥) → has_unique key ≡ false
none_by_two key none other =
    elim (cases_Bool (has_unique key)) [
      | inl some ↦ absurd (other (lead_others key none ∙ ap (λ u. cond {A = ℕ} u 3 2) some))
      | inr missing ↦ missing
    ]

pub well_by_pawns : (key : ℕ) (pieces : List ℕ) → has_pawns key ≡ true → BeginsByPawns key pieces → BeginsWell key pieces
well_by_pawns key pieces pawned b = record {
  pawns = λ _. b;
  three = λ none. absurd (false≢true (sym none ∙ pawned));
  kings = λ none. absurd (false≢true (sym none ∙ pawned));
}

pub well_by_three : (key : ℕ) (pieces : List ℕ) → has_pawns key ≡ false → has_unique key ≡ true → BeginsByThree pieces → BeginsWell key pieces
well_by_three key pieces none some b = record {
  pawns = λ pawned. absurd (false≢true (sym none ∙ pawned));
  three = λ _ _. b;
  kings = λ _ missing. absurd (false≢true (sym missing ∙ some));
}

pub well_by_kings : (key : ℕ) (pieces : List ℕ) → has_pawns key ≡ false → has_unique key ≡ false → BeginsByKings pieces → BeginsWell key pieces
well_by_kings key pieces none missing b = record {
  pawns = λ pawned. absurd (false≢true (sym none ∙ pawned));
  three = λ _ some. absurd (false≢true (sym missing ∙ some));
  kings = λ _ _. b;
}
