-- The table of kings against the definition.
use Rattle.std.proofs.Common.{◌≡◌, ℕ, zero, suc, ◌+◌, ◌*◌, ◌%◌, ◌<◌, ◌≤◌, Bool, true, cond, eqb, slice_index, refl, arith, ◌∙◌, inl, inr}
use Rattle.std.specs.Prelude.{◌&&◌}
use Rattle.std.proofs.lemmas.Bool.{eqb-true, cases_Bool, cases_eq, and_parts, both_ways}
use Rattle.place_index.specs.Counting.{count_before}
use Rattle.place_index.specs.Three.{triangle_number}
use Rattle.place_index.specs.Kings.{is_kings_place, both_on, kings_number, kings_place, AreTurnedKings}
use Rattle.place_index.specs.declared.tables.TheConstants.{KINGS}
use Rattle.place_index.proofs.Indices.KingOrder.{key_of, triangle_ten, both_small}
use Rattle.place_index.proofs.Counting.Counts.{count_step}

-- walking up the places, the count so far is the table's entry at each pair
abbrev walk : ℕ → ℕ → ℕ → Bool
walk zero k count = true
walk (suc n) k count =
    cond (is_kings_place k) (eqb (slice_index KINGS (k % 640)) count && walk n (suc k) (suc count)) (walk n (suc k) count)

low_key : (x t b : ℕ) → t < 10 → b < 64 → ((x * 10 + t) * 64 + b) % 640 ≡ t * 64 + b
low_key x t b p q = omega arith

walk_at : (n k count : ℕ) → walk n k count ≡ true → count ≡ count_before is_kings_place k → (j : ℕ) → k ≤ j → j < k + n → is_kings_place j ≡ true → slice_index KINGS (j % 640) ≡ count_before is_kings_place j
walk_at zero k count h e j le lt is = absurd (omega arith)
walk_at (suc n) k count h e j le lt is =
    elim (cases_Bool (is_kings_place k)) [
      | inl pair ↦
          let both = and_parts _ _ (rw pair at h) in
          let step : suc count ≡ count_before is_kings_place (suc k) = omega (arith, e, rw pair at (count_step is_kings_place k)) in
          elim (cases_eq j k) [
            | inl same ↦ rw same (eqb-true _ _ both.0 ∙ e)
            | inr ne ↦ walk_at n (suc k) (suc count) both.1 step j (omega arith) (omega arith) is
          ]
      | inr none ↦
          let step : count ≡ count_before is_kings_place (suc k) = omega (arith, e, rw none at (count_step is_kings_place k)) in
          elim (cases_eq j k) [
            | inl same ↦ absurd (both_ways (is_kings_place k) none (rw same at is))
            | inr ne ↦ walk_at n (suc k) count (rw none at h) step j (omega arith) (omega arith) is
          ]
    ]

walked : walk 1280 0 0 ≡ true
walked = refl

none_before : 0 ≡ count_before is_kings_place 0
unfolding count_before
none_before = refl

pub king_table : (a b : ℕ) → AreTurnedKings a b → slice_index KINGS (triangle_number a * 64 + b) ≡ kings_number a b
king_table a b k =
    let t = triangle_ten a k.board0 k.under0 k.left in
    let lt : kings_place a b < 0 + 1280 = omega (arith, t, k.board1, both_small a b) in
    let e : kings_place a b % 640 ≡ triangle_number a * 64 + b = low_key (both_on a b) (triangle_number a) b t k.board1 in
    rw e at (walk_at 1280 0 0 walked none_before (kings_place a b) (omega arith) lt (key_of a b k))
