-- The code at a bit, length by length.
use Rattle.std.proofs.Common.{◌≡◌, ℕ, ◌+◌, ◌-◌, ◌*◌, ◌<◌, ◌≤◌, List, length, get_or, drop, Option, Some, None, refl, sym, ◌∙◌, inl, inr, arith}
use Rattle.std.proofs.lemmas.List.{drop_more, drop_all}
use Rattle.std.proofs.lemmas.Bool.{le-leb, lt-leb, lt-ltb, le-ltb, cases_lt}
use Rattle.pair_dict.specs.Codes.{bits, below, code_from}

module _ (limit : ℕ) (block : List ℕ) (p n : ℕ) (bases lowest : List ℕ) (i : ℕ) (same : length bases ≡ length lowest) where
  code_left : ℕ → Option (ℕ × ℕ)
  code_left m = code_from limit block p m (drop i bases) (drop i lowest)

  -- a length that passes the end of the block
  pub code_too_long : i < length bases → 8 * length block < p + n → code_from limit block p n (drop i bases) (drop i lowest) ≡ None
  unfolding code_from
  code_too_long lt long = rw (drop_more bases i 0 lt, drop_more lowest i 0 (omega arith), lt-leb (p + n) (8 * length block) long) refl

  -- the code has this length
  pub code_found : i < length bases → p + n ≤ 8 * length block → get_or bases i 0 ≤ bits block p n
      → code_from limit block p n (drop i bases) (drop i lowest) ≡ below limit ((get_or lowest i 0 + bits block p n) - get_or bases i 0) n
  unfolding code_from
  code_found lt fits le = rw (drop_more bases i 0 lt, drop_more lowest i 0 (omega arith), le-leb (p + n) (8 * length block) fits, le-leb (get_or bases i 0) (bits block p n) le) refl

  -- the code is longer
  pub code_longer : i < length bases → p + n ≤ 8 * length block → bits block p n < get_or bases i 0
      → code_from limit block p n (drop i bases) (drop i lowest) ≡ code_from limit block p (n + 1) (drop (i + 1) bases) (drop (i + 1) lowest)
  unfolding code_from
  code_longer lt fits le = rw (drop_more bases i 0 lt, drop_more lowest i 0 (omega arith), le-leb (p + n) (8 * length block) fits, lt-leb (get_or bases i 0) (bits block p n) le) refl

  -- no length is left
  pub code_none : length bases ≤ i → code_from limit block p n (drop i bases) (drop i lowest) ≡ None
  unfolding code_from
  code_none le = rw (drop_all i bases le) refl

-- this length isn't the code's, whether it fits the block or not
pub code_next : (limit : ℕ) (block : List ℕ) (p n : ℕ) (bases lowest : List ℕ) (i : ℕ) (same : length bases ≡ length lowest) → i < length bases
    → (p + n ≤ 8 * length block → bits block p n < get_or bases i 0)
    → code_from limit block p n (drop i bases) (drop i lowest) ≡ code_from limit block p (n + 1) (drop (i + 1) bases) (drop (i + 1) lowest)
code_next limit block p n bases lowest i same lt missed =
    elim (cases_lt (8 * length block) (p + n)) [
      | inr fits ↦ code_longer limit block p n bases lowest i same lt fits (missed fits)
      | inl long ↦ code_too_long limit block p n bases lowest i same lt long ∙ sym (elim (cases_lt (i + 1) (length bases)) [
        | inl more ↦ code_too_long limit block p (n + 1) bases lowest (i + 1) same more (omega (arith, long))
        | inr none ↦ code_none limit block p (n + 1) bases lowest (i + 1) same none
      ])
    ]

pub below_yes : (limit s n : ℕ) → s < limit → below limit s n ≡ Some (s, n)
below_yes limit s n lt = rw (lt-ltb s limit lt) refl

pub below_no : (limit s n : ℕ) → limit ≤ s → below limit s n ≡ None
below_no limit s n le = rw (le-ltb s limit le) refl
