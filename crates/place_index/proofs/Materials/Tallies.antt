-- Lists of equal tallies have equal counts.
use Rattle.std.proofs.Common.{◌≡◌, ℕ, zero, suc, ◌+◌, ◌*◌, ◌<◌, ◌≤◌, Bool, true, false, cond, eqb, leb, ltb, List, [], ◌∷◌, ◌++◌, length, slice_index, refl, ap, ◌∙◌, arith}
use Rattle.std.specs.List.{list_all}
use Rattle.std.specs.List.Sorted.{IsPermutation}
use Rattle.std.proofs.lemmas.Bool.{agree_below_at, eqb-true, leb-true}
use Rattle.place_index.specs.Material.{pieces_of, count_of, digits, tally_of}
use Rattle.place_index.specs.Men.{codes_of}
use Rattle.place_index.specs.declared.man.Man.{Man}
use Rattle.place_index.specs.declared.tables.TheConstants.{CODE_TALLIES, TALLIES}
use Rattle.place_index.proofs.Materials.Arranging.{count_cons, count_nil, count_arranged, arranged_by_counts, same_length}
use Rattle.place_index.proofs.Materials.KeyWalk.{each, each_pieces, pieces}
use Rattle.place_index.proofs.Materials.MenTables.{codes_small, men_most}

-- ---- digits of lists

digits_next : (n first : ℕ) (codes : List ℕ) → digits (suc n) first codes ≡ count_of codes first + 16 * digits n (suc first) codes
unfolding digits
digits_next n first codes = refl

digits_last : (first : ℕ) (codes : List ℕ) → digits 0 first codes ≡ 0
unfolding digits
digits_last first codes = refl

digits_nil : (n first : ℕ) → digits n first [] ≡ 0
digits_nil zero first = digits_last first []
digits_nil (suc n) first = omega (arith, digits_next n first [], count_nil first, digits_nil n (suc first))

-- each code adds its own tally
digits_cons : (n first x : ℕ) (xs : List ℕ) → digits n first (x ∷ xs) ≡ digits n first (x ∷ []) + digits n first xs
digits_cons zero first x xs = omega (arith, digits_last first (x ∷ xs), digits_last first (x ∷ []), digits_last first xs)
digits_cons (suc n) first x xs =
    omega (
      arith,
      digits_next n first (x ∷ xs),
      digits_next n first (x ∷ []),
      digits_next n first xs,
      count_cons x xs first,
      count_cons x [] first,
      count_nil first,
      digits_cons n (suc first) x xs,
    )

count_most : (xs : List ℕ) (c : ℕ) → count_of xs c ≤ length xs
count_most [] c = omega (arith, count_nil c)
count_most (x ∷ xs) c = omega (arith, count_cons x xs c, bit (eqb x c), count_most xs c)
  where
    bit : (b : Bool) → cond b 1 0 ≤ 1
    bit true = omega arith
    bit false = omega arith

-- equal digits are equal counts
same_counts : (n first c : ℕ) (xs ys : List ℕ) → length xs ≤ 5 → length ys ≤ 5 → digits n first xs ≡ digits n first ys → c < n → count_of xs (first + c) ≡ count_of ys (first + c)
same_counts zero first c xs ys few other same lt = absurd (omega (arith, lt))
same_counts (suc n) first zero xs ys few other same lt =
    let here : first + 0 ≡ first = omega arith in
    rw here (omega (arith, same, digits_next n first xs, digits_next n first ys, count_most xs first, count_most ys first, few, other))
same_counts (suc n) first (suc c) xs ys few other same lt =
    let next : first + suc c ≡ suc first + c = omega arith in
    rw next
    (same_counts n (suc first) c xs ys few other (omega (arith, same, digits_next n first xs, digits_next n first ys, count_most xs first, count_most ys first, few, other)) (omega (arith, lt)))

-- ---- tallies of materials

pub tallied : (key : ℕ) (codes : List ℕ) → key < 145 → length codes ≡ length (pieces_of key) → tally_of codes ≡ tally_of (pieces_of key) → IsPermutation codes (pieces_of key)
tallied key codes lt len same =
    arranged_by_counts 16 codes (pieces_of key) (codes_small key lt) len
    (λ c small. rw (from_none c) at (same_counts 16 0 c codes (pieces_of key) (omega (arith, len, men_most key lt)) (men_most key lt) same small))
  where
    from_none : (c : ℕ) → 0 + c ≡ c
    from_none c = omega arith

-- equal tallies of small codes alone
pub tallied_small : (key : ℕ) (codes : List ℕ) → key < 145 → list_all (λ c. ltb c 16) codes ≡ true → length codes ≤ 5 → tally_of codes ≡ tally_of (pieces_of key) → IsPermutation codes (pieces_of key)
tallied_small key codes lt small few same = tallied key codes lt (same_length 16 codes (pieces_of key) small (codes_small key lt) counts) same
  where
    from_none : (c : ℕ) → 0 + c ≡ c
    from_none c = omega arith

    counts : (c : ℕ) → c < 16 → count_of codes c ≡ count_of (pieces_of key) c
    counts c below = rw (from_none c) at (same_counts 16 0 c codes (pieces_of key) few (men_most key lt) same below)

same_digits : (n first : ℕ) (xs ys : List ℕ) → IsPermutation xs ys → digits n first xs ≡ digits n first ys
same_digits zero first xs ys p = omega (arith, digits_last first xs, digits_last first ys)
same_digits (suc n) first xs ys p = omega (arith, digits_next n first xs, digits_next n first ys, count_arranged xs ys first p, same_digits n (suc first) xs ys p)

pub same_tally : (xs ys : List ℕ) → IsPermutation xs ys → tally_of xs ≡ tally_of ys
same_tally xs ys p = same_digits 16 0 xs ys p

pub tally_table : (k : ℕ) → k < 145 → slice_index TALLIES k ≡ tally_of (pieces_of k)
unfolding each pieces count_of digits
tally_table k lt = eqb-true _ _ (each_pieces (λ k ps. eqb (slice_index TALLIES k) (tally_of ps)) refl k lt)

pub code_tally_table : (c : ℕ) → c < 16 → slice_index CODE_TALLIES c ≡ tally_of (c ∷ [])
unfolding count_of digits
code_tally_table c lt = eqb-true _ _ (agree_below_at (λ c. eqb (slice_index CODE_TALLIES c) (tally_of (c ∷ []))) (λ c. true) 16 c refl lt)

pub code_tally_most : (c : ℕ) → c < 16 → slice_index CODE_TALLIES c ≤ 1152921504606846976
code_tally_most c lt = leb-true _ _ (agree_below_at (λ c. leb (slice_index CODE_TALLIES c) 1152921504606846976) (λ c. true) 16 c refl lt)

pub tally_nil : tally_of [] ≡ 0
tally_nil = digits_nil 16 0

pub tally_cons : (x : ℕ) (xs : List ℕ) → tally_of (x ∷ xs) ≡ tally_of (x ∷ []) + tally_of xs
tally_cons x xs = digits_cons 16 0 x xs

-- ---- the sweep

digits_append : (n first : ℕ) (xs : List ℕ) (y : ℕ) → digits n first (xs ++ y ∷ []) ≡ digits n first xs + digits n first (y ∷ [])
digits_append n first [] y = omega (arith, digits_nil n first)
digits_append n first (x ∷ xs) y = omega (arith, digits_cons n first x (xs ++ y ∷ []), digits_append n first xs y, digits_cons n first x xs)

codes_append : (men : List Man) (m : Man) → codes_of (men ++ m ∷ []) ≡ codes_of men ++ m.code ∷ []
codes_append [] m = refl
codes_append (x ∷ men) m = ap (λ l. x.code ∷ l) (codes_append men m)

-- the tally with one man more
pub tally_last : (men more : List Man) (m : Man) → more ≡ men ++ m ∷ [] → tally_of (codes_of more) ≡ tally_of (codes_of men) + tally_of (m.code ∷ [])
tally_last men more m e = ap (λ l. tally_of (codes_of l)) e ∙ ap tally_of (codes_append men m) ∙ digits_append 16 0 (codes_of men) m.code

pub tally_none : (men : List Man) → men ≡ [] → tally_of (codes_of men) ≡ 0
tally_none men e = ap (λ l. tally_of (codes_of l)) e ∙ digits_nil 16 0
