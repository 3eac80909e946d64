-- Tables by the key of a material.
use Rattle.std.proofs.Common.{◌≡◌, ◌≢◌, ◌↔◌, ℕ, zero, suc, ◌+◌, ◌*◌, ◌<◌, ◌≤◌, Bool, true, false, cond, IsTrue, eqb, leb, ltb, List, [], ◌∷◌, length, take, drop, slice_index, refl, ap, sym, ◌∙◌, inl, inr, arith}
use Rattle.std.specs.Prelude.{slice_index_or, not, ◌&&◌}
use Rattle.std.proofs.lemmas.Bool.{eqb-true, leb-true, lt-ltb, le-ltb, eq-eqb, ne_eqb, and_parts, cases_Bool, false≢true}
use Rattle.std.proofs.lemmas.List.{get_or-take, get_or-drop}
use Rattle.place_index.specs.Material.{Men, IsPieceCode, tables, name_of, men_of, name_at, pieces_of, count_of, white_pawns, black_pawns}
use Rattle.place_index.specs.Inside.NameKeys.{key_by_name}
use Rattle.place_index.specs.Shape.{black_leads, lead_code}
use Rattle.place_index.specs.Inside.Groups.{leading_code}
use Rattle.place_index.specs.declared.tables.TheConstants.{LETTERS, COUNTS, SYMMETRIC, LEADING_PAWNS}
use Rattle.place_index.proofs.Materials.KeyWalk.{agrees, agrees-true, each, each_key, each_pieces, pieces, white_in, black_in, pawns_in, black_leads_in, lead_code_in, leading_code_in}

-- ---- lists compared

unfoldable pub same : List ℕ → List ℕ → Bool
same [] [] = true
same [] (y ∷ ys) = false
same (x ∷ xs) [] = false
same (x ∷ xs) (y ∷ ys) = eqb x y && same xs ys

pub same-true : (xs ys : List ℕ) → same xs ys ≡ true → xs ≡ ys
unfolding same
same-true [] [] e = refl
same-true [] (y ∷ ys) e = absurd (false≢true e)
same-true (x ∷ xs) [] e = absurd (false≢true e)
same-true (x ∷ xs) (y ∷ ys) e =
    let both = and_parts (eqb x y) (same xs ys) e in
    rw (eqb-true x y both.0, same-true xs ys both.1) refl

-- the values of a function at so many numbers from the first on
values : (ℕ → ℕ) → ℕ → ℕ → List ℕ
values f zero first = []
values f (suc n) first = f first ∷ values f n (suc first)

values_at : (f : ℕ → ℕ) (n first i : ℕ) → i < n → slice_index (values f n first) i ≡ f (first + i)
unfolding values
values_at f zero first i lt = absurd (omega arith)
values_at f (suc n) first zero lt = let e : first ≡ first + 0 = omega arith in ap f e
values_at f (suc n) first (suc i) lt =
    let e : suc first + i ≡ first + suc i = omega arith in
    values_at f n (suc first) i (omega arith) ∙ ap f e

-- a row of a table with the values of a function gives each of them
row_at : (xs : List ℕ) (f : ℕ → ℕ) (n start i : ℕ) → same (take n (drop start xs)) (values f n 0) ≡ true → i < n → slice_index xs (start + i) ≡ f i
row_at xs f n start i e lt =
    let a = get_or-take n (drop start xs) i 0 lt in
    let b = get_or-drop start xs i 0 in
    let c : slice_index (take n (drop start xs)) i ≡ slice_index (values f n 0) i = ap (λ ys. slice_index ys i) (same-true _ _ e) in
    let d : 0 + i ≡ i = omega arith in
    sym b ∙ sym a ∙ c ∙ values_at f n 0 i lt ∙ ap f d

-- no number of a list is above one
is_most : ℕ → List ℕ → Bool
is_most most [] = true
is_most most (x ∷ xs) = leb x most && is_most most xs

most_at : (most : ℕ) (xs : List ℕ) (i : ℕ) → is_most most xs ≡ true → slice_index xs i ≤ most
unfolding is_most
most_at most [] i e = omega arith
most_at most (x ∷ xs) zero e = leb-true x most (and_parts (leb x most) (is_most most xs) e).0
most_at most (x ∷ xs) (suc i) e = most_at most xs i (and_parts (leb x most) (is_most most xs) e).1

-- ---- counts and letters

count_row : ℕ → Men → Bool
count_row k m = same (take 16 (drop (k * 16) COUNTS)) (values (count_of (pieces m)) 16 0)

count_rows : each count_row 0 tables ≡ true
unfolding each same values count_of pieces count_row
count_rows = refl

pub count_table : (k c : ℕ) → k < 145 → c < 16 → slice_index COUNTS (k * 16 + c) ≡ count_of (pieces_of k) c
unfolding pieces count_row pieces_of
count_table k c kk cc16 = row_at COUNTS (count_of (pieces_of k)) 16 (k * 16) c (each_key count_row count_rows k kk) cc16

pub count_most : (i : ℕ) → i < 2320 → slice_index COUNTS i ≤ 3
unfolding is_most
count_most i lt = most_at 3 COUNTS i refl

letter_row : ℕ → Men → Bool
letter_row k m = same (take 6 (drop (k * 6) LETTERS)) (values (slice_index (name_of m)) 6 0)

letter_rows : each letter_row 0 tables ≡ true
unfolding each same values letter_row
letter_rows = refl

pub letter_table : (k i : ℕ) → k < 145 → i < 6 → slice_index LETTERS (k * 6 + i) ≡ slice_index (name_at k) i
unfolding letter_row
letter_table k i kk ii = row_at LETTERS (slice_index (name_at k)) 6 (k * 6) i (each_key letter_row letter_rows k kk) ii

pub letter_most : (i : ℕ) → i < 870 → slice_index LETTERS i ≤ 127
unfolding is_most
letter_most i lt = most_at 127 LETTERS i refl

-- the key of a name is where the look-up looks
pub place_table : (k : ℕ) → k < 145 → key_by_name (name_at k) ≡ k
unfolding each key_by_name
place_table k lt = eqb-true _ _ (each_key (λ k m. eqb (key_by_name (name_of m)) k) refl k lt)

-- ---- lengths of names

length_test : (k : ℕ) → k < 145 → eqb (length (name_at k)) (cond (ltb k 5) 4 (cond (ltb k 35) 5 6)) ≡ true
unfolding each
length_test k lt = each_key (λ k m. eqb (length (name_of m)) (cond (ltb k 5) 4 (cond (ltb k 35) 5 6))) refl k lt

pub length_four : (k : ℕ) → k < 5 → length (name_at k) ≡ 4
length_four k lt = rw (lt-ltb k 5 lt) at (eqb-true _ _ (length_test k (omega arith)))

pub length_five : (k : ℕ) → 5 ≤ k → k < 35 → length (name_at k) ≡ 5
length_five k le lt = rw (le-ltb k 5 le, lt-ltb k 35 lt) at (eqb-true _ _ (length_test k (omega arith)))

pub length_six : (k : ℕ) → 35 ≤ k → k < 145 → length (name_at k) ≡ 6
length_six k le lt =
    let le5 : 5 ≤ k = omega arith in
    rw (le-ltb k 5 le5, le-ltb k 35 le) at (eqb-true _ _ (length_test k lt))

-- ---- the same men

same-refl : (xs : List ℕ) → same xs xs ≡ true
unfolding same
same-refl [] = refl
same-refl (x ∷ xs) = rw (eq-eqb x x refl, same-refl xs) refl

symmetric_test : (k : ℕ) → k < 145 → slice_index_or SYMMETRIC k false ≡ same (men_of k).first (men_of k).second
unfolding each same agrees
symmetric_test k lt = agrees-true _ _ (each_key (λ k m. agrees (slice_index_or SYMMETRIC k false) (same m.first m.second)) refl k lt)

pub symmetric_table : (k : ℕ) → k < 145 → IsTrue (slice_index_or SYMMETRIC k false) ↔ ((men_of k).first ≡ (men_of k).second)
symmetric_table k lt = (
  λ t. same-true _ _ (sym (symmetric_test k lt) ∙ t),
  λ e. symmetric_test k lt ∙ ap (λ xs. same (men_of k).first xs) (sym e) ∙ same-refl (men_of k).first,
)

-- ---- leading pawns

pub leading_code_table : (k : ℕ) → k < 145 → slice_index LEADING_PAWNS k ≡ leading_code k
unfolding each pieces count_of lead_code leading_code white_in black_in pawns_in black_leads_in lead_code_in leading_code_in
leading_code_table k lt = eqb-true _ _ (each_pieces (λ k ps. eqb (slice_index LEADING_PAWNS k) (leading_code_in ps)) refl k lt)

lead_code_test : (k : ℕ) → k < 145 → eqb (cond (eqb (leading_code k) 0) 1 (leading_code k)) (lead_code k) ≡ true
unfolding each pieces count_of lead_code leading_code white_in black_in pawns_in black_leads_in lead_code_in leading_code_in
lead_code_test k lt = each_pieces (λ k ps. eqb (cond (eqb (leading_code_in ps) 0) 1 (leading_code_in ps)) (lead_code_in ps)) refl k lt

-- without pawns the word for the leading pawns' code is white's
pub lead_code_none : (k : ℕ) → k < 145 → leading_code k ≡ 0 → 1 ≡ lead_code k
lead_code_none k lt e = eqb-true _ _ (rw (eq-eqb (leading_code k) 0 e) at (lead_code_test k lt))

pub lead_code_some : (k : ℕ) → k < 145 → leading_code k ≢ 0 → leading_code k ≡ lead_code k
lead_code_some k lt ne = eqb-true _ _ (rw (ne_eqb (leading_code k) 0 ne) at (lead_code_test k lt))

pub lead_code_known : (k : ℕ) → IsPieceCode (lead_code k)
unfolding lead_code
lead_code_known k =
    elim (cases_Bool (black_leads k)) [
      | inl t ↦ rw t (inr (omega arith, omega arith))
      | inr f ↦ rw f (inl (omega arith, omega arith))
    ]

pub pawned_table : (k : ℕ) → k < 145 → not (eqb (leading_code k) 0) ≡ leb 1 (white_pawns k + black_pawns k)
unfolding each agrees pieces count_of lead_code leading_code white_in black_in pawns_in black_leads_in lead_code_in leading_code_in
pawned_table k lt = agrees-true _ _ (each_pieces (λ k ps. agrees (not (eqb (leading_code_in ps) 0)) (leb 1 (white_in ps + black_in ps))) refl k lt)
