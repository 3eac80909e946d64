-- Tests of all tables by one walk.
use Rattle.std.proofs.Common.{◌≡◌, ℕ, zero, suc, ◌+◌, ◌<◌, Bool, true, false, cond, List, [], ◌∷◌, ◌++◌, map, length, refl, sym, subst, arith}
use Rattle.std.specs.Prelude.{slice_index_or, not, nat_lt, ◌==◌, ◌&&◌, ◌||◌}
use Rattle.std.specs.List.{list_any}
use Rattle.std.proofs.lemmas.Bool.{and_parts}
use Rattle.place_index.specs.Material.{Men, tables, alone, men_of, pieces_of, count_of}
use Rattle.place_index.specs.Shape.{is_king_code}

-- A test of each key and its men. The list of the tables is made once, and not once a key.

unfoldable pub each : (ℕ → Men → Bool) → ℕ → List Men → Bool
each test k [] = true
each test k (m ∷ ms) = test k m && each test (suc k) ms

each_from : (test : ℕ → Men → Bool) (ms : List Men) (n k : ℕ) → each test n ms ≡ true → k < length ms → test (n + k) (slice_index_or ms k (alone [])) ≡ true
unfolding each
each_from test [] n k e lt = absurd (omega arith)
each_from test (m ∷ ms) n zero e lt =
    let at : n ≡ n + 0 = omega arith in
    subst (λ j. test j m ≡ true) at (and_parts (test n m) (each test (suc n) ms) e).0
each_from test (m ∷ ms) n (suc k) e lt =
    let at : suc n + k ≡ n + suc k = omega arith in
    subst (λ j. test j (slice_index_or ms k (alone [])) ≡ true) at (each_from test ms (suc n) k (and_parts (test n m) (each test (suc n) ms) e).1 (omega arith))

tables_number : length tables ≡ 145
tables_number = refl

pub each_key : (test : ℕ → Men → Bool) → each test 0 tables ≡ true → (k : ℕ) → k < 145 → test k (men_of k) ≡ true
unfolding men_of
each_key test e k lt =
    let at : 0 + k ≡ k = omega arith in
    subst (λ j. test j (slice_index_or tables k (alone [])) ≡ true) at (each_from test tables 0 k e (rw tables_number lt))

unfoldable pub pieces : Men → List ℕ
pieces m = 6 ∷ 14 ∷ m.first ++ map (λ c. 8 + c) m.second

-- the same of its pieces
pub each_pieces : (test : ℕ → List ℕ → Bool) → each (λ k m. test k (pieces m)) 0 tables ≡ true → (k : ℕ) → k < 145 → test k (pieces_of k) ≡ true
unfolding pieces pieces_of
each_pieces test e k lt = each_key (λ j m. test j (pieces m)) e k lt

-- ---- what a key is asked for, asked of its pieces

unfoldable pub white_in : List ℕ → ℕ
white_in ps = count_of ps 1

unfoldable pub black_in : List ℕ → ℕ
black_in ps = count_of ps 9

unfoldable pub pawns_in : List ℕ → Bool
pawns_in ps = not (white_in ps + black_in ps == 0)

unfoldable pub black_leads_in : List ℕ → Bool
black_leads_in ps = not (black_in ps == 0) && (white_in ps == 0 || nat_lt (black_in ps) (white_in ps))

unfoldable pub lead_code_in : List ℕ → ℕ
lead_code_in ps = cond (black_leads_in ps) 9 1

unfoldable pub leading_code_in : List ℕ → ℕ
leading_code_in ps = cond (pawns_in ps) (lead_code_in ps) 0

unfoldable pub lead_pawns_in : List ℕ → ℕ
lead_pawns_in ps = cond (black_leads_in ps) (black_in ps) (white_in ps)

unfoldable pub other_pawns_in : List ℕ → ℕ
other_pawns_in ps = cond (black_leads_in ps) (white_in ps) (black_in ps)

unfoldable pub unique_in : List ℕ → Bool
unique_in ps = list_any (λ c. not (is_king_code c) && count_of ps c == 1) ps

unfoldable pub lead_men_in : List ℕ → ℕ
lead_men_in ps = cond (pawns_in ps) (lead_pawns_in ps) (cond (unique_in ps) 3 2)

-- ---- tests compared

unfoldable pub agrees : Bool → Bool → Bool
agrees true b = b
agrees false b = not b

pub agrees-true : (a b : Bool) → agrees a b ≡ true → a ≡ b
unfolding agrees
agrees-true true b e = sym e
agrees-true false true e = e
agrees-true false false e = refl
