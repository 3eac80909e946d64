-- File names, and what materials say.
use Rattle.std.proofs.Common.{◌≡◌, ℕ, zero, suc, ◌+◌, ◌-◌, ◌<◌, ◌≤◌, Bool, true, false, eqb, leb, List, [], ◌∷◌, ◌++◌, length, take, drop, slice_index, Result, Ok, Err, refl, sym, ap, ◌∙◌, inl, inr, arith, length-append}
use Rattle.std.specs.Prelude.{◌&&◌}
use Rattle.std.proofs.lemmas.Bool.{cases_Bool, cases_eq, false≢true, eqb-true, eq-eqb, ne_eqb, and_parts, and_from, leb-true, agree_below_at}
use Rattle.place_index.specs.Material.{TablesAreNumbered, men_of, name_at, pieces_of, count_of}
use Rattle.place_index.specs.Shape.{both_have_pawns}
use Rattle.table_file.specs.declared.fault.TableFault.{TableFault}
use Rattle.table_file.specs.declared.fault.TableFault.TheVariants.{BadName}
use Rattle.table_file.specs.declared.kind.TableKind.{TableKind}
use Rattle.table_file.specs.declared.kind.TableKind.TheVariants.{Wdl, Dtz}
use Rattle.table_file.specs.Names.{NamesDiffer, equal, ending, file_name, title_among, title_of}

-- ---- equal lists

pub equal_true : (xs ys : List ℕ) → equal xs ys ≡ true → xs ≡ ys
equal_true [] [] e = refl
equal_true [] (y ∷ ys) e = absurd (false≢true e)
equal_true (x ∷ xs) [] e = absurd (false≢true e)
equal_true (x ∷ xs) (y ∷ ys) e =
    let both = and_parts (eqb x y) (equal xs ys) e in
    let head = eqb-true x y both.0 in
    let tail = equal_true xs ys both.1 in
    cc

pub equal_refl : (xs : List ℕ) → equal xs xs ≡ true
equal_refl [] = refl
equal_refl (x ∷ xs) = and_from (eqb x x) (equal xs xs) (eq-eqb x x refl) (equal_refl xs)

pub equal_same : (xs ys : List ℕ) → xs ≡ ys → equal xs ys ≡ true
equal_same xs ys e = ap (λ zs. equal xs zs) (sym e) ∙ equal_refl xs

pub equal_other : (xs ys : List ℕ) → (xs ≡ ys → ⊥) → equal xs ys ≡ false
equal_other xs ys ne =
    elim (cases_Bool (equal xs ys)) [
      | inl same ↦ absurd (ne (equal_true xs ys same))
      | inr other ↦ other
    ]

-- a test of equality is this one
pub equal_by : (b : Bool) (xs ys : List ℕ) → (b ≡ true → xs ≡ ys) → (xs ≡ ys → b ≡ true) → b ≡ equal xs ys
equal_by b xs ys to from =
    elim (cases_Bool b) [
      | inl same ↦ same ∙ sym (equal_same xs ys (to same))
      | inr other ↦ other ∙ sym (equal_other xs ys (λ e. false≢true (sym other ∙ from e)))
    ]

-- ---- file names

front_of : (xs ys : List ℕ) → take (length xs) (xs ++ ys) ≡ xs
front_of [] ys = refl
front_of (x ∷ xs) ys = ap (λ zs. x ∷ zs) (front_of xs ys)

back_of : (xs ys : List ℕ) → drop (length xs) (xs ++ ys) ≡ ys
back_of [] ys = refl
back_of (x ∷ xs) ys = back_of xs ys

length_ending : (kind : TableKind) → length (ending kind) ≡ 5
length_ending Wdl = refl
length_ending Dtz = refl

length_name : (kind : TableKind) (m : ℕ) → length (file_name kind m) ≡ length (name_at m) + 5
unfolding file_name
length_name kind m = omega (arith, length-append (name_at m) (ending kind), length_ending kind)

pub long_name : (kind : TableKind) (m : ℕ) (name : List ℕ) → name ≡ file_name kind m → 5 ≤ length name
long_name kind m name e = omega (arith, ap length e, length_name kind m)

-- the two pieces of a file name
pub name_front : (kind : TableKind) (m : ℕ) (name : List ℕ) → name ≡ file_name kind m → take (length name - 5) name ≡ name_at m
unfolding file_name
name_front kind m name e =
    let n : length name - 5 ≡ length (name_at m) = omega (arith, ap length e, length_name kind m) in
    rw (n, e) (front_of (name_at m) (ending kind))

pub name_back : (kind : TableKind) (m : ℕ) (name : List ℕ) → name ≡ file_name kind m → drop (length name - 5) name ≡ ending kind
unfolding file_name
name_back kind m name e =
    let n : length name - 5 ≡ length (name_at m) = omega (arith, ap length e, length_name kind m) in
    rw (n, e) (back_of (name_at m) (ending kind))

last_of : TableKind → ℕ
last_of kind = slice_index (ending kind) 4

other_ending : ending Wdl ≡ ending Dtz → ⊥
other_ending e = omega (arith, ap (λ xs. slice_index xs 4) e)

not_dtz : (m n : ℕ) (name : List ℕ) → name ≡ file_name Wdl m → name ≡ file_name Dtz n → ⊥
not_dtz m n name a b = other_ending (sym (name_back Wdl m name a) ∙ name_back Dtz n name b)

pub same_material : TablesAreNumbered → (kind other : TableKind) (m n : ℕ) (name : List ℕ) → m < 145 → n < 145 → name ≡ file_name kind m → name ≡ file_name other n → m ≡ n
same_material law kind other m n name mm nn a b = law.2 m n mm nn (sym (name_front kind m name a) ∙ name_front other n name b)

-- ---- the title of a name

here_wdl : (m : ℕ) (name : List ℕ) → name ≡ file_name Wdl m → title_among (suc m) name ≡ Ok (Wdl, m)
unfolding title_among
here_wdl m name e = rw (equal_same name (file_name Wdl m) e) refl

here_dtz : (m : ℕ) (name : List ℕ) → name ≡ file_name Dtz m → title_among (suc m) name ≡ Ok (Dtz, m)
unfolding title_among
here_dtz m name e = rw (equal_other name (file_name Wdl m) (λ w. not_dtz m m name w e), equal_same name (file_name Dtz m) e) refl

here : (kind : TableKind) (m : ℕ) (name : List ℕ) → name ≡ file_name kind m → title_among (suc m) name ≡ Ok (kind, m)
here Wdl m name e = here_wdl m name e
here Dtz m name e = here_dtz m name e

passed : (m : ℕ) (name : List ℕ) → ((kind : TableKind) → name ≡ file_name kind m → ⊥) → title_among (suc m) name ≡ title_among m name
unfolding title_among
passed m name none = rw (equal_other name (file_name Wdl m) (none Wdl), equal_other name (file_name Dtz m) (none Dtz)) refl

title_found : TablesAreNumbered → (n : ℕ) (kind : TableKind) (m : ℕ) (name : List ℕ) → m < n → n ≤ 145 → name ≡ file_name kind m → title_among n name ≡ Ok (kind, m)
title_found law zero kind m name lt few e = absurd (omega arith)
title_found law (suc n) kind m name lt few e =
    elim (cases_eq n m) [
      | inl same ↦ rw same (here kind m name e)
      | inr ne ↦
          passed n name (λ other f. ne (same_material law other kind n m name (omega (arith, few)) (omega (arith, lt, few)) f e))
          ∙ title_found law n kind m name (omega (arith, lt, ne)) (omega (arith, few)) e
    ]

title_none : (n : ℕ) (name : List ℕ) → ((kind : TableKind) (m : ℕ) → m < n → name ≡ file_name kind m → ⊥) → title_among n name ≡ Err BadName
unfolding title_among
title_none zero name none = refl
title_none (suc n) name none =
    passed n name (λ kind. none kind n (omega arith)) ∙ title_none n name (λ kind m lt. none kind m (omega (arith, lt)))

pub title_is : TablesAreNumbered → (kind : TableKind) (m : ℕ) (name : List ℕ) → m < 145 → name ≡ file_name kind m → title_of name ≡ Ok (kind, m)
unfolding title_of
title_is law kind m name lt e = title_found law 145 kind m name lt (omega arith) e

pub no_title : (name : List ℕ) → ((kind : TableKind) (m : ℕ) → m < 145 → name ≡ file_name kind m → ⊥) → title_of name ≡ Err BadName
unfolding title_of
no_title name none = title_none 145 name none

title_or : TableKind × ℕ → Result (TableKind × ℕ) TableFault → TableKind × ℕ
title_or other (Ok title) = title
title_or other (Err fault) = other

same_title : (title other : TableKind × ℕ) (r : Result (TableKind × ℕ) TableFault) → r ≡ Ok title → r ≡ Ok other → (title.0 ≡ other.0) × (title.1 ≡ other.1)
unfolding title_or
same_title title other r x y = (ap (λ t. (title_or title t).0) (sym x ∙ y), ap (λ t. (title_or title t).1) (sym x ∙ y))

pub names_of_two : TablesAreNumbered → NamesDiffer
names_of_two law kind other j k jj kk e =
    same_title (kind, j) (other, k) (title_of (file_name kind j)) (title_is law kind j (file_name kind j) jj refl) (title_is law other k (file_name kind j) kk e)

-- a name from its two pieces
pub joined_name : (kind : TableKind) (m k : ℕ) (name : List ℕ) → take k name ≡ name_at m → drop k name ≡ ending kind → name ≡ file_name kind m
unfolding file_name
joined_name kind m k name front back = sym (whole k name) ∙ ap (λ xs. xs ++ drop k name) front ∙ ap (λ ys. name_at m ++ ys) back
  where
    whole : (k : ℕ) (xs : List ℕ) → take k xs ++ drop k xs ≡ xs
    whole zero xs = refl
    whole (suc k) [] = refl
    whole (suc k) (x ∷ xs) = ap (λ ys. x ∷ ys) (whole k xs)

-- ---- what names say of men

men_test : (k : ℕ) → k < 145 → eqb (length (name_at k)) (suc (length (pieces_of k))) ≡ true
unfolding men_of pieces_of
men_test k lt = agree_below_at (λ k. eqb (length (name_at k)) (suc (length (pieces_of k)))) (λ k. true) 145 k refl lt

pub men_by_name : (k : ℕ) → k < 145 → length (name_at k) ≡ suc (length (pieces_of k))
men_by_name k lt = eqb-true _ _ (men_test k lt)

most_test : (k : ℕ) → k < 145 → leb (length (pieces_of k)) 5 ≡ true
unfolding men_of pieces_of
most_test k lt = agree_below_at (λ k. leb (length (pieces_of k)) 5) (λ k. true) 145 k refl lt

pub few_men : (k : ℕ) → k < 145 → length (pieces_of k) ≤ 5
few_men k lt = leb-true _ _ (most_test k lt)

least_test : (k : ℕ) → k < 145 → leb 4 (length (name_at k)) ≡ true
unfolding men_of
least_test k lt = agree_below_at (λ k. leb 4 (length (name_at k))) (λ k. true) 145 k refl lt

pub long_men : (k : ℕ) → k < 145 → 4 ≤ length (name_at k)
long_men k lt = leb-true _ _ (least_test k lt)

-- both sides have pawns, by the last letters of the two sides
abbrev pub both_by_name : List ℕ → Bool
both_by_name name = eqb (slice_index name (length name - 1)) 80 && eqb (slice_index name (length name - 4)) 80

pub both_is : (k : ℕ) → k < 145 → both_by_name (name_at k) ≡ both_have_pawns k
unfolding men_of pieces_of count_of
both_is k lt = agree_below_at (λ k. both_by_name (name_at k)) (λ k. both_have_pawns k) 145 k refl lt

pub both_then : (name : List ℕ) → slice_index name (length name - 1) ≡ 80 → eqb (slice_index name (length name - 4)) 80 ≡ both_by_name name
both_then name e = rw (eq-eqb (slice_index name (length name - 1)) 80 e) refl

pub both_else : (name : List ℕ) → (slice_index name (length name - 1) ≡ 80 → ⊥) → eqb (slice_index name (length name - 1)) 80 ≡ both_by_name name
both_else name ne = rw (ne_eqb (slice_index name (length name - 1)) 80 ne) refl
