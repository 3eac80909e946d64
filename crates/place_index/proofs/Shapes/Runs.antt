-- Runs of equal pieces.
use Rattle.std.proofs.Common.{◌≡◌, ◌≢◌, ℕ, ◌+◌, ◌-◌, ◌<◌, ◌≤◌, cond, eqb, List, [], ◌∷◌, ◌++◌, length, drop, get_or, refl, sym, ap, ◌∙◌, inl, inr, arith, append_assoc, length-append}
use Rattle.std.specs.Prelude.{sum_by}
use Rattle.std.proofs.lemmas.Bool.{cases_lt, cases_eq, eq-eqb, ne_eqb}
use Rattle.std.proofs.lemmas.List.{drop_more, drop_all, append-nil}
use Rattle.std.proofs.lemmas.List.Sums.{sum_by-cons}
use Rattle.place_index.specs.Shape.{group, runs, joined_to_groups}
use Rattle.place_index.specs.declared.group.Group.{Group}

-- ---- forward, with how many equal pieces were before

pub runs_from : ℕ → List ℕ → List Group
runs_from before [] = []
runs_from before (x ∷ []) = group x (before + 1) ∷ []
runs_from before (x ∷ y ∷ rest) = cond (eqb x y) (runs_from (before + 1) (y ∷ rest)) (group x (before + 1) ∷ runs_from 0 (y ∷ rest))

goes_on : (before x y : ℕ) (rest : List ℕ) → x ≡ y → runs_from before (x ∷ y ∷ rest) ≡ runs_from (before + 1) (y ∷ rest)
unfolding runs_from
goes_on before x y rest e = rw (eq-eqb x y e) refl

stops : (before x y : ℕ) (rest : List ℕ) → x ≢ y → runs_from before (x ∷ y ∷ rest) ≡ group x (before + 1) ∷ runs_from 0 (y ∷ rest)
unfolding runs_from
stops before x y rest ne = rw (ne_eqb x y ne) refl

stops_last : (before x : ℕ) → runs_from before (x ∷ []) ≡ group x (before + 1) ∷ runs_from 0 []
unfolding runs_from
stops_last before x = refl

pub no_runs : (before : ℕ) → runs_from before [] ≡ []
unfolding runs_from
no_runs before = refl

-- the first run has so many men more
raised : ℕ → List Group → List Group
raised n [] = []
raised n (g ∷ rest) = group g.code (g.men + n) ∷ rest

raised_none : (gs : List Group) → raised 0 gs ≡ gs
unfolding raised
raised_none [] = refl
raised_none (g ∷ rest) =
    let same : g.men + 0 ≡ g.men = omega arith in
    ap (λ n. group g.code n ∷ rest) same

-- a run of the first piece comes first
record Starts (x : ℕ) (gs : List Group) : Type 0 where
  men : ℕ
  rest : List Group
  is : gs ≡ group x men ∷ rest

starts_joined : (x : ℕ) (gs : List Group) → Starts x (joined_to_groups x gs)
starts_joined x [] = record { men = 1; rest = []; is = refl }
starts_joined x (g ∷ rest) =
    elim (cases_eq x g.code) [
      | inl e ↦ record { men = g.men + 1; rest = rest; is = rw (eq-eqb x g.code e) refl }
      | inr ne ↦ record { men = 1; rest = g ∷ rest; is = rw (ne_eqb x g.code ne) refl }
    ]

starts : (x : ℕ) (rest : List ℕ) → Starts x (runs (x ∷ rest))
unfolding runs
starts x rest = starts_joined x (runs rest)

forward : (before : ℕ) (xs : List ℕ) → runs_from before xs ≡ raised before (runs xs)
unfolding raised runs
forward before [] = no_runs before
forward before (x ∷ []) =
    let more : before + 1 ≡ 1 + before = omega arith in
    stops_last before x ∙ ap (λ l. group x (before + 1) ∷ l) (no_runs 0) ∙ ap (λ n. group x n ∷ []) more
forward before (x ∷ y ∷ rest) =
    let first = starts y rest in
    elim (cases_eq x y) [
      | inl e ↦
          let more : first.men + (before + 1) ≡ first.men + 1 + before = omega arith in
          goes_on before x y rest e ∙ forward (before + 1) (y ∷ rest) ∙ ap (raised (before + 1)) first.is
          ∙ ap (λ n. group y n ∷ first.rest) more ∙ ap (λ z. group z (first.men + 1 + before) ∷ first.rest) (sym e)
          ∙ sym (ap (raised before) (ap (joined_to_groups x) first.is ∙ join x y first.men first.rest e))
      | inr ne ↦
          let more : before + 1 ≡ 1 + before = omega arith in
          stops before x y rest ne ∙ ap (λ l. group x (before + 1) ∷ l) (forward 0 (y ∷ rest) ∙ raised_none (runs (y ∷ rest)) ∙ first.is)
          ∙ ap (λ n. group x n ∷ group y first.men ∷ first.rest) more
          ∙ sym (ap (raised before) (ap (joined_to_groups x) first.is ∙ begin x y first.men first.rest ne))
    ]
  where
    join : (x y men : ℕ) (rest : List Group) → x ≡ y → joined_to_groups x (group y men ∷ rest) ≡ group x (men + 1) ∷ rest
    join x y men rest e = rw (eq-eqb x y e) refl

    begin : (x y men : ℕ) (rest : List Group) → x ≢ y → joined_to_groups x (group y men ∷ rest) ≡ group x 1 ∷ group y men ∷ rest
    begin x y men rest ne = rw (ne_eqb x y ne) refl

pub runs_forward : (xs : List ℕ) → runs_from 0 xs ≡ runs xs
runs_forward xs = forward 0 xs ∙ raised_none (runs xs)

-- ---- the loop

-- the piece at an index is equal to the next one
pub run_goes : (before : ℕ) (xs : List ℕ) (i : ℕ) → i + 1 < length xs → get_or xs (i + 1) 0 ≡ get_or xs i 0 → runs_from before (drop i xs) ≡ runs_from (before + 1) (drop (i + 1) xs)
run_goes before xs i lt e =
    let here : i < length xs = omega (arith, lt) in
    ap (runs_from before) (drop_more xs i 0 here ∙ ap (λ l. get_or xs i 0 ∷ l) (drop_more xs (i + 1) 0 lt))
    ∙ goes_on before (get_or xs i 0) (get_or xs (i + 1) 0) (drop (i + 1 + 1) xs) (sym e)
    ∙ ap (runs_from (before + 1)) (sym (drop_more xs (i + 1) 0 lt))

-- it is the last one, or differs from the next one
pub run_ends : (before : ℕ) (xs : List ℕ) (i : ℕ) → i < length xs → (i + 1 < length xs → get_or xs (i + 1) 0 ≡ get_or xs i 0 → ⊥)
    → runs_from before (drop i xs) ≡ group (get_or xs i 0) (before + 1) ∷ runs_from 0 (drop (i + 1) xs)
run_ends before xs i here other =
    elim (cases_lt (i + 1) (length xs)) [
      | inl lt ↦
          ap (runs_from before) (drop_more xs i 0 here ∙ ap (λ l. get_or xs i 0 ∷ l) (drop_more xs (i + 1) 0 lt))
          ∙ stops before (get_or xs i 0) (get_or xs (i + 1) 0) (drop (i + 1 + 1) xs) (λ e. other lt (sym e))
          ∙ ap (λ l. group (get_or xs i 0) (before + 1) ∷ runs_from 0 l) (sym (drop_more xs (i + 1) 0 lt))
      | inr last ↦
          ap (runs_from before) (drop_more xs i 0 here ∙ ap (λ l. get_or xs i 0 ∷ l) (drop_all (i + 1) xs last))
          ∙ stops_last before (get_or xs i 0)
          ∙ ap (λ l. group (get_or xs i 0) (before + 1) ∷ runs_from 0 l) (sym (drop_all (i + 1) xs last))
    ]

-- The runs before an index are in the list, and the run that goes on there began at `start`.
pub record IsScanned (pieces : List ℕ) (lead start i : ℕ) (groups : List Group) : Type 0 where
  pub is : groups ++ runs_from (i - start) (drop i pieces) ≡ group (get_or pieces 0 0) lead ∷ runs_from 0 (drop lead pieces)
  pub low : lead ≤ start
  pub high : start ≤ i
  pub few : length groups ≤ 1 + (i - lead)

pub scanned_none : (pieces : List ℕ) (lead : ℕ) → IsScanned pieces lead lead lead (group (get_or pieces 0 0) lead ∷ [])
scanned_none pieces lead =
    let none : lead - lead ≡ 0 = omega arith in
    record { is = ap (λ b. group (get_or pieces 0 0) lead ∷ runs_from b (drop lead pieces)) none; low = omega arith; high = omega arith; few = omega arith }

pub scanned_on : (pieces : List ℕ) (lead start i : ℕ) (groups : List Group) → IsScanned pieces lead start i groups → i + 1 < length pieces → get_or pieces (i + 1) 0 ≡ get_or pieces i 0
    → IsScanned pieces lead start (i + 1) groups
scanned_on pieces lead start i groups s lt e =
    let more : i - start + 1 ≡ i + 1 - start = omega (arith, s.high) in
    record {
      is = ap (λ b. groups ++ runs_from b (drop (i + 1) pieces)) (sym more) ∙ ap (λ l. groups ++ l) (sym (run_goes (i - start) pieces i lt e)) ∙ s.is;
      low = s.low;
      high = omega (arith, s.high);
      few = omega (arith, s.few);
    }

pub scanned_end : (pieces : List ℕ) (lead start i men : ℕ) (groups : List Group) → IsScanned pieces lead start i groups → i < length pieces → men ≡ i + 1 - start
    → (i + 1 < length pieces → get_or pieces (i + 1) 0 ≡ get_or pieces i 0 → ⊥)
    → IsScanned pieces lead (i + 1) (i + 1) (groups ++ group (get_or pieces i 0) men ∷ [])
scanned_end pieces lead start i men groups s here men-is other =
    let more : men ≡ i - start + 1 = omega (arith, men-is, s.high) in
    let none : i + 1 - (i + 1) ≡ 0 = omega arith in
    record {
      is = append_assoc groups (group (get_or pieces i 0) men ∷ []) (runs_from (i + 1 - (i + 1)) (drop (i + 1) pieces))
          ∙ ap (λ m. groups ++ group (get_or pieces i 0) m ∷ runs_from (i + 1 - (i + 1)) (drop (i + 1) pieces)) more
          ∙ ap (λ b. groups ++ group (get_or pieces i 0) (i - start + 1) ∷ runs_from b (drop (i + 1) pieces)) none
          ∙ ap (λ l. groups ++ l) (sym (run_ends (i - start) pieces i here other)) ∙ s.is;
      low = omega (arith, s.low, s.high);
      high = omega arith;
      few = omega (arith, s.few, s.low, s.high, length-append groups (group (get_or pieces i 0) men ∷ []));
    }

pub scanned_all : (pieces : List ℕ) (lead start i : ℕ) (groups : List Group) → IsScanned pieces lead start i groups → length pieces ≤ i
    → groups ≡ group (get_or pieces 0 0) lead ∷ runs (drop lead pieces)
scanned_all pieces lead start i groups s all =
    sym (append-nil groups) ∙ ap (λ l. groups ++ l) (sym (no_runs (i - start))) ∙ ap (λ l. groups ++ runs_from (i - start) l) (sym (drop_all i pieces all)) ∙ s.is
    ∙ ap (λ l. group (get_or pieces 0 0) lead ∷ l) (runs_forward (drop lead pieces))

-- all men of the runs
pub men_of_runs : (before : ℕ) (xs : List ℕ) → 1 ≤ length xs → sum_by (λ g. g.men) (runs_from before xs) ≡ before + length xs
men_of_runs before [] some = absurd (omega (arith, some))
men_of_runs before (x ∷ []) some =
    ap (sum_by (λ g. g.men)) (stops_last before x ∙ ap (λ l. group x (before + 1) ∷ l) (no_runs 0)) ∙ omega arith
men_of_runs before (x ∷ y ∷ rest) some =
    elim (cases_eq x y) [
      | inl e ↦ ap (sum_by (λ g. g.men)) (goes_on before x y rest e) ∙ men_of_runs (before + 1) (y ∷ rest) (omega arith) ∙ omega arith
      | inr ne ↦
          ap (sum_by (λ g. g.men)) (stops before x y rest ne)
          ∙ sum_by-cons (λ g. g.men) (group x (before + 1)) (runs_from 0 (y ∷ rest))
          ∙ omega (arith, men_of_runs 0 (y ∷ rest) (omega arith))
    ]
