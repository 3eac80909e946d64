-- The groups of a shape: each has all men of its code, and different groups have different codes.
use Rattle.std.proofs.Common.{◌≡◌, ◌≢◌, ℕ, zero, suc, ◌<◌, ◌≤◌, ◌⊎◌, eqb, List, [], ◌∷◌, length, drop, get_or, refl, sym, ap, ◌∙◌, subst, inl, inr, arith}
use Rattle.std.proofs.lemmas.Bool.{cases_lt, cases_eq, cases_Bool, eq-eqb, ne_eqb}
use Rattle.place_index.specs.Material.{count_of}
use Rattle.place_index.specs.Shape.{joined_to_groups, runs, IsSideBySide}
use Rattle.place_index.specs.declared.group.Group.{Group}
use Rattle.place_index.proofs.Materials.Arranging.{count_nil, count_hit, count_miss}
use Rattle.place_index.proofs.Indices.Factors.{IsApart}

-- ---- all codes of a list, all groups of a list

abbrev pub AllOf : (ℕ → Type 0) → List ℕ → Type 0
AllOf P [] = Unit {0}
AllOf P (x ∷ xs) = P x × AllOf P xs

abbrev pub AllGroups : (ℕ → Type 0) → List Group → Type 0
AllGroups P [] = Unit {0}
AllGroups P (g ∷ gs) = P g.code × AllGroups P gs

pub all_map : (P Q : ℕ → Type 0) (xs : List ℕ) → ((x : ℕ) → P x → Q x) → AllOf P xs → AllOf Q xs
all_map P Q [] f a = tt
all_map P Q (x ∷ xs) f a = (f x a.0, all_map P Q xs f a.1)

pub groups_map : (P Q : ℕ → Type 0) (gs : List Group) → ((x : ℕ) → P x → Q x) → AllGroups P gs → AllGroups Q gs
groups_map P Q [] f a = tt
groups_map P Q (g ∷ gs) f a = (f g.code a.0, groups_map P Q gs f a.1)

joined_all : (P : ℕ → Type 0) (x : ℕ) (gs : List Group) → P x → AllGroups P gs → AllGroups P (joined_to_groups x gs)
joined_all P x [] p a = (p, tt)
joined_all P x (g ∷ gs) p a = elim (cases_Bool (eqb x g.code)) [ inl t ↦ rw t (p, a.1) | inr f ↦ rw f (p, a) ]

all_joined : (P : ℕ → Type 0) (x : ℕ) (gs : List Group) → AllGroups P (joined_to_groups x gs) → P x × AllGroups P gs
all_joined P x [] a = (a.0, tt)
all_joined P x (g ∷ gs) a =
    elim (cases_eq x g.code) [
      | inl e ↦ let b = rw (eq-eqb x g.code e) at a in (b.0, (rw e at b.0, b.1))
      | inr ne ↦ rw (ne_eqb x g.code ne) at a
    ]

pub runs_all : (P : ℕ → Type 0) (xs : List ℕ) → AllOf P xs → AllGroups P (runs xs)
unfolding runs
runs_all P [] a = tt
runs_all P (x ∷ xs) a = joined_all P x (runs xs) a.0 (runs_all P xs a.1)

pub all_runs : (P : ℕ → Type 0) (xs : List ℕ) → AllGroups P (runs xs) → AllOf P xs
unfolding runs
all_runs P [] a = tt
all_runs P (x ∷ xs) a = let b = all_joined P x (runs xs) a in (b.0, all_runs P xs b.1)

pub all_apart : (c : ℕ) (xs : List ℕ) → count_of xs c ≡ 0 → AllOf (λ x. x ≢ c) xs
all_apart c [] e = tt
all_apart c (x ∷ xs) e =
    elim (cases_eq x c) [
      | inl same ↦ absurd (omega (arith, e, count_hit x xs, ap (count_of (x ∷ xs)) same))
      | inr ne ↦ (ne, all_apart c xs (omega (arith, e, count_miss x xs c ne)))
    ]

pub count_apart : (c : ℕ) (xs : List ℕ) → AllOf (λ x. x ≢ c) xs → count_of xs c ≡ 0
count_apart c [] a = count_nil c
count_apart c (x ∷ xs) a = count_miss x xs c a.0 ∙ count_apart c xs a.1

pub all_at : (P : ℕ → Type 0) (c : ℕ) (xs : List ℕ) → AllOf P xs → 1 ≤ count_of xs c → P c
all_at P c [] a some = absurd (omega (arith, some, count_nil c))
all_at P c (x ∷ xs) a some =
    elim (cases_eq x c) [
      | inl e ↦ rw e at a.0
      | inr ne ↦ all_at P c xs a.1 (omega (arith, some, count_miss x xs c ne))
    ]

-- ---- equal codes side by side, by the next one

abbrev pub IsSided : List ℕ → Type 0
IsSided [] = Unit {0}
IsSided (x ∷ []) = Unit {0}
IsSided (x ∷ y ∷ rest) = ((y ≡ x) ⊎ (count_of (y ∷ rest) x ≡ 0)) × IsSided (y ∷ rest)

found : (c : ℕ) (xs : List ℕ) → 1 ≤ count_of xs c → (i : ℕ) × (i < length xs) × (get_or xs i 0 ≡ c)
found c [] some = absurd (omega (arith, some, count_nil c))
found c (x ∷ xs) some =
    elim (cases_eq x c) [
      | inl e ↦ (0, omega arith, e)
      | inr ne ↦ let rest = found c xs (omega (arith, some, count_miss x xs c ne)) in (suc rest.0, omega (arith, rest.1), rest.2)
    ]

pub sided : (xs : List ℕ) → IsSideBySide xs → IsSided xs
sided [] s = tt
sided (x ∷ []) s = tt
sided (x ∷ y ∷ rest) s = (
  elim (cases_lt 0 (count_of (y ∷ rest) x)) [
    | inl some ↦
        let at = found x (y ∷ rest) some in
        inl (s 0 1 (suc at.0) (omega arith) (omega arith) (omega (arith, at.1)) (sym at.2) ∙ at.2)
    | inr none ↦ inr (omega (arith, none))
  ],
  sided (y ∷ rest) (λ i j k p q r e. s (suc i) (suc j) (suc k) (omega (arith, p)) (omega (arith, q)) (omega (arith, r)) e),
)

pub sided_drop : (n : ℕ) (xs : List ℕ) → IsSided xs → IsSided (drop n xs)
sided_drop zero xs s = s
sided_drop (suc n) [] s = tt
sided_drop (suc n) (x ∷ []) s = sided_drop n [] tt
sided_drop (suc n) (x ∷ y ∷ rest) s = sided_drop n (y ∷ rest) s.1

-- ---- runs have all men of their codes

abbrev pub AreRuns : List ℕ → List Group → Type 0
AreRuns xs [] = Unit {0}
AreRuns xs (g ∷ gs) = (g.men ≡ count_of xs g.code) × AllGroups (λ c. c ≢ g.code) gs × AreRuns xs gs

more_runs : (x : ℕ) (xs : List ℕ) (gs : List Group) → AllGroups (λ c. c ≢ x) gs → AreRuns xs gs → AreRuns (x ∷ xs) gs
more_runs x xs [] a r = tt
more_runs x xs (g ∷ gs) a r = (r.0 ∙ sym (count_miss x xs g.code (λ e. a.0 (sym e))), r.1, more_runs x xs gs a.1 r.2)

-- the first code of the runs
abbrev pub begins : ℕ → List Group → Type 0
begins x [] = ⊥
begins x (g ∷ gs) = g.code ≡ x

joined_begins : (x : ℕ) (gs : List Group) → begins x (joined_to_groups x gs)
joined_begins x [] = refl
joined_begins x (g ∷ gs) = elim (cases_Bool (eqb x g.code)) [ inl t ↦ rw t refl | inr f ↦ rw f refl ]

pub runs_begin : (x : ℕ) (xs : List ℕ) → begins x (runs (x ∷ xs))
unfolding runs
runs_begin x xs = joined_begins x (runs xs)

goes_on : (x : ℕ) (xs : List ℕ) (gs : List Group) → begins x gs → AreRuns xs gs → AreRuns (x ∷ xs) (joined_to_groups x gs)
goes_on x xs [] b r = absurd b
goes_on x xs (g ∷ gs) b r =
    let others = rw b at r.1 in
    rw (eq-eqb x g.code (sym b)) (omega (arith, r.0, ap (count_of xs) b, count_hit x xs), others, more_runs x xs gs others r.2)

starts_new : (x : ℕ) (xs : List ℕ) (gs : List Group) → count_of xs x ≡ 0 → AllGroups (λ c. c ≢ x) gs → AreRuns xs gs → AreRuns (x ∷ xs) (joined_to_groups x gs)
starts_new x xs [] none a r = (omega (arith, none, count_hit x xs), tt, tt)
starts_new x xs (g ∷ gs) none a r =
    rw (ne_eqb x g.code (λ e. a.0 (sym e))) (omega (arith, none, count_hit x xs), a, more_runs x xs (g ∷ gs) a r)

pub are_runs : (xs : List ℕ) → IsSided xs → AreRuns xs (runs xs)
unfolding runs
are_runs [] s = tt
are_runs (x ∷ []) s = starts_new x [] [] (count_nil x) tt tt
are_runs (x ∷ y ∷ rest) s =
    elim s.0 [
      | inl e ↦ goes_on x (y ∷ rest) (runs (y ∷ rest)) (subst (λ z. begins z (runs (y ∷ rest))) e (runs_begin y rest)) (are_runs (y ∷ rest) s.1)
      | inr none ↦ starts_new x (y ∷ rest) (runs (y ∷ rest)) none (runs_all (λ c. c ≢ x) (y ∷ rest) (all_apart x (y ∷ rest) none)) (are_runs (y ∷ rest) s.1)
    ]

-- ---- groups after earlier codes

abbrev pub AreGroups : List ℕ → List ℕ → List Group → Type 0
AreGroups pieces earlier [] = Unit {0}
AreGroups pieces earlier (g ∷ gs) = (g.men ≡ count_of pieces g.code) × IsApart g.code earlier × AreGroups pieces (g.code ∷ earlier) gs

both_apart : (c : ℕ) (earlier : List ℕ) (gs : List Group) → AllGroups (λ d. d ≢ c) gs → AllGroups (λ d. IsApart d earlier) gs → AllGroups (λ d. IsApart d (c ∷ earlier)) gs
both_apart c earlier [] a b = tt
both_apart c earlier (g ∷ gs) a b = (((λ e. a.0 (sym e)), b.0), both_apart c earlier gs a.1 b.1)

pub are_groups : (pieces xs earlier : List ℕ) (gs : List Group) → AreRuns xs gs → AllGroups (λ d. IsApart d earlier) gs → AllGroups (λ d. count_of pieces d ≡ count_of xs d) gs → AreGroups pieces earlier gs
are_groups pieces xs earlier [] r a same = tt
are_groups pieces xs earlier (g ∷ gs) r a same = (r.0 ∙ sym same.0, a.0, are_groups pieces xs (g.code ∷ earlier) gs r.2 (both_apart g.code earlier gs r.1 a.1) same.1)
