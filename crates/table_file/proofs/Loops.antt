-- Reading parts one after the other, as a loop does.
use Rattle.std.proofs.Common.{◌≡◌, ℕ, suc, ◌-◌, ◌+◌, ◌≤◌, ◌<◌, List, [], ◌∷◌, ◌++◌, length, Result, Ok, Err, refl, sym, ap, ◌∙◌, append_assoc, arith, inl, inr}
use Rattle.std.specs.Prelude.{◌⊎◌}
use Rattle.std.specs.List.{range_with_len}
use Rattle.std.proofs.lemmas.List.{append-nil}
use Rattle.table_file.specs.declared.fault.TableFault.{TableFault}
use Rattle.table_file.specs.declared.fault.TableFault.TheVariants.{BadName, BadSize, BadMagic, BadFlags, BadPieces, BadOrder, Truncated, BadExponent, BadCode, BadSymbol, BadSparse, OutOfMemory}
use Rattle.table_file.specs.Reading.{◌>>=◌, Fails, each_at}

abbrev Step : Type 0 → Type 0 → Type 0
Step A B = A → List ℕ → Result (B × List ℕ) TableFault

-- what was read before, and what is still read
abbrev pub with_front : {B : Type 0} → List B → Result (List B × List ℕ) TableFault → Result (List B × List ℕ) TableFault
with_front front read = read >>= λ x. Ok (front ++ x.0, x.1)

-- a fault is memory, or what is read
pub fault_is : {Y : Type 0} (e : TableFault) (read : Result Y TableFault) → Fails e read → (e ≡ OutOfMemory) ⊎ (read ≡ Err e)
fault_is BadName read h = inr h
fault_is BadSize read h = inr h
fault_is BadMagic read h = inr h
fault_is BadFlags read h = inr h
fault_is BadPieces read h = inr h
fault_is BadOrder read h = inr h
fault_is Truncated read h = inr h
fault_is BadExponent read h = inr h
fault_is BadCode read h = inr h
fault_is BadSymbol read h = inr h
fault_is BadSparse read h = inr h
fault_is OutOfMemory read h = inl refl

pub is_fault : {Y : Type 0} (e : TableFault) (read : Result Y TableFault) → (read ≡ Err e) → Fails e read
is_fault BadName read h = h
is_fault BadSize read h = h
is_fault BadMagic read h = h
is_fault BadFlags read h = h
is_fault BadPieces read h = h
is_fault BadOrder read h = h
is_fault Truncated read h = h
is_fault BadExponent read h = h
is_fault BadCode read h = h
is_fault BadSymbol read h = h
is_fault BadSparse read h = h
is_fault OutOfMemory read h = tt

-- a fault of a step is a fault of what goes on from it
pub fails_on : {X Y : Type 0} (e : TableFault) (one : Result X TableFault) (whole : Result Y TableFault) → Fails e one → ((one ≡ Err e) → whole ≡ Err e) → Fails e whole
fails_on e one whole h go =
    elim (fault_is e one h) [
      | inl memory ↦ rw memory tt
      | inr bad ↦ is_fault e whole (go bad)
    ]

regroup : {B : Type 0} (front : List B) (b : B) (read : Result (List B × List ℕ) TableFault) → with_front front (read >>= λ x. Ok (b ∷ x.0, x.1)) ≡ with_front (front ++ b ∷ []) read
regroup front b (Ok x) = ap (λ bs. Ok (bs, x.1)) (simp append_assoc)
regroup front b (Err f) = refl

pub goes_on : {A B : Type 0} (step : A → List ℕ → Result (B × List ℕ) TableFault) (front : List B) (a : A) (todo others : List A) (bytes : List ℕ) (b : B) (after : List ℕ) (total : Result (List B × List ℕ) TableFault)
    → todo ≡ a ∷ others → step a bytes ≡ Ok (b, after) → with_front front (each_at step todo bytes) ≡ total → with_front (front ++ b ∷ []) (each_at step others after) ≡ total
unfolding each_at
goes_on step front a todo others bytes b after total is h so_far =
    let one : with_front front (each_at step todo bytes) ≡ with_front (front ++ b ∷ []) (each_at step others after) = rw (is, h) (regroup front b (each_at step others after)) in
    sym one ∙ so_far

pub ends : {A B : Type 0} (e : TableFault) (step : A → List ℕ → Result (B × List ℕ) TableFault) (front : List B) (a : A) (todo others : List A) (bytes : List ℕ) (total : Result (List B × List ℕ) TableFault)
    → todo ≡ a ∷ others → Fails e (step a bytes) → with_front front (each_at step todo bytes) ≡ total → Fails e total
unfolding each_at
ends e step front a todo others bytes total is h so_far =
    fails_on e (step a bytes) total h (λ bad.
    let one : with_front front (each_at step todo bytes) ≡ Err e = rw (is, bad) refl in
    sym so_far ∙ one)

pub is_done : {A B : Type 0} (step : A → List ℕ → Result (B × List ℕ) TableFault) (front : List B) (todo : List A) (bytes : List ℕ) (total : Result (List B × List ℕ) TableFault)
    → todo ≡ [] → with_front front (each_at step todo bytes) ≡ total → total ≡ Ok (front, bytes)
unfolding each_at
is_done step front todo bytes total is so_far =
    let one : with_front front (each_at step todo bytes) ≡ Ok (front, bytes) = rw is (ap (λ bs. Ok (bs, bytes)) (append-nil front)) in
    sym so_far ∙ one

-- what stands before the first part
pub begins : {B : Type 0} (total : Result (List B × List ℕ) TableFault) → with_front [] total ≡ total
begins (Ok x) = refl
begins (Err f) = refl

pub range_more : (k n : ℕ) → k < n → range_with_len k (n - k) ≡ k ∷ range_with_len (k + 1) (n - (k + 1))
range_more k n lt =
    let e : n - k ≡ suc (n - (k + 1)) = omega arith in
    let f : suc k ≡ k + 1 = omega arith in
    rw e refl

pub range_none : (k n : ℕ) → n ≤ k → range_with_len k (n - k) ≡ []
range_none k n le = let e : n - k ≡ 0 = omega arith in rw e refl

pub nothing_left : {A : Type 0} (xs : List A) → length xs ≡ 0 → xs ≡ []
nothing_left [] e = refl
nothing_left (x ∷ xs) e = absurd (omega (arith, e))
