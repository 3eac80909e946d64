-- Values before a block.
use Rattle.std.proofs.Common.{◌≡◌, Bool, true, false, ℕ, zero, suc, ◌+◌, ◌-◌, ◌*◌, ◌/◌, ◌^◌, ◌<◌, ◌≤◌, List, [], ◌∷◌, ◌++◌, eqb, length, get_or, take, refl, sym, ap, ◌∙◌, inl, inr, arith}
use Rattle.std.proofs.lemmas.List.Sums.{sum_by_more, sum_by-take-le}
use Rattle.std.proofs.lemmas.List.{take-take, get_or_append_left, get_or-append_right}
use Rattle.std.proofs.lemmas.Bool.{cases_lt, and_parts, leb-true, eqb-true, le-leb, lt-leb}
use Rattle.std.proofs.lemmas.Nat.{div_below, div-add-mod', mod_below}
use Rattle.std.specs.Prelude.{min, ◌%◌, ◌&&◌}
use Rattle.table_file.specs.Sparse.{sizes_of, values_before, entry_block, entry_offset, is_entry, are_entries}

pub length-sizes : (bytes : List ℕ) → length (sizes_of bytes) ≡ length bytes / 2
length-sizes [] = refl
length-sizes (a ∷ []) = refl
length-sizes (a ∷ b ∷ rest) = omega (arith, length-sizes rest)

pub size_at : (bytes : List ℕ) (i : ℕ) → i < length bytes / 2 → get_or (sizes_of bytes) i 0 ≡ suc (get_or bytes (2 * i) 0 + 256 * get_or bytes (2 * i + 1) 0)
size_at [] i lt = absurd (omega arith)
size_at (a ∷ []) i lt = absurd (omega arith)
size_at (a ∷ b ∷ rest) zero lt = refl
size_at (a ∷ b ∷ rest) (suc i) lt =
    let e : 2 * suc i ≡ suc (suc (2 * i)) = omega arith in
    let f : suc (suc (2 * i)) + 1 ≡ suc (suc (2 * i + 1)) = omega arith in
    rw (e, f) (size_at rest i (omega arith))

-- one block more
pub before_next : (sizes : List ℕ) (b : ℕ) → b < length sizes → values_before sizes (b + 1) ≡ values_before sizes b + get_or sizes b 0
before_next sizes b lt = sum_by_more (λ x. x) sizes b 0 lt

pub before_mono : (sizes : List ℕ) (a b : ℕ) → a ≤ b → values_before sizes a ≤ values_before sizes b
before_mono sizes a b le = rw (take-take a b sizes le) at (sum_by-take-le (λ x. x) (take b sizes) a)

pub before_some : (sizes : List ℕ) (b : ℕ) → 0 < values_before sizes b → 0 < b
before_some sizes zero lt = absurd (omega (arith, lt))
before_some sizes (suc b) lt = omega arith

pub before_prev : (sizes : List ℕ) (b : ℕ) → 0 < b → b ≤ length sizes → values_before sizes b ≡ values_before sizes (b - 1) + get_or sizes (b - 1) 0
before_prev sizes b lt le =
    let k-is : b ≡ (b - 1) + 1 = omega arith in
    ap (λ k. values_before sizes k) k-is ∙ before_next sizes (b - 1) (omega arith)

-- how far an index is from the middle of its span
pub record IsNear (index span middle : ℕ) : Type 0 where
  pub on : middle ≤ index → index - middle < span / 2
  pub back : index < middle → middle - index ≤ span / 2

pub near_middle : (index span place n size : ℕ) → 1 ≤ span → 2 * (span / 2) ≡ span → size ≤ n * span → index < size → place ≡ min (index / span) (n - 1) → IsNear index span (place * span + span / 2)
near_middle index span place n size some even covered lt is =
    let q = index / span in
    let below : q < n = div_below index span n some (omega arith) in
    let place-is : place ≡ q = omega arith in
    let parts : q * span + index % span ≡ index = div-add-mod' index span in
    let rest : index % span < span = mod_below index span some in
    rw place-is (record { on = λ le. omega arith; back = λ lt. omega arith })

and_no : (b : Bool) → b && false ≡ false
and_no true = refl
and_no false = refl

-- an entry that fails is among those that do
pub entry_fails : (sizes : List ℕ) (span : ℕ) (entries : List ℕ) (k n : ℕ) → is_entry sizes span entries k ≡ false → k < n → are_entries sizes span entries n ≡ false
unfolding are_entries
entry_fails sizes span entries k zero e lt = absurd (omega arith)
entry_fails sizes span entries k (suc n) e lt =
    elim (cases_lt k n) [
      | inl less ↦ rw (entry_fails sizes span entries k n e less) (and_no (is_entry sizes span entries n))
      | inr le ↦ let same : n ≡ k = omega arith in rw (same, e) refl
    ]

pub entry_more : (sizes : List ℕ) (span : ℕ) (entries : List ℕ) (k : ℕ) → is_entry sizes span entries k ≡ true → are_entries sizes span entries k ≡ true → are_entries sizes span entries (k + 1) ≡ true
unfolding are_entries
entry_more sizes span entries k e all = let one : k + 1 ≡ suc k = omega arith in rw (one, e, all) refl

pub no_entries : (sizes : List ℕ) (span : ℕ) (entries : List ℕ) → are_entries sizes span entries 0 ≡ true
unfolding are_entries
no_entries sizes span entries = refl

-- what an entry that was checked says
pub record IsEntry (sizes : List ℕ) (span block offset k : ℕ) : Type 0 where
  pub known : block ≤ length sizes
  pub place : values_before sizes block + offset ≡ k * span + span / 2

pub entry_of : (sizes : List ℕ) (span : ℕ) (entries : List ℕ) (k n : ℕ) → are_entries sizes span entries n ≡ true → k < n → IsEntry sizes span (entry_block entries k) (entry_offset entries k) k
unfolding are_entries is_entry
entry_of sizes span entries k zero e lt = absurd (omega arith)
entry_of sizes span entries k (suc n) e lt =
    elim (cases_lt k n) [
      | inl less ↦ entry_of sizes span entries k n (and_parts _ _ e).1 less
      | inr le ↦
          let same : k ≡ n = omega arith in
          let here = and_parts _ _ (and_parts _ _ e).0 in
          rw same (record { known = leb-true _ _ here.0; place = eqb-true _ _ here.1 })
    ]

pub sums_more : (F : ℕ → ℕ) (xs : List ℕ) (v i : ℕ) → length xs ≡ i + 1 → v ≡ F (i + 1) → v ≤ 65536 * (i + 1) → ((b : ℕ) → b ≤ i → (get_or xs b 0 ≡ F b) × (get_or xs b 0 ≤ 65536 * i))
    → (b : ℕ) → b ≤ i + 1 → (get_or (xs ++ v ∷ []) b 0 ≡ F b) × (get_or (xs ++ v ∷ []) b 0 ≤ 65536 * (i + 1))
sums_more F xs v i len is small each b le =
    elim (cases_lt b (i + 1)) [
      | inl lt ↦ let h = each b (omega arith) in rw (get_or_append_left xs (v ∷ []) 0 b (omega arith)) (h.0, omega (arith, h.1))
      | inr ge ↦
          let same : b ≡ i + 1 = omega arith in
          let none : b - (i + 1) ≡ 0 = omega arith in
          let e : get_or (xs ++ v ∷ []) b 0 ≡ v = get_or-append_right xs (v ∷ []) (i + 1) b 0 len ge ∙ ap (λ (k : ℕ). get_or (v ∷ []) k 0) none in
          (e ∙ is ∙ ap F (sym same), omega (arith, e))
    ]

pub not_known : (sizes : List ℕ) (span : ℕ) (entries : List ℕ) (k : ℕ) → length sizes < entry_block entries k → false ≡ is_entry sizes span entries k
unfolding is_entry
not_known sizes span entries k lt = rw (lt-leb (entry_block entries k) (length sizes) lt) refl

pub known_is : (sizes : List ℕ) (span : ℕ) (entries : List ℕ) (k before : ℕ) → entry_block entries k ≤ length sizes → before ≡ values_before sizes (entry_block entries k)
    → eqb (before + entry_offset entries k) (k * span + span / 2) ≡ is_entry sizes span entries k
unfolding is_entry
known_is sizes span entries k before le is = rw (le-leb (entry_block entries k) (length sizes) le, is) refl

-- the spans of all sparse entries cover the size
pub covered : (size s : ℕ) → 1 ≤ s → size ≤ ((size + (s - 1)) / s) * s
covered size s some = omega (arith, div-add-mod' (size + (s - 1)) s, mod_below (size + (s - 1)) s some)

pub some_points : (size s n : ℕ) → 1 ≤ s → 1 ≤ size → n ≡ (size + (s - 1)) / s → 1 ≤ n
some_points size s zero some big is = absurd (omega (arith, (rw (← is) at (covered size s some))))
some_points size s (suc n) some big is = omega arith

pub even_power : (e : ℕ) → 1 ≤ e → 2 * (2 ^ e / 2) ≡ 2 ^ e
even_power zero le = absurd (omega arith)
even_power (suc e) le = omega arith

pub entry_here : (sizes : List ℕ) (s n : ℕ) (entries : List ℕ) (q k block offset : ℕ) → are_entries sizes s entries n ≡ true → k ≡ min q (n - 1) → 1 ≤ n → block ≡ entry_block entries k → offset ≡ entry_offset entries k → IsEntry sizes s block offset k
entry_here sizes s n entries q k block offset fit k-is some b o = rw (b, o) (entry_of sizes s entries k n fit (omega arith))
