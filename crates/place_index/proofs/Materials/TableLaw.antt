-- The keys stand for the tables one to one.
use Rattle.std.proofs.Common.{◌≡◌, ℕ, suc, ◌+◌, ◌-◌, ◌*◌, ◌/◌, ◌%◌, ◌<◌, ◌≤◌, Bool, true, false, eqb, leb, List, [], ◌∷◌, length, slice_index, refl, ap, sym, ◌∙◌, arith}
use Rattle.std.specs.Prelude.{slice_index_or, ◌&&◌, ◌||◌, not}
use Rattle.std.proofs.lemmas.Bool.{agree_below, agree_below_at, leb-true, le-leb, eq-eqb, and_parts, and_from, false≢true}
use Rattle.place_index.specs.Material.{Men, IsTable, IsInOrder, tables, alone, men_of, name_at, name_of}
use Rattle.place_index.specs.Inside.NameKeys.{key_by_name}
use Rattle.place_index.proofs.Materials.KeyWalk.{each, each_key}
use Rattle.place_index.proofs.Materials.KeyTables.{same, same-true, place_table}

-- ---- each key is a table's

in_order : ℕ → List ℕ → Bool
in_order most [] = true
in_order most (a ∷ rest) = leb 1 a && (leb a most && in_order a rest)

in_order-true : (most : ℕ) (xs : List ℕ) → in_order most xs ≡ true → IsInOrder most xs
unfolding in_order
in_order-true most [] e = tt
in_order-true most (a ∷ rest) e =
    let one = and_parts (leb 1 a) (leb a most && in_order a rest) e in
    let two = and_parts (leb a most) (in_order a rest) one.1 in
    (leb-true 1 a one.0, leb-true a most two.0, in_order-true a rest two.1)

orders_test : (k : ℕ) → k < 145 → (in_order 5 (men_of k).first && in_order 5 (men_of k).second) ≡ true
unfolding each in_order
orders_test k lt = each_key (λ k m. in_order 5 m.first && in_order 5 m.second) refl k lt

lengths_test : (k : ℕ) → k < 145
    → (leb 1 (length (men_of k).first) && (leb (length (men_of k).second) (length (men_of k).first) && leb (length (men_of k).first + length (men_of k).second) 3)) ≡ true
unfolding each
lengths_test k lt = each_key (λ k m. leb 1 (length m.first) && (leb (length m.second) (length m.first) && leb (length m.first + length m.second) 3)) refl k lt

earlier_test : (k : ℕ) → k < 145
    → (not (eqb (length (men_of k).first) (length (men_of k).second)) || leb (slice_index (men_of k).second 0) (slice_index (men_of k).first 0)) ≡ true
unfolding each
earlier_test k lt = each_key (λ k m. not (eqb (length m.first) (length m.second)) || leb (slice_index m.second 0) (slice_index m.first 0)) refl k lt

-- a test that passes where another one does
passes_where : (a b : ℕ) (y : Bool) → a ≡ b → (not (eqb a b) || y) ≡ true → y ≡ true
passes_where a b y e h = rw (eq-eqb a b e) at h

pub numbered_is_table : (k : ℕ) → k < 145 → IsTable (men_of k)
numbered_is_table k lt =
    let orders = and_parts (in_order 5 (men_of k).first) (in_order 5 (men_of k).second) (orders_test k lt) in
    let one = and_parts (leb 1 (length (men_of k).first)) _ (lengths_test k lt) in
    let two = and_parts (leb (length (men_of k).second) (length (men_of k).first)) _ one.1 in
    record {
      first = in_order-true 5 (men_of k).first orders.0;
      second = in_order-true 5 (men_of k).second orders.1;
      one = leb-true _ _ one.0;
      more = leb-true _ _ two.0;
      few = leb-true _ _ two.1;
      earlier = λ e. leb-true _ _ (passes_where (length (men_of k).first) (length (men_of k).second) _ e (earlier_test k lt));
    }

pub names_apart : (j k : ℕ) → j < 145 → k < 145 → name_at j ≡ name_at k → j ≡ k
names_apart j k jj kk e = sym (place_table j jj) ∙ ap key_by_name e ∙ place_table k kk

-- ---- each table has a key

men : List ℕ → List ℕ → Men
men a b = record { first = a; second = b }

key_of : List ℕ → List ℕ → ℕ
key_of a b = key_by_name (name_of (record { first = a; second = b }))

-- these men are those of the key where their name stands, in a list of tables
is_found : List Men → List ℕ → List ℕ → Bool
is_found ts a b = leb (suc (key_of a b)) 145 && (same (slice_index_or ts (key_of a b) (alone [])).first a && same (slice_index_or ts (key_of a b) (alone [])).second b)

found : (a b : List ℕ) → is_found tables a b ≡ true → (k : ℕ) × (k < 145) × (men_of k ≡ record { first = a; second = b })
unfolding is_found men_of
found a b e =
    let one = and_parts (leb (suc (key_of a b)) 145) _ e in
    let two = and_parts (same (men_of (key_of a b)).first a) _ one.1 in
    (key_of a b, leb-true (suc (key_of a b)) 145 one.0, made (men_of (key_of a b)) (same-true _ _ two.0) (same-true _ _ two.1))
  where
    made : (m : Men) → m.first ≡ a → m.second ≡ b → m ≡ record { first = a; second = b }
    made m x y = rw (← x, ← y) refl

-- a test of numbers with the list of the tables, which is made once
below : (List Men → ℕ → Bool) → ℕ → List Men → Bool
below test n ts = agree_below (test ts) (λ i. true) n

below_at : (test : List Men → ℕ → Bool) (n i : ℕ) → below test n tables ≡ true → i < n → test tables i ≡ true
unfolding below
below_at test n i e lt = agree_below_at (test tables) (λ i. true) n i e lt

one_test : (i : ℕ) → i < 5 → is_found tables ((1 + i) ∷ []) [] ≡ true
unfolding below key_by_name same is_found key_of
one_test i lt = below_at (λ ts i. is_found ts ((1 + i) ∷ []) []) 5 i refl lt

two_test : (i : ℕ) → i < 25 → (not (leb (1 + i % 5) (1 + i / 5)) || is_found tables ((1 + i / 5) ∷ (1 + i % 5) ∷ []) []) ≡ true
unfolding below key_by_name same is_found key_of
two_test i lt = below_at (λ ts i. not (leb (1 + i % 5) (1 + i / 5)) || is_found ts ((1 + i / 5) ∷ (1 + i % 5) ∷ []) []) 25 i refl lt

each_test : (i : ℕ) → i < 25 → (not (leb (1 + i % 5) (1 + i / 5)) || is_found tables ((1 + i / 5) ∷ []) ((1 + i % 5) ∷ [])) ≡ true
unfolding below key_by_name same is_found key_of
each_test i lt = below_at (λ ts i. not (leb (1 + i % 5) (1 + i / 5)) || is_found ts ((1 + i / 5) ∷ []) ((1 + i % 5) ∷ [])) 25 i refl lt

three_test : (i : ℕ) → i < 125
    → (not (leb (1 + i / 5 % 5) (1 + i / 25) && leb (1 + i % 5) (1 + i / 5 % 5)) || is_found tables ((1 + i / 25) ∷ (1 + i / 5 % 5) ∷ (1 + i % 5) ∷ []) []) ≡ true
unfolding below key_by_name same is_found key_of
three_test i lt =
    below_at (λ ts i. not (leb (1 + i / 5 % 5) (1 + i / 25) && leb (1 + i % 5) (1 + i / 5 % 5)) || is_found ts ((1 + i / 25) ∷ (1 + i / 5 % 5) ∷ (1 + i % 5) ∷ []) [])
    125 i refl lt

against_test : (i : ℕ) → i < 125
    → (not (leb (1 + i / 5 % 5) (1 + i / 25)) || is_found tables ((1 + i / 25) ∷ (1 + i / 5 % 5) ∷ []) ((1 + i % 5) ∷ [])) ≡ true
unfolding below key_by_name same is_found key_of
against_test i lt = below_at (λ ts i. not (leb (1 + i / 5 % 5) (1 + i / 25)) || is_found ts ((1 + i / 25) ∷ (1 + i / 5 % 5) ∷ []) ((1 + i % 5) ∷ [])) 125 i refl lt

-- what a test says at an index stands for what it says of codes
when : (x y : Bool) → x ≡ true → (not x || y) ≡ true → y ≡ true
when true y e h = h
when false y e h = absurd (false≢true e)

one_found : (a : ℕ) → 1 ≤ a → a ≤ 5 → is_found tables (a ∷ []) [] ≡ true
one_found a low high =
    let e : 1 + (a - 1) ≡ a = omega arith in
    rw e at (one_test (a - 1) (omega arith))

two_found : (a b : ℕ) → a ≤ 5 → 1 ≤ b → b ≤ a → is_found tables (a ∷ b ∷ []) [] ≡ true
two_found a b high low le =
    let x : 1 + (5 * (a - 1) + (b - 1)) / 5 ≡ a = omega arith in
    let y : 1 + (5 * (a - 1) + (b - 1)) % 5 ≡ b = omega arith in
    when (leb b a) _ (le-leb b a le) (rw (x, y) at (two_test (5 * (a - 1) + (b - 1)) (omega arith)))

each_found : (a b : ℕ) → a ≤ 5 → 1 ≤ b → b ≤ a → is_found tables (a ∷ []) (b ∷ []) ≡ true
each_found a b high low le =
    let x : 1 + (5 * (a - 1) + (b - 1)) / 5 ≡ a = omega arith in
    let y : 1 + (5 * (a - 1) + (b - 1)) % 5 ≡ b = omega arith in
    when (leb b a) _ (le-leb b a le) (rw (x, y) at (each_test (5 * (a - 1) + (b - 1)) (omega arith)))

three_found : (a b d : ℕ) → a ≤ 5 → b ≤ a → 1 ≤ d → d ≤ b → is_found tables (a ∷ b ∷ d ∷ []) [] ≡ true
three_found a b d high mid low le =
    let x : 1 + (25 * (a - 1) + (5 * (b - 1) + (d - 1))) / 25 ≡ a = omega arith in
    let y : 1 + (25 * (a - 1) + (5 * (b - 1) + (d - 1))) / 5 % 5 ≡ b = omega arith in
    let z : 1 + (25 * (a - 1) + (5 * (b - 1) + (d - 1))) % 5 ≡ d = omega arith in
    when (leb b a && leb d b) _ (and_from (leb b a) (leb d b) (le-leb b a mid) (le-leb d b le))
    (rw (x, y, z) at (three_test (25 * (a - 1) + (5 * (b - 1) + (d - 1))) (omega arith)))

against_found : (a b d : ℕ) → a ≤ 5 → 1 ≤ b → b ≤ a → 1 ≤ d → d ≤ 5 → is_found tables (a ∷ b ∷ []) (d ∷ []) ≡ true
against_found a b d high mid le low top =
    let x : 1 + (25 * (a - 1) + (5 * (b - 1) + (d - 1))) / 25 ≡ a = omega arith in
    let y : 1 + (25 * (a - 1) + (5 * (b - 1) + (d - 1))) / 5 % 5 ≡ b = omega arith in
    let z : 1 + (25 * (a - 1) + (5 * (b - 1) + (d - 1))) % 5 ≡ d = omega arith in
    when (leb b a) _ (le-leb b a le) (rw (x, y, z) at (against_test (25 * (a - 1) + (5 * (b - 1) + (d - 1))) (omega arith)))

each_is_found : (a b : List ℕ) → IsTable (record { first = a; second = b }) → is_found tables a b ≡ true
each_is_found [] b t = absurd (omega (arith, t.one))
each_is_found (x ∷ []) [] t = one_found x t.first.0 t.first.1
each_is_found (x ∷ []) (y ∷ []) t = each_found x y t.first.1 t.second.0 (t.earlier refl)
each_is_found (x ∷ []) (y ∷ z ∷ b) t = absurd (omega (arith, t.more))
each_is_found (x ∷ y ∷ []) [] t = two_found x y t.first.1 t.first.2.0 t.first.2.1
each_is_found (x ∷ y ∷ []) (z ∷ []) t = against_found x y z t.first.1 t.first.2.0 t.first.2.1 t.second.0 t.second.1
each_is_found (x ∷ y ∷ []) (z ∷ w ∷ b) t = absurd (omega (arith, t.few))
each_is_found (x ∷ y ∷ z ∷ []) [] t = three_found x y z t.first.1 t.first.2.1 t.first.2.2.0 t.first.2.2.1
each_is_found (x ∷ y ∷ z ∷ []) (w ∷ b) t = absurd (omega (arith, t.few))
each_is_found (x ∷ y ∷ z ∷ w ∷ a) b t = absurd (omega (arith, t.few))

pub table_is_numbered : (m : Men) → IsTable m → (k : ℕ) × (k < 145) × (men_of k ≡ m)
table_is_numbered m t = found m.first m.second (each_is_found m.first m.second t)
