-- The expanded table at a spot.
use Rattle.std.proofs.Common.{◌≡◌, ℕ, zero, suc, ◌-◌, ◌+◌, ◌*◌, ◌/◌, ◌≤◌, ◌<◌, List, [], ◌∷◌, ◌++◌, length, get_or, take, drop, sum, map, replicate, Option, Some, None, refl, ap, ◌∙◌, arith}
use Rattle.std.specs.Prelude.{slice_get}
use Rattle.std.proofs.lemmas.List.{length-append, length-take, length-map, length-replicate, drop-drop, take-take, get_or-take}
use Rattle.table_file.specs.Sparse.{sizes_of, values_before, IsSpotIn}
use Rattle.table_file.proofs.Before.{length-sizes}
use Rattle.std.proofs.lemmas.Option.{slice_get_past}
use Rattle.std.proofs.lemmas.List.Sums.{sum_by-cons}
use Rattle.pair_dict.specs.Blocks.{block_values}
use Rattle.table_file.specs.Figures.{Figures, block_size}
use Rattle.table_file.specs.Expansion.{filled, joined, known}

append_left : {X : Type 0} (xs ys : List X) (i : ℕ) → i < length xs → slice_get (xs ++ ys) i ≡ slice_get xs i
append_left [] ys i lt = absurd (omega arith)
append_left (x ∷ xs) ys zero lt = refl
append_left (x ∷ xs) ys (suc i) lt = append_left xs ys i (omega arith)

append_right : {X : Type 0} (xs ys : List X) (i : ℕ) → slice_get (xs ++ ys) (length xs + i) ≡ slice_get ys i
append_right [] ys i = let e : 0 + i ≡ i = omega arith in ap (λ k. slice_get ys k) e
append_right (x ∷ xs) ys i = let e : suc (length xs) + i ≡ suc (length xs + i) = omega arith in rw e (append_right xs ys i)

pub length-filled : (size : ℕ) (vs : List ℕ) → length (filled size vs) ≡ size
length-filled size vs =
    omega (arith, length-append (map (λ (v : ℕ). Some v) (take size vs)) (replicate (size - length vs) None), length-map (take size vs) (λ (v : ℕ). Some v), length-take size vs, length-replicate {A = Option ℕ} (size - length vs) None)

no_values : (size off : ℕ) → off < size → known (slice_get (replicate {A = Option ℕ} size None) off) ≡ None
no_values zero off lt = absurd (omega arith)
no_values (suc size) zero lt = refl
no_values (suc size) (suc off) lt = no_values size off (omega arith)

pub filled_at : (size : ℕ) (vs : List ℕ) (off : ℕ) → off < size → known (slice_get (filled size vs) off) ≡ slice_get vs off
filled_at zero vs off lt = absurd (omega arith)
filled_at (suc size) [] off lt = let e : suc size - 0 ≡ suc size = omega arith in rw e (no_values (suc size) off lt)
filled_at (suc size) (v ∷ vs) zero lt = refl
filled_at (suc size) (v ∷ vs) (suc off) lt = let e : suc size - suc (length vs) ≡ size - length vs = omega arith in rw e (filled_at size vs off (omega arith))

pub length-joined : (c : Figures) (sizes blocks : List ℕ) → length (joined c sizes blocks) ≡ sum sizes
unfolding joined
length-joined c [] blocks = refl
length-joined c (size ∷ sizes) blocks =
    let vs = block_values c.dictionary (take (block_size c) blocks) in
    let rest = joined c sizes (drop (block_size c) blocks) in
    omega (arith, length-append (filled size vs) rest, length-filled size vs, sum_by-cons (λ (x : ℕ). x) size sizes, length-joined c sizes (drop (block_size c) blocks))

-- the entry at an offset of a block
pub expanded_at : (c : Figures) (sizes blocks : List ℕ) (b off : ℕ) → b < length sizes → off < get_or sizes b 0
    → known (slice_get (joined c sizes blocks) (sum (take b sizes) + off)) ≡ slice_get (block_values c.dictionary (take (block_size c) (drop (b * block_size c) blocks))) off
unfolding joined
expanded_at c [] blocks b off lt within = absurd (omega arith)
expanded_at c (size ∷ sizes) blocks zero off lt within =
    let vs = block_values c.dictionary (take (block_size c) blocks) in
    let rest = joined c sizes (drop (block_size c) blocks) in
    let p : sum (take 0 (size ∷ sizes)) + off ≡ off = omega arith in
    let z : 0 * block_size c ≡ zero = omega arith in
    rw (p, z, append_left (filled size vs) rest off (omega (arith, length-filled size vs))) (filled_at size vs off within)
expanded_at c (size ∷ sizes) blocks (suc b) off lt within =
    let n = block_size c in
    let vs = block_values c.dictionary (take n blocks) in
    let rest = joined c sizes (drop n blocks) in
    let place : sum (take (suc b) (size ∷ sizes)) + off ≡ length (filled size vs) + (sum (take b sizes) + off) = omega (arith, length-filled size vs, sum_by-cons (λ (x : ℕ). x) size (take b sizes)) in
    let ih = expanded_at c sizes (drop n blocks) b off (omega arith) within in
    let on : drop (b * n) (drop n blocks) ≡ drop (suc b * n) blocks = drop-drop (b * n) n blocks ∙ ap (λ k. drop k blocks) (omega arith) in
    rw (place, append_right (filled size vs) rest (sum (take b sizes) + off)) (rw on at ih)

pub expanded_past : (c : Figures) (sizes blocks : List ℕ) (index : ℕ) → sum sizes ≤ index → known (slice_get (joined c sizes blocks) index) ≡ None
expanded_past c sizes blocks index le = ap known (slice_get_past (joined c sizes blocks) index (omega (arith, length-joined c sizes blocks)))

pub spot_value : (c : Figures) (lengths blocks : List ℕ) (index b off : ℕ) → c.blocks ≤ length lengths / 2 → IsSpotIn (sizes_of lengths) c.blocks index b off
    → known (slice_get (joined c (take c.blocks (sizes_of lengths)) blocks) index) ≡ slice_get (block_values c.dictionary (take (block_size c) (drop (b * block_size c) blocks))) off
spot_value c lengths blocks index b off few spot =
    let sizes = sizes_of lengths in
    let real = take c.blocks sizes in
    let same : get_or real b 0 ≡ get_or sizes b 0 = get_or-take c.blocks sizes b 0 spot.is_real in
    let front : take b real ≡ take b sizes = take-take b c.blocks sizes (omega (arith, spot.is_real)) in
    let here = expanded_at c real blocks b off (omega (arith, length-take c.blocks sizes, length-sizes lengths, spot.is_real)) (omega (arith, same, spot.within)) in
    let place : sum (take b real) + off ≡ index = rw front spot.place in
    rw place at here

pub spot_none : (c : Figures) (lengths blocks : List ℕ) (index b off : ℕ) → c.blocks ≤ length lengths / 2 → IsSpotIn (sizes_of lengths) c.blocks index b off
    → length (block_values c.dictionary (take (block_size c) (drop (b * block_size c) blocks))) ≤ off
    → known (slice_get (joined c (take c.blocks (sizes_of lengths)) blocks) index) ≡ None
spot_none c lengths blocks index b off few spot le = spot_value c lengths blocks index b off few spot ∙ slice_get_past (block_values c.dictionary (take (block_size c) (drop (b * block_size c) blocks))) off le

pub past_none : (c : Figures) (lengths blocks : List ℕ) (index : ℕ) → values_before (sizes_of lengths) c.blocks ≤ index → known (slice_get (joined c (take c.blocks (sizes_of lengths)) blocks) index) ≡ None
past_none c lengths blocks index le = expanded_past c (take c.blocks (sizes_of lengths)) blocks index le

pub is_past : (c : Figures) (lengths blocks : List ℕ) (index : ℕ) → values_before (sizes_of lengths) c.blocks ≤ index → length (joined c (take c.blocks (sizes_of lengths)) blocks) ≤ index
is_past c lengths blocks index le = omega (arith, length-joined c (take c.blocks (sizes_of lengths)) blocks, le)
