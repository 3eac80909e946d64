-- The values of a block are those of the longest list of symbols whose codes begin it.
use Rattle.std.proofs.Common.{◌≡◌, ℕ, zero, suc, ◌+◌, ◌-◌, ◌*◌, ◌/◌, ◌%◌, ◌^◌, ◌<◌, ◌≤◌, List, [], ◌∷◌, ◌++◌, length, get_or, take, drop, min, Option, Some, None, append_assoc, refl, sym, ap, ◌∙◌, inl, inr, add-zero, arith}
use Rattle.std.proofs.lemmas.Bool.{cases_lt}
use Rattle.std.proofs.lemmas.List.{length-append, take_all}
use Rattle.std.proofs.Math.Nat.{mul-le-mul_right, mul-le-mul_left, add-mul, div-lt_iff_lt-mul, le-div_iff_mul-le}
use Rattle.std.proofs.lemmas.Nat.{shr-shr, field_of, mod_below, pow_pos}
use Rattle.pair_dict.specs.Symbols.{symbol_count, values_of}
use Rattle.pair_dict.specs.Inside.Counts.{AreCounts}
use Rattle.pair_dict.specs.Codes.{Pairing, bases, number_of, bits, below, IsCode, code_from, code_at}
use Rattle.pair_dict.specs.Blocks.{BeginsWithCodes, HaveValues, IsBlock, BlockIsComputed, BlockBeginsWithValues, then_values, values_from, block_values}
use Rattle.pair_dict.proofs.CodeLemmas.{code_too_long, code_found, code_longer, code_none, below_yes, below_no}
use Rattle.pair_dict.proofs.BlockValues.{values_from_code, values_from_none}
use Rattle.pair_dict.proofs.WordLemmas.{length-bases}
use Rattle.pair_dict.proofs.SymbolValues.{same_values, values_of_has, length-values_of}

-- the front of some bits
bits_front : (block : List ℕ) (p m n : ℕ) → m ≤ n → p + n ≤ 8 * length block → bits block p n / 2 ^ (n - m) ≡ bits block p m
unfolding bits
bits_front block p m n le fits =
    let k = 8 * length block - (p + n) in
    let e : m + (n - m) ≡ n = omega arith in
    let f = rw e at (field_of (number_of block / 2 ^ k) m (n - m)) in
    let j : k + (n - m) ≡ 8 * length block - (p + m) = omega arith in
    f ∙ ap (λ (x : ℕ). x % 2 ^ m) (shr-shr (number_of block) k (n - m) ∙ ap (λ (i : ℕ). number_of block / 2 ^ i) j)

pub bits_below : (block : List ℕ) (p n : ℕ) → bits block p n < 2 ^ n
unfolding bits
bits_below block p n = mod_below (number_of block / 2 ^ (8 * length block - (p + n))) (2 ^ n) (pow_pos n)

module _ (d : Pairing) (block : List ℕ) (p : ℕ) where
  -- a code is found, from each shorter length on
  complete : (n s : ℕ) → IsCode d n (bits block p n) s → p + n ≤ 8 * length block → (j i : ℕ) → i + j ≡ n - d.least
      → code_from (symbol_count d.symbols) block p (d.least + i) (drop i (bases d.lowest)) (drop i d.lowest) ≡ Some (s, n)
  complete n s code fits zero i at =
      let len = length-bases d.lowest in
      let i-is : i ≡ n - d.least = omega arith in
      let n-is : d.least + i ≡ n = omega (arith, code.shortest) in
      let low : get_or (bases d.lowest) i 0 ≤ bits block p n = rw i-is code.low in
      let found = code_found (symbol_count d.symbols) block p n (bases d.lowest) d.lowest i len (omega (arith, code.longest, code.shortest, len)) fits low in
      let s-is : (get_or d.lowest i 0 + bits block p n) - get_or (bases d.lowest) i 0 ≡ s = rw i-is (omega (arith, code.symbol)) in
      rw n-is (found ∙ ap (λ (t : ℕ). below (symbol_count d.symbols) t n) s-is ∙ below_yes (symbol_count d.symbols) s n code.known)
  complete n s code fits (suc j) i at =
      let len = length-bases d.lowest in
      let m = d.least + i in
      let lt : m < n = omega (arith, code.shortest) in
      let i-is : m - d.least ≡ i = omega arith in
      let small : bits block p m < get_or (bases d.lowest) i 0 = rw (bits_front block p m n (omega arith) fits, i-is) at (code.first m (omega arith) lt) in
      let next : d.least + (i + 1) ≡ m + 1 = omega arith in
      code_longer (symbol_count d.symbols) block p m (bases d.lowest) d.lowest i len (omega (arith, code.longest, len)) (omega arith) small
      ∙ rw (← next) (complete n s code fits j (i + 1) (omega arith))

  pub code_complete : (n s : ℕ) → IsCode d n (bits block p n) s → p + n ≤ 8 * length block → code_at d block p ≡ Some (s, n)
  unfolding code_at
  code_complete n s code fits = rw (add-zero d.least) at (complete n s code fits (n - d.least) 0 (omega arith))

-- the symbols from bit p on, of at most `most` codes
next_symbols : Option (ℕ × ℕ) → (ℕ → List ℕ) → List ℕ
next_symbols None rest = []
next_symbols (Some code) rest = code.0 ∷ rest code.1

pub symbols_from : Pairing → List ℕ → ℕ → ℕ → List ℕ
symbols_from d block zero p = []
symbols_from d block (suc most) p = next_symbols (code_at d block p) (λ n. symbols_from d block most (p + n))

next_at : (d : Pairing) (block : List ℕ) (most p s n : ℕ) → code_at d block p ≡ Some (s, n) → symbols_from d block (suc most) p ≡ s ∷ symbols_from d block most (p + n)
unfolding symbols_from next_symbols
next_at d block most p s n e = ap (λ o. next_symbols o (λ m. symbols_from d block most (p + m))) e

-- no list of symbols whose codes begin the block is longer
pub longest_from : (d : Pairing) (block : List ℕ) → 1 ≤ d.least → (most p : ℕ) (others : List ℕ) → 8 * length block ≤ p + most → BeginsWithCodes d block p others → length others ≤ length (symbols_from d block most p)
longest_from d block some most p [] enough begins = omega arith
longest_from d block some zero p (s ∷ ss) enough (n, fits, code, rest) = absurd (omega (arith, code.shortest))
longest_from d block some (suc most) p (s ∷ ss) enough (n, fits, code, rest) =
    omega (arith, ap length (next_at d block most p s n (code_complete d block p n s code fits)), longest_from d block some most (p + n) ss (omega (arith, code.shortest)) rest)

-- ---- what is computed begins the block

some_pair : (a b x y : ℕ) → ◌≡◌ {A = Option (ℕ × ℕ)} (Some (a, b)) (Some (x, y)) → (a ≡ x) × (b ≡ y)
some_pair a b x y e =
    let q : ◌≡◌ {A = ℕ × ℕ} (a, b) (x, y) = cc in
    (ap (λ (p : ℕ × ℕ). p.0) q, ap (λ (p : ℕ × ℕ). p.1) q)

none_some : (a b : ℕ) → ◌≡◌ {A = Option (ℕ × ℕ)} None (Some (a, b)) → ⊥
none_some a b e = cc

pub record IsFound (d : Pairing) (block : List ℕ) (p s n : ℕ) : Type 0 where
  pub within : p + n ≤ 8 * length block
  pub code : IsCode d n (bits block p n) s

module _ (d : Pairing) (block : List ℕ) (p : ℕ) where
  -- no length below that of place i is a code's
  abbrev NoneBelow : ℕ → Type 0
  NoneBelow i = (m : ℕ) → d.least ≤ m → m < d.least + i → bits block p m < get_or (bases d.lowest) (m - d.least) 0

  none_more : (i : ℕ) → NoneBelow i → bits block p (d.least + i) < get_or (bases d.lowest) i 0 → NoneBelow (i + 1)
  none_more i before lt m ge le =
      elim (cases_lt m (d.least + i)) [
        | inl earlier ↦ before m ge earlier
        | inr same ↦
            let m-is : m ≡ d.least + i = omega arith in
            let i-is : d.least + i - d.least ≡ i = omega arith in
            rw (m-is, i-is) lt
      ]

  is_code : (i s n : ℕ) → i < length d.lowest → NoneBelow i → p + (d.least + i) ≤ 8 * length block → get_or (bases d.lowest) i 0 ≤ bits block p (d.least + i)
      → (get_or d.lowest i 0 + bits block p (d.least + i)) - get_or (bases d.lowest) i 0 < symbol_count d.symbols
      → (get_or d.lowest i 0 + bits block p (d.least + i)) - get_or (bases d.lowest) i 0 ≡ s → d.least + i ≡ n → IsFound d block p s n
  is_code i s n lt before fits le known s-is n-is =
      let i-is : d.least + i - d.least ≡ i = omega arith in
      rw (← n-is, ← s-is) (record {
        within = fits;
        code = record {
          longest = omega arith;
          shortest = omega arith;
          low = rw i-is le;
          high = bits_below block p (d.least + i);
          first = λ m ge m-lt. rw (bits_front block p m (d.least + i) (omega arith) fits) (before m ge m-lt);
          symbol = rw i-is (omega (arith, le));
          known = known;
        };
      })

  sound_from : (j i s n : ℕ) → i + j ≡ length d.lowest → NoneBelow i → code_from (symbol_count d.symbols) block p (d.least + i) (drop i (bases d.lowest)) (drop i d.lowest) ≡ Some (s, n) → IsFound d block p s n
  sound_from zero i s n at before e =
      let len = length-bases d.lowest in
      absurd (none_some s n (sym (code_none (symbol_count d.symbols) block p (d.least + i) (bases d.lowest) d.lowest i len (omega (arith, len))) ∙ e))
  sound_from (suc j) i s n at before e =
      let len = length-bases d.lowest in
      let lt : i < length (bases d.lowest) = omega (arith, len) in
      elim (cases_lt (8 * length block) (p + (d.least + i))) [
        | inl long ↦ absurd (none_some s n (sym (code_too_long (symbol_count d.symbols) block p (d.least + i) (bases d.lowest) d.lowest i len lt long) ∙ e))
        | inr fits ↦ elim (cases_lt (bits block p (d.least + i)) (get_or (bases d.lowest) i 0)) [
          | inl small ↦
              let next : d.least + i + 1 ≡ d.least + (i + 1) = omega arith in
              sound_from j (i + 1) s n (omega arith) (none_more i before small)
              (rw next at (sym (code_longer (symbol_count d.symbols) block p (d.least + i) (bases d.lowest) d.lowest i len lt fits small) ∙ e))
          | inr le ↦
              let v = (get_or d.lowest i 0 + bits block p (d.least + i)) - get_or (bases d.lowest) i 0 in
              let found = sym (code_found (symbol_count d.symbols) block p (d.least + i) (bases d.lowest) d.lowest i len lt fits le) ∙ e in
              elim (cases_lt v (symbol_count d.symbols)) [
                | inl known ↦
                    let q = some_pair v (d.least + i) s n (sym (below_yes (symbol_count d.symbols) v (d.least + i) known) ∙ found) in
                    is_code i s n (omega (arith, len, lt)) before fits le known q.0 q.1
                | inr past ↦ absurd (none_some s n (sym (below_no (symbol_count d.symbols) v (d.least + i) past) ∙ found))
              ]
        ]
      ]

  pub code_sound : (s n : ℕ) → code_at d block p ≡ Some (s, n) → IsFound d block p s n
  unfolding code_at
  code_sound s n e =
      let start : d.least + 0 ≡ d.least = add-zero d.least in
      sound_from (length d.lowest) 0 s n (omega arith) (λ m ge lt. absurd (omega arith)) (rw start e)

begins_at : (d : Pairing) (block : List ℕ) (p : ℕ) (rest : ℕ → List ℕ) (o : Option (ℕ × ℕ)) → code_at d block p ≡ o → ((n : ℕ) → BeginsWithCodes d block (p + n) (rest n)) → BeginsWithCodes d block p (next_symbols o rest)
unfolding next_symbols
begins_at d block p rest None e begins = tt
begins_at d block p rest (Some code) e begins =
    let f = code_sound d block p code.0 code.1 e in
    (code.1, f.within, f.code, begins code.1)

pub begins_from : (d : Pairing) (block : List ℕ) (most p : ℕ) → BeginsWithCodes d block p (symbols_from d block most p)
unfolding symbols_from
begins_from d block zero p = tt
begins_from d block (suc most) p = begins_at d block p (λ n. symbols_from d block most (p + n)) (code_at d block p) refl (λ n. begins_from d block most (p + n))

have_at : (d : Pairing) (counts : List ℕ) (h : AreCounts d.symbols counts) (block : List ℕ) (p : ℕ) (ss vs : ℕ → List ℕ) (o : Option (ℕ × ℕ)) → code_at d block p ≡ o → ((n : ℕ) → HaveValues d (ss n) (vs n)) → HaveValues d (next_symbols o ss) (then_values d o vs)
unfolding next_symbols
have_at d counts h block p ss vs None e have = refl
have_at d counts h block p ss vs (Some code) e have =
    let f = code_sound d block p code.0 code.1 e in
    (values_of d.symbols code.0, vs code.1, values_of_has d.symbols counts h code.0 f.code.known, have code.1, refl)

pub have_from : (d : Pairing) (counts : List ℕ) (h : AreCounts d.symbols counts) (block : List ℕ) (most p : ℕ) → HaveValues d (symbols_from d block most p) (values_from d block most p)
unfolding symbols_from values_from
have_from d counts h block zero p = refl
have_from d counts h block (suc most) p = have_at d counts h block p (λ n. symbols_from d block most (p + n)) (λ n. values_from d block most (p + n)) (code_at d block p) refl (λ n. have_from d counts h block most (p + n))

-- the block law
pub block_law : (d : Pairing) (counts : List ℕ) (block : List ℕ) → AreCounts d.symbols counts → 1 ≤ d.least → IsBlock d block (block_values d block)
unfolding block_values
block_law d counts block h some = (
  symbols_from d block (8 * length block) 0,
  record {
    begins = begins_from d block (8 * length block) 0;
    longest = λ others begins. longest_from d block some (8 * length block) 0 others (omega arith) begins;
  },
  have_from d counts h block (8 * length block) 0,
)

-- ---- and nothing else is the block's

nothing : (xs : List ℕ) → length xs ≤ 0 → [] ≡ xs
nothing [] le = refl
nothing (x ∷ xs) le = absurd (omega arith)

-- a list of symbols that is as long as the computed one is that one
unique_from : (d : Pairing) (block : List ℕ) → 1 ≤ d.least → (most p : ℕ) (ss : List ℕ) → 8 * length block ≤ p + most → BeginsWithCodes d block p ss → length (symbols_from d block most p) ≤ length ss → ss ≡ symbols_from d block most p
unique_from d block some zero p [] enough begins le = nothing (symbols_from d block zero p) le
unique_from d block some zero p (s ∷ ss) enough (n, fits, code, rest) le = absurd (omega (arith, code.shortest))
unique_from d block some (suc most) p [] enough begins le = nothing (symbols_from d block (suc most) p) le
unique_from d block some (suc most) p (s ∷ ss) enough (n, fits, code, rest) le =
    let next = next_at d block most p s n (code_complete d block p n s code fits) in
    let ih = unique_from d block some most (p + n) ss (omega (arith, code.shortest)) rest (omega (arith, le, ap length next)) in
    ap (λ (ts : List ℕ). s ∷ ts) ih ∙ sym next

same_joined : (d : Pairing) (ss vs ws : List ℕ) → HaveValues d ss vs → HaveValues d ss ws → vs ≡ ws
same_joined d [] vs ws one two = one ∙ sym two
same_joined d (s ∷ ss) vs ws (xs, ys, has, have, e) (us, zs, has-2, have-2, e-2) =
    e ∙ ap (λ (zs-2 : List ℕ). zs-2 ++ ys) (same_values has has-2) ∙ ap (λ (zs-2 : List ℕ). us ++ zs-2) (same_joined d ss ys zs have have-2) ∙ sym e-2

only_block : (d : Pairing) (counts : List ℕ) (block : List ℕ) → AreCounts d.symbols counts → 1 ≤ d.least → (vs : List ℕ) → IsBlock d block vs → vs ≡ block_values d block
unfolding block_values
only_block d counts block h some vs (ss, are, have) =
    let most = 8 * length block in
    let computed = symbols_from d block most 0 in
    let same : ss ≡ computed = unique_from d block some most 0 ss (omega arith) are.begins (are.longest computed (begins_from d block most 0)) in
    same_joined d computed vs (values_from d block most 0) (rw same at have) (have_from d counts h block most 0)

pub block_computed : (d : Pairing) (counts : List ℕ) (block : List ℕ) → AreCounts d.symbols counts → 1 ≤ d.least → BlockIsComputed d block
block_computed d counts block h some vs = (only_block d counts block h some vs, λ e. rw e (block_law d counts block h some))

-- codes that begin the block give its first values
front_from : (d : Pairing) (counts : List ℕ) (h : AreCounts d.symbols counts) (block : List ℕ) → 1 ≤ d.least → (most p : ℕ) (ss vs : List ℕ) → 8 * length block ≤ p + most → BeginsWithCodes d block p ss → HaveValues d ss vs
    → (rest : List ℕ) × (values_from d block most p ≡ vs ++ rest)
front_from d counts h block some most p [] vs enough begins none = (values_from d block most p, rw none refl)
front_from d counts h block some zero p (s ∷ ss) vs enough (n, fits, code, begins) have = absurd (omega (arith, code.shortest))
front_from d counts h block some (suc most) p (s ∷ ss) vs enough (n, fits, code, begins) (xs, ys, has, have, e) =
    let ih = front_from d counts h block some most (p + n) ss ys (omega (arith, code.shortest)) begins have in
    let same : xs ≡ values_of d.symbols s = same_values has (values_of_has d.symbols counts h s code.known) in
    let after = values_from d block most (p + n) in (
      ih.0,
      values_from_code d block most p s n (code_complete d block p n s code fits)
          ∙ ap (λ (zs : List ℕ). zs ++ after) (sym same) ∙ ap (λ (zs : List ℕ). xs ++ zs) ih.1 ∙ sym (append_assoc xs ys ih.0) ∙ ap (λ (zs : List ℕ). zs ++ ih.0) (sym e),
    )

pub block_begins : (d : Pairing) (counts : List ℕ) (block : List ℕ) → AreCounts d.symbols counts → 1 ≤ d.least → BlockBeginsWithValues d block
unfolding block_values
block_begins d counts block h some ss vs = front_from d counts h block some (8 * length block) 0 ss vs (omega arith)

-- ---- how many values there are

few_first : (L a b n rest : ℕ) → a ≤ 256 → L ≤ n → b * L ≤ 256 * rest → (a + b) * L ≤ 256 * (n + rest)
few_first L a b n rest few short le =
    let first : a * L ≤ 256 * L = mul-le-mul_right L few in
    omega (arith, add-mul a b L, first, short, le)

few_next : (d : Pairing) (counts : List ℕ) (h : AreCounts d.symbols counts) (block : List ℕ) (most p : ℕ) (rest : (n : ℕ) → p + n ≤ 8 * length block → length (values_from d block most (p + n)) * d.least ≤ 256 * (8 * length block - (p + n)))
    → (o : Option (ℕ × ℕ)) → code_at d block p ≡ o → length (values_from d block (suc most) p) * d.least ≤ 256 * (8 * length block - p)
few_next d counts h block most p rest None e = rw (values_from_none d block (suc most) p e) (omega arith)
few_next d counts h block most p rest (Some code) e =
    let s = code.0 in
    let n = code.1 in
    let f = code_sound d block p s n e in
    let vs = values_of d.symbols s in
    let after = values_from d block most (p + n) in
    let few : length vs ≤ 256 = omega (arith, length-values_of d.symbols counts h s f.code.known, h.few s f.code.known) in
    let len : length (values_from d block (suc most) p) ≡ length vs + length after = ap length (values_from_code d block most p s n e) ∙ length-append vs after in
    let room : 8 * length block - p ≡ n + (8 * length block - (p + n)) = omega (arith, f.within) in
    rw (len, room) (few_first d.least (length vs) (length after) n (8 * length block - (p + n)) few f.code.shortest (rest n f.within))

no_values : (d : Pairing) (block : List ℕ) (p : ℕ) → values_from d block zero p ≡ []
unfolding values_from
no_values d block p = refl

few_from : (d : Pairing) (counts : List ℕ) (h : AreCounts d.symbols counts) (block : List ℕ) (most p : ℕ) → p ≤ 8 * length block → length (values_from d block most p) * d.least ≤ 256 * (8 * length block - p)
few_from d counts h block zero p le = rw (no_values d block p) (omega arith)
few_from d counts h block (suc most) p le = few_next d counts h block most p (λ n fits. few_from d counts h block most (p + n) fits) (code_at d block p) refl

-- a block has no more values than its bits allow
pub length-block_values : (d : Pairing) (counts : List ℕ) (h : AreCounts d.symbols counts) (block : List ℕ) → length (block_values d block) * d.least ≤ 2048 * length block
unfolding block_values
length-block_values d counts h block = omega (arith, few_from d counts h block (8 * length block) 0 (omega arith))

-- so a limit that the bits allow cuts nothing that was asked for
limit_same : (xs : List ℕ) (least len count most limit : ℕ) → 1 ≤ least → least ≤ 32 → length xs * least ≤ 2048 * len → most ≡ min (len * 2048) 18446744073709551615 → count < 2 ^ 32
    → limit ≡ min (most / least) count → take limit xs ≡ take count xs
limit_same xs least len count most limit some few bound most-is small limit-is =
    elim (cases_lt (most / least) count) [
      | inr le ↦ ap (λ (n : ℕ). take n xs) (omega (arith, limit-is, le))
      | inl lt ↦
          let below : most < count * least = (div-lt_iff_lt-mul {k = least} {x = most} {y = count} (omega arith)).0 lt in
          let top : count * least ≤ count * 32 = mul-le-mul_left count few in
          let whole : most ≡ 2048 * len = omega (arith, below, top, most-is) in
          let short : length xs ≤ most / least = (le-div_iff_mul-le {k = least} {x = length xs} {y = most} (omega arith)).1 (omega (arith, bound, whole)) in
          take_all limit xs (omega (arith, short, limit-is, lt)) ∙ sym (take_all count xs (omega (arith, short, lt)))
    ]

pub limit_of_block : (d : Pairing) (counts : List ℕ) (h : AreCounts d.symbols counts) (block : List ℕ) (count most limit : ℕ) → 1 ≤ d.least → d.least ≤ 32 → most ≡ min (length block * 2048) 18446744073709551615 → count < 2 ^ 32
    → limit ≡ min (most / d.least) count → take limit (block_values d block) ≡ take count (block_values d block)
limit_of_block d counts h block count most limit some few = limit_same (block_values d block) d.least (length block) count most limit some few (length-block_values d counts h block)
