-- Codes, blocks and entries as the forge lays them out.
use Rattle.std.proofs.Common.{◌≡◌, ℕ, zero, suc, ◌-◌, ◌+◌, ◌*◌, ◌/◌, ◌^◌, ◌≤◌, ◌<◌, true, List, [], ◌∷◌, ◌++◌, length, get_or, drop, refl, ap, ◌∙◌, inl, inr, arith}
use Rattle.std.specs.Prelude.{◌%◌, slice_index, nat_le, ◌↔◌}
use Rattle.std.proofs.lemmas.Bool.{cases_Bool, leb-true, le-leb}
use Rattle.std.proofs.lemmas.Nat.{pow-add, pow_pos, shr_high, shr_split, mul-add-lt, div_below, mod_below}
use Rattle.std.proofs.lemmas.List.{length-append, drop_all}
use Rattle.pair_dict.specs.Codes.{bases, number_of, IsCode}
use Rattle.pair_dict.specs.Reading.{falls}
use Rattle.pair_dict.proofs.Numbers.{number_push, number_below}
use Rattle.table_file.specs.declared.plan.PairsPlan.{PairsPlan}
use Rattle.table_file.specs.declared.forging.codes.Code.{Code}
use Rattle.table_file.specs.Plan.{pairing_of, code_by, code_of, symbol_bytes}
use Rattle.table_file.specs.PlannedFile.{spot_among, big_endian_bytes}
use Rattle.table_file.specs.Inside.Writing.{IsBlockReached}

-- ---- codes

-- the code stands at the i-th length
pub record StandsAt (n : ℕ) (lowest : List ℕ) (s i : ℕ) (c : Code) : Type 0 where
  pub known : i < length lowest
  pub long : c.length ≡ n + i
  pub low : get_or lowest i 0 ≤ s
  pub bits : c.bits ≡ get_or (bases lowest) i 0 + (s - get_or lowest i 0)

bases_tail : (low : ℕ) (lowest : List ℕ) (i : ℕ) → get_or (bases (low ∷ lowest)) (suc i) 0 ≡ get_or (bases lowest) i 0
bases_tail low [] zero = refl
bases_tail low [] (suc i) = refl
bases_tail low (next ∷ rest) i = refl

stands : (n : ℕ) (lowest : List ℕ) (s : ℕ) → 1 ≤ (code_by n lowest s).length → (i : ℕ) × StandsAt n lowest s i (code_by n lowest s)
unfolding code_by
stands n [] s some = absurd (omega (arith, some))
stands n (low ∷ lowest) s some =
    elim (cases_Bool (nat_le low s)) [
      | inl small ↦
          let e : code_by n (low ∷ lowest) s ≡ record { length = n; bits = slice_index (bases (low ∷ lowest)) 0 + (s - low) } = rw small refl in
          (0, record { known = omega arith; long = rw e (omega arith); low = leb-true low s small; bits = rw e refl })
      | inr large ↦
          let e : code_by n (low ∷ lowest) s ≡ code_by (n + 1) lowest s = rw large refl in
          let rest = stands (n + 1) lowest s (rw e at some) in (
            suc rest.0,
            record {
              known = omega (arith, rest.1.known);
              long = rw e (omega (arith, rest.1.long));
              low = rest.1.low;
              bits = rw (e, bases_tail low lowest rest.0) rest.1.bits;
            },
          )
    ]

-- what is looked at makes a code
pub good_code : (q : PairsPlan) (s : ℕ) → s < length (symbol_bytes q) / 3
    → 1 ≤ (code_of q s).length → (code_of q s).bits < 2 ^ (code_of q s).length
    → ((m : ℕ) → m < length q.lowest.items → q.least + m < (code_of q s).length → (code_of q s).bits / 2 ^ ((code_of q s).length - (q.least + m)) < get_or (bases q.lowest.items) m 0)
    → IsCode (pairing_of q) (code_of q s).length (code_of q s).bits s
good_code q s known some high first =
    let at = stands q.least q.lowest.items s some in
    let i = at.0 in
    let c = code_of q s in
    let place : c.length - q.least ≡ i = omega (arith, at.1.long) in
    record {
      longest = omega (arith, at.1.long, at.1.known);
      shortest = omega (arith, at.1.long);
      low = rw place (omega (arith, at.1.bits));
      high = high;
      first = λ m least below.
          let e : q.least + (m - q.least) ≡ m = omega (arith, least) in
          let within : m - q.least < length q.lowest.items = omega (arith, at.1.long, at.1.known, below, least) in
          let f = first (m - q.least) within (omega (arith, e, below)) in
          rw e at f;
      symbol = rw place (omega (arith, at.1.bits, at.1.low));
      known = known;
    }

pub read_first : (q : PairsPlan) (s : ℕ) → IsCode (pairing_of q) (code_of q s).length (code_of q s).bits s
    → (m : ℕ) → m < length q.lowest.items → q.least + m < (code_of q s).length → (code_of q s).bits / 2 ^ ((code_of q s).length - (q.least + m)) < get_or (bases q.lowest.items) m 0
read_first q s h m within below =
    let f = h.first (q.least + m) (omega arith) below in
    let e : q.least + m - q.least ≡ m = omega arith in
    rw e at f

-- ---- spots

pub reached_first : (lengths : List ℕ) → IsBlockReached lengths 0 0
reached_first lengths =
    record {
      block_found = λ index le. let e : index - 0 ≡ index = omega arith in rw (whole lengths, e) (omega arith);
      offset_found = λ index le. let e : index - 0 ≡ index = omega arith in rw (whole lengths, e) refl;
    }
  where
    whole : (xs : List ℕ) → drop 0 xs ≡ xs
    whole [] = refl
    whole (x ∷ xs) = refl

spot_on : (l : ℕ) (lengths : List ℕ) (index : ℕ) → l < index → (spot_among (l ∷ lengths) index ≡ (suc (spot_among lengths (index - suc l)).0, (spot_among lengths (index - suc l)).1))
unfolding spot_among
spot_on l lengths index lt =
    elim (cases_Bool (nat_le index l)) [
      | inl small ↦ let le = leb-true index l small in absurd (omega (arith, le, lt))
      | inr large ↦ rw large refl
    ]

pub spot_within : (l : ℕ) (lengths : List ℕ) (index : ℕ) → index ≤ l → spot_among (l ∷ lengths) index ≡ (0, index)
unfolding spot_among
spot_within l lengths index le = rw (le-leb index l le) refl

spot_none : (index : ℕ) → spot_among [] index ≡ (0, index)
unfolding spot_among
spot_none index = refl

-- one block more
pub reached_next : (lengths : List ℕ) (block before l : ℕ) → IsBlockReached lengths block before → drop block lengths ≡ l ∷ drop (block + 1) lengths → IsBlockReached lengths (block + 1) (before + (l + 1))
reached_next lengths block before l h more =
    record {
      block_found = λ index le.
          let e = on index le in
          let s : index - (before + (l + 1)) ≡ index - before - suc l = omega arith in
          h.block_found index (omega (arith, le)) ∙ ap (λ (k : ℕ × ℕ). block + k.0) e ∙ rw s (omega arith);
      offset_found = λ index le.
          let e = on index le in
          let s : index - (before + (l + 1)) ≡ index - before - suc l = omega arith in
          h.offset_found index (omega (arith, le)) ∙ ap (λ (k : ℕ × ℕ). k.1) e ∙ rw s refl;
    }
  where
    on : (index : ℕ) → before + (l + 1) ≤ index → spot_among (drop block lengths) (index - before) ≡ (suc (spot_among (drop (block + 1) lengths) (index - before - suc l)).0, (spot_among (drop (block + 1) lengths) (index - before - suc l)).1)
    on index le = rw more (spot_on l (drop (block + 1) lengths) (index - before) (omega (arith, le)))

pub reached_spot : (lengths : List ℕ) (block before index : ℕ) → IsBlockReached lengths block before → before ≤ index → spot_among (drop block lengths) (index - before) ≡ (0, index - before) → spot_among lengths index ≡ (block, index - before)
reached_spot lengths block before index h le here =
    let a : (spot_among lengths index).0 ≡ block = h.block_found index le ∙ ap (λ (k : ℕ × ℕ). block + k.0) here ∙ omega arith in
    let b : (spot_among lengths index).1 ≡ index - before = h.offset_found index le ∙ ap (λ (k : ℕ × ℕ). k.1) here in
    pair_is (spot_among lengths index) block (index - before) a b
  where
    pair_is : (p : ℕ × ℕ) (x y : ℕ) → p.0 ≡ x → p.1 ≡ y → p ≡ (x, y)
    pair_is p x y a b = rw (← a, ← b) refl

pub spot_past : (lengths : List ℕ) (block index : ℕ) → length lengths ≤ block → spot_among (drop block lengths) index ≡ (0, index)
spot_past lengths block index le =
    rw (drop_all block lengths le) (spot_none index)

-- ---- blocks

-- bytes are those of their number, whatever stands above them
high_bytes : (bytes : List ℕ) (above : ℕ) → ((i : ℕ) → get_or bytes i 0 < 256) → big_endian_bytes (length bytes) (above * 2 ^ (8 * length bytes) + number_of bytes) ≡ bytes
unfolding big_endian_bytes
high_bytes [] above small = refl
high_bytes (b ∷ bytes) above small =
    let k = length bytes in
    let p = 2 ^ (8 * k) in
    let r = number_of bytes in
    let lt : r < p = number_below bytes (λ i. small (suc i)) in
    let e : 2 ^ (8 * suc k) ≡ p * 256 = ap (λ n. 2 ^ n) (omega arith) ∙ pow-add 2 (8 * k) 8 in
    let same : above * 2 ^ (8 * suc k) + (b * p + r) ≡ (above * 256 + b) * p + r = rw e (omega arith) in
    let front : ((above * 256 + b) * p + r) / p ≡ above * 256 + b = shr_high (above * 256 + b) (8 * k) r lt in
    let byte : (above * 256 + b) % 256 ≡ b = omega (arith, small 0) in
    let rest = high_bytes bytes (above * 256 + b) (λ i. small (suc i)) in
    rw (same, front, byte, rest) refl

pub bytes_of_number : (bytes : List ℕ) (n : ℕ) → ((i : ℕ) → get_or bytes i 0 < 256) → n ≡ number_of bytes → big_endian_bytes (length bytes) n ≡ bytes
bytes_of_number bytes n small is =
    let e : n ≡ 0 * 2 ^ (8 * length bytes) + number_of bytes = is ∙ omega arith in rw e (high_bytes bytes 0 small)

-- one byte of the bits that are held
pub byte_out : (bytes : List ℕ) (bits count : ℕ) → 8 ≤ count → number_of (bytes ++ bits / 2 ^ (count - 8) ∷ []) * 2 ^ (count - 8) + bits % 2 ^ (count - 8) ≡ number_of bytes * 2 ^ count + bits
byte_out bytes bits count le =
    let k = count - 8 in
    let p = 2 ^ k in
    let e : 2 ^ count ≡ p * 256 = ap (λ n. 2 ^ n) (omega (arith, le)) ∙ pow-add 2 k 8 in
    let split = shr_split bits k in
    rw (e, number_push bytes (bits / p)) (omega (arith, split))

-- a code behind the bits that are held
pub code_in_bits : (bits count code long : ℕ) → bits < 2 ^ count → code < 2 ^ long → bits * 2 ^ long + code < 2 ^ (count + long)
code_in_bits bits count code long lt small = rw (pow-add 2 count long) (omega (arith, mul-add-lt bits (2 ^ long) code (2 ^ count) lt small))

pub code_after : (number bits count code long : ℕ) → number * 2 ^ (count + long) + (bits * 2 ^ long + code) ≡ (number * 2 ^ count + bits) * 2 ^ long + code
code_after number bits count code long = rw (pow-add 2 count long) (omega arith)

pub byte_below : (bits count : ℕ) → 8 ≤ count → bits < 2 ^ count → bits / 2 ^ (count - 8) < 256
byte_below bits count le lt =
    let k = count - 8 in
    let e : 2 ^ count ≡ 256 * 2 ^ k = ap (λ n. 2 ^ n) (omega (arith, le)) ∙ pow-add 2 8 k in
    div_below bits (2 ^ k) 256 (pow_pos k) (rw e at lt)

pub bits_below : (bits k : ℕ) → bits % 2 ^ k < 2 ^ k
bits_below bits k = mod_below bits (2 ^ k) (pow_pos k)

-- the bits that are held, with zeros up to a whole byte
pub whole_bytes : (x count zeros long held bits new : ℕ) → count < 8 → held < 8 → zeros ≡ (8 - count) % 8 → 8 * new + held ≡ 8 * long + count + zeros → held ≡ 0
whole_bytes x count zeros long held bits new few less is e = omega (arith, few, less, is, e)

pub zeros_left : (number x bits count zeros held long new size : ℕ) → held ≡ 0 → bits < 2 ^ held → 8 * new + held ≡ 8 * long + count + zeros → 8 * long + count ≤ 8 * size → new ≤ size
    → number * 2 ^ held + bits ≡ x * 2 ^ zeros + 0 → number * 2 ^ (8 * (size - new)) ≡ x * 2 ^ (8 * size - (8 * long + count))
zeros_left number x bits count zeros held long new size none few e fits le h =
    let few' : bits < 2 ^ 0 = rw none at few in
    let n : number ≡ x * 2 ^ zeros = omega (arith, few', (rw none at h)) in
    let p : 2 ^ (8 * size - (8 * long + count)) ≡ 2 ^ zeros * 2 ^ (8 * (size - new)) = ap (λ k. 2 ^ k) (omega (arith, e, none, fits, le)) ∙ pow-add 2 zeros (8 * (size - new)) in
    rw (n, p) (omega arith)

pub zero_more : (bytes : List ℕ) (size : ℕ) → length bytes < size → number_of (bytes ++ 0 ∷ []) * 2 ^ (8 * (size - length (bytes ++ 0 ∷ []))) ≡ number_of bytes * 2 ^ (8 * (size - length bytes))
zero_more bytes size lt =
    let long = length-append bytes (0 ∷ []) in
    let e : 2 ^ (8 * (size - length bytes)) ≡ 256 * 2 ^ (8 * (size - length (bytes ++ 0 ∷ []))) = ap (λ k. 2 ^ k) (omega (arith, lt, long)) ∙ pow-add 2 8 (8 * (size - length (bytes ++ 0 ∷ []))) in
    rw (e, number_push bytes 0) (omega arith)

-- ---- codes that are read

pub read_none : (least : ℕ) (lowest : List ℕ) (c : Code) → c.length ≤ least → (m : ℕ) → m < length lowest → least + m < c.length → c.bits / 2 ^ (c.length - (least + m)) < get_or (bases lowest) m 0
read_none least lowest c le m within below = absurd (omega (arith, le, below))

pub read_on : (least low : ℕ) (lowest : List ℕ) (c : Code) → c.bits / 2 ^ (c.length - least) < get_or (bases (low ∷ lowest)) 0 0
    → ((m : ℕ) → m < length lowest → least + 1 + m < c.length → c.bits / 2 ^ (c.length - (least + 1 + m)) < get_or (bases lowest) m 0)
    → (m : ℕ) → m < length (low ∷ lowest) → least + m < c.length → c.bits / 2 ^ (c.length - (least + m)) < get_or (bases (low ∷ lowest)) m 0
read_on least low lowest c first rest zero within below = let e : least + 0 ≡ least = omega arith in rw e first
read_on least low lowest c first rest (suc m) within below =
    let e : least + suc m ≡ least + 1 + m = omega arith in
    rw (e, bases_tail low lowest m) (rest m (omega (arith, within)) (omega (arith, below)))

pub read_rest : (least low : ℕ) (lowest : List ℕ) (c : Code)
    → ((m : ℕ) → m < length (low ∷ lowest) → least + m < c.length → c.bits / 2 ^ (c.length - (least + m)) < get_or (bases (low ∷ lowest)) m 0)
    → (m : ℕ) → m < length lowest → least + 1 + m < c.length → c.bits / 2 ^ (c.length - (least + 1 + m)) < get_or (bases lowest) m 0
read_rest least low lowest c all m within below =
    let e : least + suc m ≡ least + 1 + m = omega arith in
    let f = all (suc m) (omega (arith, within)) (omega (arith, below)) in
    rw (e, bases_tail low lowest m) at f

-- no code of a shorter length begins the bits
abbrev pub IsRead : ℕ → List ℕ → Code → Type 0
IsRead least lowest c = (m : ℕ) → m < length lowest → least + m < c.length → c.bits / 2 ^ (c.length - (least + m)) < get_or (bases lowest) m 0

abbrev pub tail_of : List ℕ → List ℕ
tail_of [] = []
tail_of (x ∷ xs) = xs

pub read_whole : (least : ℕ) (lowest : List ℕ) (c : Code) (P : Type 0) → 1 ≤ length lowest → c.bits / 2 ^ (c.length - least) < get_or (bases lowest) 0 0
    → (P ↔ IsRead (least + 1) (tail_of lowest) c) → (P ↔ IsRead least lowest c)
read_whole least [] c P some first h = absurd (omega (arith, some))
read_whole least (low ∷ lowest) c P some first h = (λ p. read_on least low lowest c first (h.0 p), λ all. h.1 (read_rest least low lowest c all))

pub base_one : (lowest : List ℕ) → length lowest < 2 → 0 ≡ get_or (bases lowest) 0 0
base_one [] lt = refl
base_one (x ∷ []) lt = refl
base_one (x ∷ y ∷ rest) lt = absurd (omega (arith, lt))

pub falls_one : (lowest : List ℕ) → length lowest < 2 → true ≡ falls lowest
falls_one [] lt = refl
falls_one (x ∷ []) lt = refl
falls_one (x ∷ y ∷ rest) lt = absurd (omega (arith, lt))
