-- The first number of each code length, at the top of 32 bits.
use Rattle.std.proofs.Common.{◌≡◌, ℕ, zero, suc, ◌+◌, ◌-◌, ◌*◌, ◌/◌, ◌%◌, ◌^◌, ◌<◌, ◌≤◌, List, [], ◌∷◌, ◌++◌, length, drop, take, get_or, set, None, add-zero, refl, sym, ap, ◌∙◌, inl, inr, arith}
use Rattle.std.proofs.lemmas.List.{get_or-set_same, get_or-set_other, get_or-map, length-map, map-append, take_more}
use Rattle.std.proofs.lemmas.Bool.{cases_lt, cases_eq}
use Rattle.std.proofs.lemmas.Nat.{shr-shr, pow-add, pow_pos}
use Rattle.std.proofs.Math.Nat.{le-div_iff_mul-le, div-lt_iff_lt-mul, add-mul-div_left, mul_comm, mul-le-mul_right}
use Rattle.pair_dict.specs.Codes.{bases, bits, below, code_from}
use Rattle.pair_dict.specs.Inside.Windows.{IsWindow, IsFront, Shows, IsLeastWithPrefix, AreFirsts, firsts_in, lowest_in}
use Rattle.pair_dict.specs.Inside.Hints.{EndsAtZero, AreHints, IsFirstReached}
use Rattle.pair_dict.specs.declared.window.BitBuffer.{BitBuffer}
use Rattle.pair_dict.specs.declared.codes.CodeLength.{CodeLength}
use Rattle.pair_dict.proofs.WordLemmas.{base_last, length-bases}
use Rattle.pair_dict.proofs.CodeLemmas.{code_next, code_too_long, code_found}

first_zero : (n : ℕ) → IsLeastWithPrefix n 0 0
first_zero n = record { possible = λ lt. omega arith; impossible = λ le. absurd (omega (arith, le, pow_pos n)) }

pub firsts_start : (least : ℕ) (xs firsts : List ℕ) → ((k : ℕ) → get_or firsts k 0 ≡ 0) → (k : ℕ) → length xs ≤ k + 1 → IsLeastWithPrefix (least + k) (get_or (bases xs) k 0) (get_or firsts k 0)
firsts_start least xs firsts none k le = rw (none k, base_last xs k le) (first_zero (least + k))

pub firsts_more : (least : ℕ) (xs firsts : List ℕ) (j v : ℕ) → j < length xs → length firsts ≡ length xs → IsLeastWithPrefix (least + j) (get_or (bases xs) j 0) v
    → ((k : ℕ) → j + 1 ≤ k → k < length xs → IsLeastWithPrefix (least + k) (get_or (bases xs) k 0) (get_or firsts k 0))
    → (k : ℕ) → j ≤ k → k < length xs → IsLeastWithPrefix (least + k) (get_or (bases xs) k 0) (get_or (set firsts j v) k 0)
firsts_more least xs firsts j v lt len first rest k le k-lt =
    elim (cases_eq k j) [
      | inl same ↦ rw (same, get_or-set_same firsts j v 0 (omega (arith, len))) first
      | inr ne ↦ rw (get_or-set_other firsts j k v 0 ne) (rest k (omega (arith, ne)) k-lt)
    ]

pub split_32 : (n : ℕ) → n ≤ 32 → 2 ^ 32 ≡ 2 ^ n * 2 ^ (32 - n)
split_32 n le =
    let e : 32 ≡ n + (32 - n) = omega arith in
    ap (λ (x : ℕ). 2 ^ x) e ∙ pow-add 2 n (32 - n)

-- a word of 64 bits without its last half
pub front_below : (word : ℕ) → word < 2 ^ 64 → word / 2 ^ 32 < 2 ^ 32
front_below word lt = omega arith

pub front_of_window : (block : List ℕ) (at word : ℕ) → IsWindow block at word → IsFront block at (word / 2 ^ 32)
front_of_window block at word is n few within =
    let e : 32 + (32 - n) ≡ 64 - n = omega arith in
    shr-shr word 32 (32 - n) ∙ ap (λ (k : ℕ). word / 2 ^ k) e ∙ is n (omega arith) within

pub front_of_buffer : (block : List ℕ) (at : ℕ) (b : BitBuffer) → Shows block at b → 32 ≤ b.held → IsFront block at (b.bits / 2 ^ 32)
front_of_buffer block at b shows held n few within =
    let e : 32 + (32 - n) ≡ 64 - n = omega arith in
    shr-shr b.bits 32 (32 - n) ∙ ap (λ (k : ℕ). b.bits / 2 ^ k) e ∙ shows.same n (omega arith)

module _ (n base first front : ℕ) (is : IsLeastWithPrefix n base first) (few : n ≤ 32) (small : front < 2 ^ 32) where
  -- the front's first n bits are at least the base
  pub first_reached : first ≤ front → base ≤ front / 2 ^ (32 - n)
  first_reached le =
      elim (cases_lt base (2 ^ n)) [
        | inl lt ↦ (le-div_iff_mul-le {k = 2 ^ (32 - n)} {x = base} {y = front} (pow_pos (32 - n))).1 (rw (is.possible lt) at le)
        | inr past ↦ absurd (omega (arith, is.impossible past))
      ]

  pub first_missed : front < first → front / 2 ^ (32 - n) < base
  first_missed lt =
      elim (cases_lt base (2 ^ n)) [
        | inl below ↦ (div-lt_iff_lt-mul {k = 2 ^ (32 - n)} {x = front} {y = base} (pow_pos (32 - n))).1 (rw (is.possible below) at lt)
        | inr past ↦
            let top : front < 2 ^ n * 2 ^ (32 - n) = rw (← split_32 n few) small in
            let under : front / 2 ^ (32 - n) < 2 ^ n = (div-lt_iff_lt-mul {k = 2 ^ (32 - n)} {x = front} {y = 2 ^ n} (pow_pos (32 - n))).1 top in
            omega (arith, under, past)
      ]

  -- how far it is above the base
  pub above_base : first ≤ front → (front - first) / 2 ^ (32 - n) + base ≡ front / 2 ^ (32 - n)
  above_base le =
      elim (cases_lt base (2 ^ n)) [
        | inl lt ↦
            let w = 2 ^ (32 - n) in
            let first-is : first ≡ w * base = is.possible lt ∙ mul_comm base w in
            let whole : front ≡ (front - first) + w * base = omega (arith, le, first-is) in
            sym (ap (λ (x : ℕ). x / w) whole ∙ add-mul-div_left (front - first) base (pow_pos (32 - n)))
        | inr past ↦ absurd (omega (arith, is.impossible past))
      ]

-- the code of 32 bits, whose length was found
module _ (limit : ℕ) (block : List ℕ) (at least front : ℕ) (lowest firsts : List ℕ) (are : AreFirsts least lowest firsts) (is : IsFront block at front) (small : front < 2 ^ 32) (most : least + length lowest ≤ 33) where
  missed_at : (i : ℕ) → i < length lowest → front < get_or firsts i 0 → at + (least + i) ≤ 8 * length block → bits block at (least + i) < get_or (bases lowest) i 0
  missed_at i lt missed fits =
      let n = least + i in
      let few : n ≤ 32 = omega arith in
      rw (is n few fits) at (first_missed n (get_or (bases lowest) i 0) (get_or firsts i 0) front (are.each i lt) few small missed)

  -- no code has one of the lengths before
  passed_to : (i : ℕ) → i ≤ length firsts → ((j : ℕ) → j < i → front < get_or firsts j 0)
      → code_from limit block at (least + i) (drop i (bases lowest)) (drop i lowest) ≡ code_from limit block at least (bases lowest) lowest
  passed_to zero within missed = rw (add-zero least) refl
  passed_to (suc i) within missed =
      let len = length-bases lowest in
      let lt : i < length lowest = omega (arith, are.lengths) in
      let e : least + i + 1 ≡ least + suc i = omega arith in
      let next : i + 1 ≡ suc i = omega arith in
      rw (← e, ← next) (sym (code_next limit block at (least + i) (bases lowest) lowest i len (omega (arith, len, lt)) (λ fits. missed_at i lt (missed i (omega arith)) fits)) ∙ passed_to i (omega arith) (λ j before. missed j (omega arith)))

  module _ (i : ℕ) (found : IsFirstReached firsts front i) where
    -- it doesn't fit the block
    pub code_past : 8 * length block < at + (least + i) → code_from limit block at least (bases lowest) lowest ≡ None
    code_past long =
        let len = length-bases lowest in
        sym (passed_to i (omega (arith, found.known)) found.missed) ∙ code_too_long limit block at (least + i) (bases lowest) lowest i len (omega (arith, len, found.known, are.lengths)) long

    -- it fits the block
    pub code_is : (low first symbol : ℕ) → low ≡ get_or lowest i 0 → first ≡ get_or firsts i 0 → symbol ≡ low + (front - first) / 2 ^ (32 - (least + i)) → at + (least + i) ≤ 8 * length block
        → code_from limit block at least (bases lowest) lowest ≡ below limit symbol (least + i)
    code_is low first symbol low-is first-is symbol-is fits =
        let n = least + i in
        let base = get_or (bases lowest) i 0 in
        let len = length-bases lowest in
        let lt : i < length lowest = omega (arith, found.known, are.lengths) in
        let few : n ≤ 32 = omega arith in
        let shown = is n few fits in
        let reached : base ≤ bits block at n = rw shown at (first_reached n base (get_or firsts i 0) front (are.each i lt) few small found.reached) in
        let above : (front - get_or firsts i 0) / 2 ^ (32 - n) + base ≡ bits block at n = above_base n base (get_or firsts i 0) front (are.each i lt) few small found.reached ∙ shown in
        let value : symbol ≡ (get_or lowest i 0 + bits block at n) - base = symbol-is ∙ rw (low-is, first-is) (omega (arith, above, reached)) in
        sym (passed_to i (omega (arith, found.known)) found.missed) ∙ code_found limit block at n (bases lowest) lowest i len (omega (arith, len, lt)) fits reached ∙ ap (λ (s : ℕ). below limit s n) (sym value)

-- ---- code lengths that are kept

pub length-firsts_in : (codes : List CodeLength) → length (firsts_in codes) ≡ length codes
length-firsts_in codes = length-map codes (λ (c : CodeLength). c.packed / 65536)

pub length-lowest_in : (codes : List CodeLength) → length (lowest_in codes) ≡ length codes
length-lowest_in codes = length-map codes (λ (c : CodeLength). c.packed % 65536)

abbrev none : CodeLength
none = record { packed = 0 }

pub first_at : (codes : List CodeLength) (i : ℕ) → i < length codes → get_or (firsts_in codes) i 0 ≡ (get_or codes i none).packed / 65536
first_at codes i lt = get_or-map (λ (c : CodeLength). c.packed / 65536) codes i none 0 lt

pub lowest_at : (codes : List CodeLength) (i : ℕ) → i < length codes → get_or (lowest_in codes) i 0 ≡ (get_or codes i none).packed % 65536
lowest_at codes i lt = get_or-map (λ (c : CodeLength). c.packed % 65536) codes i none 0 lt

-- one length more
pub codes_more : (firsts lowest : List ℕ) (codes : List CodeLength) (i : ℕ) (next : CodeLength) → i < length firsts → i < length lowest → next.packed / 65536 ≡ get_or firsts i 0 → next.packed % 65536 ≡ get_or lowest i 0 → firsts_in codes ≡ take i firsts → lowest_in codes ≡ take i lowest
    → (firsts_in (codes ++ next ∷ []) ≡ take (i + 1) firsts) × (lowest_in (codes ++ next ∷ []) ≡ take (i + 1) lowest)
codes_more firsts lowest codes i next lt low-lt first-is low-is firsts-so lowest-so = (
  map-append (λ (c : CodeLength). c.packed / 65536) codes (next ∷ []) ∙ rw (firsts-so, first-is) (sym (take_more firsts i 0 lt)),
  map-append (λ (c : CodeLength). c.packed % 65536) codes (next ∷ []) ∙ rw (lowest-so, low-is) (sym (take_more lowest i 0 low-lt)),
)

-- no first number is greater than 2^32
pub firsts_few : (least : ℕ) (lowest firsts : List ℕ) → AreFirsts least lowest firsts → least + length lowest ≤ 33 → (i : ℕ) → i < length firsts → get_or firsts i 0 ≤ 2 ^ 32
firsts_few least lowest firsts are most i lt =
    let n = least + i in
    let base = get_or (bases lowest) i 0 in
    let is = are.each i (omega (arith, are.lengths, lt)) in
    elim (cases_lt base (2 ^ n)) [
      | inl possible ↦
          let less : base * 2 ^ (32 - n) ≤ 2 ^ n * 2 ^ (32 - n) = mul-le-mul_right {m = base} {n = 2 ^ n} (2 ^ (32 - n)) (omega (arith, possible)) in
          omega (arith, less, is.possible possible, split_32 n (omega (arith, are.lengths, lt, most)))
      | inr past ↦ omega (arith, is.impossible past)
    ]

-- no bits are below the first number of the greatest length
pub ends_at_zero : (least : ℕ) (lowest firsts : List ℕ) → AreFirsts least lowest firsts → 1 ≤ length lowest → EndsAtZero firsts
ends_at_zero least lowest firsts are some =
    let i = length firsts - 1 in
    let lt : i < length lowest = omega (arith, are.lengths) in
    let base-is : get_or (bases lowest) i 0 ≡ 0 = base_last lowest i (omega (arith, are.lengths)) in
    (are.each i lt).possible (omega (arith, base-is, pow_pos (least + i))) ∙ ap (λ (b : ℕ). b * 2 ^ (32 - (least + i))) base-is ∙ omega arith

-- ---- hints

-- one place more
pub not_last : (firsts : List ℕ) (i n : ℕ) → EndsAtZero firsts → i < length firsts → n < get_or firsts i 0 → i + 1 < length firsts
not_last firsts i n last lt more =
    elim (cases_eq i (length firsts - 1)) [
      | inl same ↦ absurd (omega (arith, more, ap (λ (k : ℕ). get_or firsts k 0) same, last))
      | inr ne ↦ omega (arith, ne)
    ]

pub place_more : (firsts : List ℕ) (i end : ℕ) → ((j : ℕ) → j < i → end ≤ get_or firsts j 0) → end ≤ get_or firsts i 0 → (j : ℕ) → j < i + 1 → end ≤ get_or firsts j 0
place_more firsts i end before here j lt =
    elim (cases_lt j i) [
      | inl less ↦ before j less
      | inr past ↦
          let last : j ≡ i = omega arith in
          rw last here
    ]

-- the numbers of 32 bits with the same first six
pub hinted : (firsts bytes : List ℕ) (front : ℕ) → AreHints firsts bytes → front < 2 ^ 32 → (j : ℕ) → j < get_or bytes (front / 67108864) 0 → front + 1 ≤ get_or firsts j 0
hinted firsts bytes front hints small j lt = omega (arith, (hints.each (front / 67108864) (omega arith)).above j lt)
