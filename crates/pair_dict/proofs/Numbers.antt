-- Bytes as one number, and some of its bits.
use Rattle.std.proofs.Common.{◌≡◌, ℕ, zero, suc, ◌+◌, ◌-◌, ◌*◌, ◌/◌, ◌%◌, ◌^◌, ◌<◌, ◌≤◌, List, [], ◌∷◌, ◌++◌, length, get_or, take, drop, refl, sym, ap, ◌∙◌, inl, inr, arith}
use Rattle.std.proofs.lemmas.List.{length-append, length-take-le, length-take, length-drop, drop_more, take_more, take-append-drop, get_or-drop, get_or-take, get_or_past}
use Rattle.std.proofs.lemmas.Bool.{cases_lt}
use Rattle.std.proofs.lemmas.Nat.{shl_whole, pow-add, shr-shr, shl-shr, shr_high, field_of, mul-add-lt}
use Rattle.std.proofs.Math.Nat.{pow-suc, pow-le-pow_right, mul-add-mod_self_right, mul_assoc}
use Rattle.byteorder.specs.Endian.{big_from}
use Rattle.pair_dict.specs.Codes.{number_of, bits}
use Rattle.pair_dict.specs.Inside.Windows.{IsWord, IsWindow}

abbrev pub IsBytes : List ℕ → Type 0
IsBytes bytes = (i : ℕ) → get_or bytes i 0 < 256

pub number-append : (xs ys : List ℕ) → number_of (xs ++ ys) ≡ number_of xs * 2 ^ (8 * length ys) + number_of ys
number-append [] ys = omega arith
number-append (x ∷ xs) ys =
    let e : 2 ^ (8 * length (xs ++ ys)) ≡ 2 ^ (8 * length xs) * 2 ^ (8 * length ys) =
    ap (λ n. 2 ^ n) (omega (arith, length-append xs ys)) ∙ pow-add 2 (8 * length xs) (8 * length ys) in
    rw (e, number-append xs ys) (omega arith)

pub number_below : (xs : List ℕ) → IsBytes xs → number_of xs < 2 ^ (8 * length xs)
number_below [] fits = omega arith
number_below (x ∷ xs) fits =
    let e : 2 ^ (8 * suc (length xs)) ≡ 2 ^ (8 * length xs) * 256 = ap (λ n. 2 ^ n) (omega arith) ∙ pow-add 2 (8 * length xs) 8 in
    rw e (mul-add-lt x (2 ^ (8 * length xs)) (number_of xs) 256 (fits 0) (number_below xs (λ i. fits (suc i))))

-- one byte more
pub number_push : (xs : List ℕ) (y : ℕ) → number_of (xs ++ y ∷ []) ≡ number_of xs * 256 + y
number_push xs y = number-append xs (y ∷ []) ∙ omega arith

pow_bytes : (n : ℕ) → 256 ^ n ≡ 2 ^ (8 * n)
pow_bytes zero = refl
pow_bytes (suc n) =
    let e : 2 ^ (8 * suc n) ≡ 2 ^ (8 * n) * 256 = ap (λ m. 2 ^ m) (omega arith) ∙ pow-add 2 (8 * n) 8 in
    pow-suc 256 n ∙ ap (λ m. m * 256) (pow_bytes n) ∙ sym e

-- a number that was read from its bytes
pub big_from_is : (n i : ℕ) (xs : List ℕ) → i + n ≤ length xs → big_from i n xs ≡ number_of (take n (drop i xs))
big_from_is zero i xs within = refl
big_from_is (suc n) i xs within =
    let here : drop i xs ≡ get_or xs i 0 ∷ drop (i + 1) xs = drop_more xs i 0 (omega arith) in
    let len : length (take n (drop (i + 1) xs)) ≡ n = length-take-le n (drop (i + 1) xs) (omega (arith, length-drop (i + 1) xs)) in
    let rest : big_from (suc i) n xs ≡ number_of (take n (drop (i + 1) xs)) = ap (λ (k : ℕ). big_from k n xs) (omega arith) ∙ big_from_is n (i + 1) xs (omega arith) in
    rw (here, len, rest, pow_bytes n) refl

module _ (bytes : List ℕ) (word : ℕ) (fits : IsBytes bytes) where
  pub word_long : 8 ≤ length bytes → word ≡ number_of (take 8 bytes) → IsWord bytes word
  word_long long is n few within =
      let rest = drop 8 bytes in
      let lens : length rest + 8 ≡ length bytes = omega (arith, length-drop 8 bytes) in
      let whole : number_of bytes ≡ word * 2 ^ (8 * length rest) + number_of rest =
      ap number_of (sym (take-append-drop 8 bytes)) ∙ number-append (take 8 bytes) rest ∙ ap (λ w. w * 2 ^ (8 * length rest) + number_of rest) (sym is) in
      let low : number_of rest < 2 ^ (8 * length rest) = number_below rest (λ i. rw get_or-drop (fits (8 + i))) in
      let k : 8 * length bytes - n ≡ 8 * length rest + (64 - n) = omega arith in
      rw (k, ← shr-shr (number_of bytes) (8 * length rest) (64 - n), whole, shr_high word (8 * length rest) (number_of rest) low) refl

  pub word_short : length bytes < 8 → word ≡ number_of bytes * 2 ^ (64 - 8 * length bytes) → IsWord bytes word
  word_short short is n few within =
      let a = 64 - 8 * length bytes in
      let b = 8 * length bytes - n in
      let k : 64 - n ≡ a + b = omega arith in
      rw (is, k, ← shr-shr (number_of bytes * 2 ^ a) a b, shl-shr (number_of bytes) a) refl

-- the low bits of a number are those of the bytes at its end
low_bits : (xs ys : List ℕ) (k n : ℕ) → k + n ≤ 8 * length ys → number_of (xs ++ ys) / 2 ^ k % 2 ^ n ≡ number_of ys / 2 ^ k % 2 ^ n
low_bits xs ys k n within =
    let m = 8 * length ys - (n + k) in
    let e : 2 ^ (8 * length ys) ≡ 2 ^ m * 2 ^ (n + k) = ap (λ (x : ℕ). 2 ^ x) (omega arith) ∙ pow-add 2 m (n + k) in
    let same : number_of (xs ++ ys) % 2 ^ (n + k) ≡ number_of ys % 2 ^ (n + k) =
    ap (λ (x : ℕ). x % 2 ^ (n + k)) (number-append xs ys ∙ ap (λ (x : ℕ). number_of xs * x + number_of ys) e ∙ ap (λ (x : ℕ). x + number_of ys) (sym (mul_assoc (number_of xs) (2 ^ m) (2 ^ (n + k)))))
    ∙ mul-add-mod_self_right (number_of xs * 2 ^ m) (2 ^ (n + k)) (number_of ys) in
    sym (field_of (number_of (xs ++ ys)) n k) ∙ ap (λ (x : ℕ). x / 2 ^ k) same ∙ field_of (number_of ys) n k

-- the first bits of a word from a byte on, moved up to a bit
pub word_bits : (block : List ℕ) (i r word moved : ℕ) → r < 8 → IsWord (drop i block) word → moved ≡ word * 2 ^ r % 2 ^ 64 → 8 * i + r ≤ 8 * length block
    → (n : ℕ) → n + r ≤ 64 → 8 * i + r + n ≤ 8 * length block → moved / 2 ^ (64 - n) ≡ bits block (8 * i + r) n
unfolding bits
word_bits block i r word moved small is moved-is start n few within =
    let rest = drop i block in
    let lens : length rest + i ≡ length block = omega (arith, length-drop i block) in
    let k = 8 * length block - ((8 * i + r) + n) in
    let up : 64 - n ≡ r + (64 - (n + r)) = omega arith in
    let top : word * 2 ^ r / 2 ^ (64 - n) ≡ word / 2 ^ (64 - (n + r)) =
    rw (up, ← shr-shr (word * 2 ^ r) r (64 - (n + r)), shl-shr word r) refl in
    let from : word / 2 ^ (64 - (n + r)) ≡ number_of rest / 2 ^ k = is (n + r) (omega arith) (omega arith) ∙ ap (λ (x : ℕ). number_of rest / 2 ^ x) (omega arith) in
    let all : n + (64 - n) ≡ 64 = omega arith in
    let cut : moved / 2 ^ (64 - n) ≡ (word * 2 ^ r) / 2 ^ (64 - n) % 2 ^ n =
    ap (λ (x : ℕ). x / 2 ^ (64 - n)) (moved-is ∙ ap (λ (x : ℕ). word * 2 ^ r % 2 ^ x) (sym all)) ∙ field_of (word * 2 ^ r) n (64 - n) in
    cut ∙ ap (λ (x : ℕ). x % 2 ^ n) (top ∙ from)
    ∙ sym (low_bits (take i block) rest k n (omega arith)) ∙ ap (λ (b : List ℕ). number_of b / 2 ^ k % 2 ^ n) (take-append-drop i block)

pub IsBytes-take : (n : ℕ) (bytes : List ℕ) → IsBytes bytes → IsBytes (take n bytes)
IsBytes-take n bytes h i =
    elim (cases_lt i n) [
      | inl lt ↦ rw (get_or-take n bytes i 0 lt) (h i)
      | inr le ↦ rw (get_or_past (take n bytes) i 0 (omega (arith, length-take n bytes))) (omega arith)
    ]

-- fewer than eight bytes and one more fit a word
pub push_fits : (bytes : List ℕ) (i byte : ℕ) → IsBytes bytes → i < length bytes → length bytes < 8 → byte < 256 → number_of (take i bytes) * 256 + byte < 2 ^ 64
push_fits bytes i byte fits lt short small =
    let len : length (take i bytes) ≡ i = length-take-le i bytes (omega arith) in
    let below : number_of (take i bytes) < 2 ^ (8 * i) = rw len at (number_below (take i bytes) (IsBytes-take i bytes fits)) in
    let few : 8 * i ≤ 48 = omega arith in
    let top : 2 ^ (8 * i) ≤ 2 ^ 48 = pow-le-pow_right {n = 2} (omega arith) few in
    omega arith

pub number_more : (bytes : List ℕ) (i : ℕ) → i < length bytes → number_of (take (i + 1) bytes) ≡ number_of (take i bytes) * 256 + get_or bytes i 0
number_more bytes i lt = ap number_of (take_more bytes i 0 lt) ∙ number_push (take i bytes) (get_or bytes i 0)

-- a word moved up to its top
pub moved_up : (bytes : List ℕ) → IsBytes bytes → length bytes < 8 → (number_of bytes * 2 ^ (64 - 8 * length bytes)) % 2 ^ 64 ≡ number_of bytes * 2 ^ (64 - 8 * length bytes)
moved_up bytes fits short = shl_whole (number_of bytes) (8 * length bytes) (64 - 8 * length bytes) 64 (number_below bytes fits) (omega arith)

pub IsBytes-drop : (n : ℕ) (bytes : List ℕ) → IsBytes bytes → IsBytes (drop n bytes)
IsBytes-drop n bytes h i = rw get_or-drop (h (n + i))

-- the same at a bit, cut into its byte and the rest
pub window_at : (block : List ℕ) (at word : ℕ) → IsWord (drop (at / 8) block) word → at ≤ 8 * length block → IsWindow block at (word * 2 ^ (at % 8) % 2 ^ 64)
window_at block at word is within =
    let e : 8 * (at / 8) + at % 8 ≡ at = omega arith in
    rw e at (λ (n : ℕ) (few : n ≤ 57) (fits : 8 * (at / 8) + at % 8 + n ≤ 8 * length block). word_bits block (at / 8) (at % 8) word (word * 2 ^ (at % 8) % 2 ^ 64) (omega arith) is refl (omega arith) n (omega arith) fits)
