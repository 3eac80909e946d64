-- Sets of squares by their numbers.
use Rattle.std.proofs.Common.{◌≡◌, ℕ, zero, suc, ◌+◌, ◌-◌, ◌<◌, ◌≤◌, List, [], ◌∷◌, ◌++◌, length, drop, get_or, refl, sym, ap, ◌∙◌, inl, inr, zero-add, arith}
use Rattle.std.proofs.lemmas.List.{length-drop, drop_more, drop_all}
use Rattle.std.proofs.lemmas.Bool.{cases_order}
use Rattle.place_index.proofs.Counting.Choosing.{choose_step, choose_none}
use Rattle.place_index.specs.Choose.{choose, IsFallingBelow, set_number, IsLater, SetsAreNumbered}

-- one thing more
choose_grows : (n k : ℕ) → choose n k ≤ choose (suc n) k
choose_grows n zero = omega (arith, choose_none n, choose_none (suc n))
choose_grows n (suc k) = omega (arith, choose_step n k)

choose_far : (d n k : ℕ) → choose n k ≤ choose (d + n) k
choose_far zero n k =
    let e : choose (zero + n) k ≡ choose n k = ap (λ m. choose m k) (zero-add n) in
    omega (arith, e)
choose_far (suc d) n k =
    let n-is : suc d + n ≡ suc (d + n) = omega arith in
    let e : choose (suc d + n) k ≡ choose (suc (d + n)) k = ap (λ m. choose m k) n-is in
    omega (arith, e, choose_far d n k, choose_grows (d + n) k)

pub choose_mono : (m n k : ℕ) → m ≤ n → choose m k ≤ choose n k
choose_mono m n k le =
    let n-is : (n - m) + m ≡ n = omega arith in
    let e : choose ((n - m) + m) k ≡ choose n k = ap (λ i. choose i k) n-is in
    omega (arith, e, choose_far (n - m) m k)

pub number_below : (n : ℕ) (xs : List ℕ) → IsFallingBelow n xs → set_number xs < choose n (length xs)
number_below n [] falls = omega (arith, choose_none n)
number_below n (s ∷ lower) falls =
    let rest = number_below s lower falls.1 in
    let top = choose_mono (suc s) n (suc (length lower)) falls.0 in
    omega (arith, rest, top, choose_step s (length lower))

same_tail : (x y : ℕ) (xs ys : List ℕ) → length (x ∷ xs) ≡ length (y ∷ ys) → length xs ≡ length ys
same_tail x y xs ys e = omega (arith, e)

-- a set with a greater head has a greater number
head_later : (x y : ℕ) (xs ys : List ℕ) → IsFallingBelow x xs → length xs ≡ length ys → x < y → set_number (x ∷ xs) < set_number (y ∷ ys)
head_later x y xs ys falls same lt =
    let below = number_below x xs falls in
    let top = choose_mono (suc x) y (suc (length xs)) lt in
    let e : choose y (suc (length xs)) ≡ choose y (suc (length ys)) = ap (λ k. choose y (suc k)) same in
    omega (arith, below, top, e, choose_step x (length xs))

pub later_front : (n : ℕ) (front : List ℕ) (x y : ℕ) (low high : List ℕ) → IsFallingBelow n (front ++ x ∷ low) → length (front ++ x ∷ low) ≡ length (front ++ y ∷ high) → x < y
    → set_number (front ++ x ∷ low) < set_number (front ++ y ∷ high)
later_front n [] x y low high falls same lt = head_later x y low high falls.1 (same_tail x y low high same) lt
later_front n (f ∷ front) x y low high falls same lt =
    let rest = later_front f front x y low high falls.1 (same_tail f f (front ++ x ∷ low) (front ++ y ∷ high) same) lt in
    let e : choose f (suc (length (front ++ x ∷ low))) ≡ choose f (suc (length (front ++ y ∷ high))) = ap (λ k. choose f k) same in
    omega (arith, rest, e)

pub later_is_greater : (n : ℕ) (xs ys : List ℕ) → IsFallingBelow n xs → IsFallingBelow n ys → length xs ≡ length ys → IsLater xs ys → set_number xs < set_number ys
later_is_greater n xs ys fx fy same (front, x, y, low, high, ex, ey, lt) =
    rw (ex, ey) (later_front n front x y low high (rw ex at fx) (sym (ap length ex) ∙ same ∙ ap length ey) lt)

pub number_one : (n : ℕ) (xs ys : List ℕ) → IsFallingBelow n xs → IsFallingBelow n ys → length xs ≡ length ys → set_number xs ≡ set_number ys → xs ≡ ys
number_one n [] [] fx fy same e = refl
number_one n [] (y ∷ ys) fx fy same e = absurd (omega (arith, same))
number_one n (x ∷ xs) [] fx fy same e = absurd (omega (arith, same))
number_one n (x ∷ xs) (y ∷ ys) fx fy same e =
    let tail = same_tail x y xs ys same in
    elim (cases_order x y) [
      | inl eq ↦
          let c : choose x (suc (length xs)) ≡ choose y (suc (length ys)) = ap (λ k. choose x (suc k)) tail ∙ ap (λ s. choose s (suc (length ys))) eq in
          let rest = number_one x xs ys fx.1 (rw (← eq) at fy.1) tail (omega (arith, e, c)) in
          rw (eq, rest) refl
      | inr (inl lt) ↦ absurd (omega (arith, e, head_later x y xs ys fx.1 tail lt))
      | inr (inr gt) ↦ absurd (omega (arith, e, head_later y x ys xs fy.1 (sym tail) gt))
    ]

-- the greatest square that is left, and the rest
pub number_drop : (xs : List ℕ) (i : ℕ) → i < length xs → set_number (drop i xs) ≡ choose (get_or xs i 0) (length xs - i) + set_number (drop (i + 1) xs)
number_drop xs i lt =
    let len : suc (length (drop (i + 1) xs)) ≡ length xs - i = omega (arith, length-drop (i + 1) xs) in
    ap set_number (drop_more xs i 0 lt) ∙ ap (λ k. choose (get_or xs i 0) k + set_number (drop (i + 1) xs)) len

pub number_end : (xs : List ℕ) (i : ℕ) → length xs ≤ i → set_number (drop i xs) ≡ 0
number_end xs i le = ap set_number (drop_all i xs le)

pub sets_are_numbered : SetsAreNumbered
sets_are_numbered = (number_below, later_is_greater, number_one)
