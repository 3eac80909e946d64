-- The groups' numbers times their factors, summed one after another.
use Rattle.std.proofs.Common.{◌≡◌, ℕ, zero, suc, ◌+◌, ◌*◌, ◌<◌, ◌≤◌, List, [], ◌∷◌, ◌++◌, length, take, get_or, slice_index, refl, sym, ap, ◌∙◌, arith}
use Rattle.std.proofs.lemmas.List.{take_more, take_all}
use Rattle.place_index.specs.Index.{sum_of_products}

products_append : (xs : List ℕ) (x : ℕ) (ys : List ℕ) → sum_of_products (xs ++ x ∷ []) ys ≡ sum_of_products xs ys + x * get_or ys (length xs) 0
unfolding sum_of_products
products_append [] x [] = omega arith
products_append [] x (y ∷ ys) = omega arith
products_append (z ∷ xs) x [] = omega arith
products_append (z ∷ xs) x (y ∷ ys) = omega (arith, products_append xs x ys)

products_grow : (n : ℕ) (xs zs : List ℕ) → sum_of_products (take n xs) zs ≤ sum_of_products xs zs
unfolding sum_of_products
products_grow zero xs zs = omega arith
products_grow (suc n) [] zs = omega arith
products_grow (suc n) (x ∷ xs) [] = omega arith
products_grow (suc n) (x ∷ xs) (z ∷ zs) = omega (arith, products_grow n xs zs)

front_length : (n : ℕ) (xs : List ℕ) → n < length xs → length (take n xs) ≡ n
front_length zero xs lt = refl
front_length (suc n) [] lt = absurd (omega (arith, lt))
front_length (suc n) (x ∷ xs) lt = ap suc (front_length n xs (omega (arith, lt)))

summed_none : (xs ys : List ℕ) → 0 ≡ sum_of_products (take 0 xs) ys
unfolding sum_of_products
summed_none xs ys = refl

-- one number more
pub summed_next : (xs ys : List ℕ) (i number sum : ℕ) → i < length xs → sum ≡ sum_of_products (take i xs) ys → number ≡ slice_index xs i → sum + number * get_or ys i 0 ≡ sum_of_products (take (i + 1) xs) ys
summed_next xs ys i number sum lt s n =
    sym (ap (λ l. sum_of_products l ys) (take_more xs i 0 lt) ∙ products_append (take i xs) (get_or xs i 0) ys
    ∙ ap (λ k. sum_of_products (take i xs) ys + get_or xs i 0 * get_or ys k 0) (front_length i xs lt) ∙ ap (λ k. k + get_or xs i 0 * get_or ys i 0) (sym s)
    ∙ ap (λ k. sum + k * get_or ys i 0) (sym n))

pub summed_first : (xs ys : List ℕ) (number : ℕ) → 0 < length xs → number ≡ slice_index xs 0 → number * get_or ys 0 0 ≡ sum_of_products (take 1 xs) ys
summed_first xs ys number lt n = omega (arith, summed_next xs ys 0 number 0 lt (summed_none xs ys) n)

-- so far no more than in all
pub summed_within : (xs ys : List ℕ) (i number sum : ℕ) → i < length xs → sum ≡ sum_of_products (take i xs) ys → number ≡ slice_index xs i → sum + number * get_or ys i 0 ≤ sum_of_products xs ys
summed_within xs ys i number sum lt s n = omega (arith, summed_next xs ys i number sum lt s n, products_grow (i + 1) xs ys)

pub summed_all : (xs ys : List ℕ) (i : ℕ) → length xs ≤ i → sum_of_products (take i xs) ys ≡ sum_of_products xs ys
summed_all xs ys i le = ap (λ l. sum_of_products l ys) (take_all i xs le)

pub first_within : (xs ys : List ℕ) (number : ℕ) → 0 < length xs → number ≡ slice_index xs 0 → number * get_or ys 0 0 ≤ sum_of_products xs ys
first_within xs ys number lt n = omega (arith, summed_first xs ys number lt n, products_grow 1 xs ys)
