-- Bytes cut at the first place of one of them.
use Rattle.std.proofs.Common.{◌≡◌, ◌≢◌, ◌<◌, ◌+◌, ◌-◌, ◌++◌, ℕ, zero, suc, Bool, false, List, [], ◌∷◌, length, take, drop, get_or, Some, None, refl, sym, ap, ◌∙◌, arith, inl, inr, take-append-drop}
use Rattle.std.specs.Prelude.{◌==◌}
use Rattle.std.specs.List.{position, position_or_len}
use Rattle.std.proofs.lemmas.Bool.{cases_lt, lt-ltb, eqb-true, eq-eqb}
use Rattle.std.proofs.lemmas.List.{drop_more, length-drop}
use Rattle.std.proofs.Math.Seq.{take-length}
use Rattle.std.proofs.lemmas.List.Sums.{fails_before_first}
use Rattle.std.proofs.lemmas.List.Quantifiers.{position-Some}
use Rattle.move_msg.specs.Inside.Cut.{LacksByte}

other_byte : (a b : ℕ) → (a == b) ≡ false → a ≢ b
other_byte a b e same = let f = sym (eq-eqb a b same) ∙ e in cc

-- where no place before i has the byte, the first i bytes lack it
pub lacks_take : (byte : ℕ) (xs : List ℕ) (i : ℕ) → ((j : ℕ) → j < i → j < length xs → (get_or xs j 0 == byte) ≡ false) → LacksByte byte (take i xs)
lacks_take byte [] zero h = tt
lacks_take byte [] (suc i) h = tt
lacks_take byte (x ∷ xs) zero h = tt
lacks_take byte (x ∷ xs) (suc i) h = (other_byte x byte (h 0 (omega arith) (omega arith)), lacks_take byte xs i (λ j lt b. h (suc j) (omega arith) (omega arith)))

pub lacks_all : (byte : ℕ) (xs : List ℕ) → ((j : ℕ) → j < length xs → (get_or xs j 0 == byte) ≡ false) → LacksByte byte xs
lacks_all byte [] h = tt
lacks_all byte (x ∷ xs) h = (other_byte x byte (h 0 (omega arith)), lacks_all byte xs (λ j lt. h (suc j) (omega arith)))

pub not_there : (byte : ℕ) (xs : List ℕ) → position (λ b. b == byte) xs ≡ None → LacksByte byte xs
not_there byte xs e =
    let p : ℕ → Bool = λ b. b == byte in
    elim (cases_lt (position_or_len p xs) (length xs)) [
      | inl lt ↦ (let yes = lt-ltb _ _ lt in let bad : position p xs ≡ Some (position_or_len p xs) = rw yes refl in absurd cc)
      | inr le ↦ lacks_all byte xs (λ j lt. fails_before_first p xs j 0 (omega arith))
    ]

pub there : (byte : ℕ) (xs : List ℕ) (i : ℕ) → position (λ b. b == byte) xs ≡ Some i → (xs ≡ take i xs ++ byte ∷ drop (i + 1) xs) × LacksByte byte (take i xs)
there byte xs i e =
    let p : ℕ → Bool = λ b. b == byte in
    let h = position-Some p xs i 0 e in
    let at : get_or xs i 0 ≡ byte = eqb-true _ _ h.1 in (
      sym (take-append-drop i xs) ∙ ap (λ rest. take i xs ++ rest) (drop_more xs i 0 h.0 ∙ ap (λ x. x ∷ drop (i + 1) xs) at),
      lacks_take byte xs i (λ j lt b. h.2 j lt),
    )

-- a byte that isn't lacking
pub is_there : (byte : ℕ) (a b : List ℕ) → LacksByte byte (a ++ byte ∷ b) → ⊥
is_there byte [] b l = l.0 refl
is_there byte (x ∷ a) b l = is_there byte a b l.1

pub head_same : (x y : ℕ) (a b : List ℕ) → x ∷ a ≡ y ∷ b → x ≡ y
head_same x y a b e = cc

pub tail_same : (x y : ℕ) (a b : List ℕ) → x ∷ a ≡ y ∷ b → a ≡ b
tail_same x y a b e = cc

-- bytes are cut in one way
pub cut_one_way : (byte : ℕ) (a b c d : List ℕ) → LacksByte byte a → LacksByte byte c → a ++ byte ∷ b ≡ c ++ byte ∷ d → (a ≡ c) × (b ≡ d)
cut_one_way byte [] b [] d la lc e = (refl, tail_same _ _ _ _ e)
cut_one_way byte [] b (y ∷ c) d la lc e = absurd (lc.0 (sym (head_same _ _ _ _ e)))
cut_one_way byte (x ∷ a) b [] d la lc e = absurd (la.0 (head_same _ _ _ _ e))
cut_one_way byte (x ∷ a) b (y ∷ c) d la lc e =
    let rest = cut_one_way byte a b c d la.1 lc.1 (tail_same _ _ _ _ e) in
    let first = head_same _ _ _ _ e in
    ((λ i. first i ∷ rest.0 i), rest.1)

pub lacks_append : (byte : ℕ) (a b : List ℕ) → LacksByte byte a → LacksByte byte b → LacksByte byte (a ++ b)
lacks_append byte [] b la lb = lb
lacks_append byte (x ∷ a) b la lb = (la.0, lacks_append byte a b la.1 lb)

-- what is left after n bytes, taken as a range
pub rest_is : (n : ℕ) (xs : List ℕ) → take (length xs - n) (drop n xs) ≡ drop n xs
rest_is n xs = rw (← (length-drop n xs)) (take-length (drop n xs))
