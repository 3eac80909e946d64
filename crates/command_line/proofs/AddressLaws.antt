-- A word that commas part, piece by piece.
use Rattle.std.proofs.Common.{◌≡◌, ◌<◌, ◌≤◌, ◌+◌, ◌-◌, ◌^◌, ℕ, suc, cond, Bool, true, false, not, List, [], ◌∷◌, ◌++◌, length, arith, refl, sym, ap, subst, ◌∙◌, append_assoc}
use Rattle.std.specs.Prelude.{◌==◌}
use Rattle.std.proofs.lemmas.List.{length-append, length-drop}
use Rattle.std.specs.List.{AllByRecursion, Contains, after_first, before_first, onto_first, position_or_len, slice_split}
use Rattle.std.proofs.lemmas.List.Splits.{length-slice_split, slice_split_first, slice_split-cons_no}
use Rattle.fen_text.specs.Cuts.{cut_at}
use Rattle.command_line.specs.Addresses.{IsAddress, addresses_of}
use Rattle.command_line.specs.Numbers.{IsDecimalNumber}
use Rattle.command_line.specs.Inside.Behind.{IsBehindColon}

-- the first comma is later than here
by_cond : (b : Bool) (n m : ℕ) → cond (not b) (1 + n) 0 ≡ suc m → b ≡ false → n ≡ m
by_cond true n m e is = absurd cc
by_cond false n m e is = omega (arith, e)

split_by : (p : ℕ → Bool) (x : ℕ) (xs : List ℕ) (b : Bool) → p x ≡ b → position_or_len p (x ∷ xs) ≡ length (x ∷ xs) → (position_or_len p xs ≡ length xs → slice_split p xs ≡ xs ∷ []) → slice_split p (x ∷ xs) ≡ (x ∷ xs) ∷ []
split_by p x xs true is e rest = absurd cc
split_by p x xs false is e rest = slice_split-cons_no p x xs is ∙ ap (onto_first x) (rest (by_cond (p x) (position_or_len p xs) (length xs) e is))

split_none : (p : ℕ → Bool) (xs : List ℕ) → position_or_len p xs ≡ length xs → slice_split p xs ≡ xs ∷ []
split_none p [] e = refl
split_none p (x ∷ xs) e = split_by p x xs (p x) refl e (split_none p xs)

-- the last piece
pub all_found : (mark : ℕ) (word rest : List ℕ) (found : List (List ℕ)) → cut_at mark word ≡ found ++ cut_at mark rest → position_or_len (λ b. b == mark) rest ≡ length rest → found ++ rest ∷ [] ≡ cut_at mark word
all_found mark word rest found e none = sym (e ∙ ap (λ l. found ++ l) (split_none (λ b. b == mark) rest none))

-- one more piece
pub one_found : (mark : ℕ) (word rest first more : List ℕ) (found : List (List ℕ)) → cut_at mark word ≡ found ++ cut_at mark rest → first ≡ before_first (λ b. b == mark) rest → more ≡ after_first (λ b. b == mark) rest → position_or_len (λ b. b == mark) rest < length rest → cut_at mark word ≡ (found ++ first ∷ []) ++ cut_at mark more
one_found mark word rest first more found e is_first is_more some =
    e ∙ ap (λ l. found ++ l) (slice_split_first (λ b. b == mark) rest 0 some ∙ ap (λ f. f ∷ cut_at mark (after_first (λ b. b == mark) rest)) (sym is_first) ∙ ap (λ m. first ∷ cut_at mark m) (sym is_more))
    ∙ sym (append_assoc found (first ∷ []) (cut_at mark more))

-- where there is a comma, there are two pieces and more
pub two_pieces : (word first more : List ℕ) → first ≡ before_first (λ b. b == 44) word → more ≡ after_first (λ b. b == 44) word → position_or_len (λ b. b == 44) word < length word → 1 < length (addresses_of word)
two_pieces word first more is_first is_more some =
    let all : length (addresses_of word) ≡ length (first ∷ cut_at 44 more) = ap length (one_found 44 word word first more [] refl is_first is_more some) in
    let rest = length-slice_split (λ b. b == 44) more in
    omega (arith, all, rest)

-- what comes after a comma is shorter
pub after_less : (p : ℕ → Bool) (xs : List ℕ) → position_or_len p xs < length xs → length (after_first p xs) < length xs
after_less p xs lt = let left = length-drop (position_or_len p xs + 1) xs in omega (arith, left, lt)

-- ---- what stands behind the last colon

last_same : {A : Type 0} (xs ys : List A) (x y : A) → xs ++ x ∷ [] ≡ ys ++ y ∷ [] → x ≡ y
last_same [] [] x y e = cc
last_same [] (z ∷ ys) x y e = let none : length (x ∷ []) ≡ length (z ∷ (ys ++ y ∷ [])) = ap length e in let more = length-append ys (y ∷ []) in absurd (omega (arith, none, more))
last_same (z ∷ xs) [] x y e = let none : length (z ∷ (xs ++ x ∷ [])) ≡ length (y ∷ []) = ap length e in let more = length-append xs (x ∷ []) in absurd (omega (arith, none, more))
last_same (z ∷ xs) (w ∷ ys) x y e = let rest : xs ++ x ∷ [] ≡ ys ++ y ∷ [] = cc in last_same xs ys x y rest

-- a text is cut so far
pub record CutTo (text rest : List ℕ) : Type 0 where
  pub front : List (List ℕ)
  pub parts : cut_at 58 text ≡ front ++ cut_at 58 rest

pub cut_more : (text rest more : List ℕ) → CutTo text rest → more ≡ after_first (λ b. b == 58) rest → position_or_len (λ b. b == 58) rest < length rest → CutTo text more
cut_more text rest more h is_more some = record { front = h.front ++ before_first (λ b. b == 58) rest ∷ []; parts = one_found 58 text rest (before_first (λ b. b == 58) rest) more h.front h.parts refl is_more some }

-- the port of an address is what stands there
same_port : (text rest : List ℕ) → IsBehindColon text rest → (a : IsAddress text) → a.port ≡ rest
same_port text rest h a = last_same a.front h.front a.port rest (sym a.parts ∙ h.parts)

pub address_so : (text rest : List ℕ) (n : ℕ) → (Contains text 32 → ⊥) → IsBehindColon text rest → 2 ≤ length text - length rest → IsDecimalNumber rest n → n < 2 ^ 16 → IsAddress text
address_so text rest n solid h more is within = record { solid = solid; front = h.front; port = rest; number = n; parts = h.parts; host = (let w = h.within in omega (arith, more, w)); is = is; within = within }

pub not_long : (text rest : List ℕ) → IsBehindColon text rest → length text - length rest < 2 → IsAddress text → ⊥
not_long text rest h short a = let host = a.host in let same : length a.port ≡ length rest = ap length (same_port text rest h a) in absurd (omega (arith, host, same, short))

pub no_port : (text rest : List ℕ) → IsBehindColon text rest → ((n : ℕ) → IsDecimalNumber rest n → n < 2 ^ 16 → ⊥) → IsAddress text → ⊥
no_port text rest h none a = none a.number (subst (λ p. IsDecimalNumber p a.number) (same_port text rest h a) a.is) a.within

-- ---- addresses one by one

all_append : {A : Type 0} (P : A → Type 0) (xs : List A) (x : A) → AllByRecursion P xs → P x → AllByRecursion P (xs ++ x ∷ [])
all_append P [] x h p = (p, tt)
all_append P (y ∷ xs) x h p = (h.0, all_append P xs x h.1 p)

all_behind : {A : Type 0} (P : A → Type 0) (xs ys : List A) → AllByRecursion P (xs ++ ys) → AllByRecursion P ys
all_behind P [] ys h = h
all_behind P (x ∷ xs) ys h = all_behind P xs ys h.1

-- these are done, and each is such a part
pub record DoneTo (P : List ℕ → Type 0) (word rest : List ℕ) : Type 0 where
  pub done : List (List ℕ)
  pub parts : addresses_of word ≡ done ++ addresses_of rest
  pub all : AllByRecursion P done

pub done_none : (P : List ℕ → Type 0) (word : List ℕ) → DoneTo P word word
done_none P word = record { done = []; parts = refl; all = tt }

pub done_more : (P : List ℕ → Type 0) (word rest first more : List ℕ) → DoneTo P word rest → first ≡ before_first (λ b. b == 44) rest → more ≡ after_first (λ b. b == 44) rest → position_or_len (λ b. b == 44) rest < length rest → P first → DoneTo P word more
done_more P word rest first more h is_first is_more some good =
    record { done = h.done ++ first ∷ []; parts = one_found 44 word rest first more h.done h.parts is_first is_more some; all = all_append P h.done first h.all good }

pub done_bad : (P : List ℕ → Type 0) (word rest first more : List ℕ) → DoneTo P word rest → first ≡ before_first (λ b. b == 44) rest → more ≡ after_first (λ b. b == 44) rest → position_or_len (λ b. b == 44) rest < length rest → (P first → ⊥) → AllByRecursion P (addresses_of word) → ⊥
done_bad P word rest first more h is_first is_more some bad all =
    let parts = h.parts ∙ ap (λ l. h.done ++ l) (one_found 44 rest rest first more [] refl is_first is_more some) in
    bad (all_behind P h.done (first ∷ addresses_of more) (subst (AllByRecursion P) parts all)).0

last_parts : (P : List ℕ → Type 0) (word rest : List ℕ) (h : DoneTo P word rest) → position_or_len (λ b. b == 44) rest ≡ length rest → addresses_of word ≡ h.done ++ rest ∷ []
last_parts P word rest h none = sym (all_found 44 word rest h.done h.parts none)

pub done_last : (P : List ℕ → Type 0) (word rest : List ℕ) → DoneTo P word rest → position_or_len (λ b. b == 44) rest ≡ length rest → P rest → AllByRecursion P (addresses_of word)
done_last P word rest h none good = subst (AllByRecursion P) (sym (last_parts P word rest h none)) (all_append P h.done rest h.all good)

pub done_not : (P : List ℕ → Type 0) (word rest : List ℕ) → DoneTo P word rest → position_or_len (λ b. b == 44) rest ≡ length rest → (P rest → ⊥) → AllByRecursion P (addresses_of word) → ⊥
done_not P word rest h none bad all = bad (all_behind P h.done (rest ∷ []) (subst (AllByRecursion P) (last_parts P word rest h none) all)).0

pub only_one : (word : List ℕ) → position_or_len (λ b. b == 44) word ≡ length word → addresses_of word ≡ word ∷ []
only_one word none = sym (all_found 44 word word [] refl none)
