-- The bytes of a plan's dictionary are read as what they say.
use Rattle.std.proofs.Common.{◌≡◌, ℕ, zero, suc, ◌-◌, ◌+◌, ◌*◌, ◌/◌, ◌≤◌, ◌<◌, true, false, List, [], ◌∷◌, ◌++◌, length, get_or, take, drop, replicate, Result, Ok, Err, refl, sym, ap, ◌∙◌, inl, inr, arith}
use Rattle.std.specs.Prelude.{◌%◌, nat_lt}
use Rattle.std.specs.Int.{w16, to_le_bytes}
use Rattle.std.proofs.lemmas.Bool.{cases_Bool, le-leb, le-ltb}
use Rattle.std.proofs.lemmas.List.{length-append, length-replicate}
use Rattle.pair_dict.specs.Codes.{Pairing}
use Rattle.pair_dict.specs.Symbols.{AllHaveValues, have_values}
use Rattle.pair_dict.specs.Reading.{◌>>=◌, words, falls, lengths_at, lowest_at, count_at, symbols_at, layout_at, dictionary_at}
use Rattle.pair_dict.specs.declared.fault.DictFault.{DictFault}
use Rattle.pair_dict.specs.declared.fault.DictFault.TheVariants.{BadSymbol}
use Rattle.pair_dict.proofs.Chain.{with_all_values, without_values}
use Rattle.pair_dict.proofs.ValueCounts.{all_have, have_all}
use Rattle.table_file.specs.declared.plan.PairsPlan.{PairsPlan}
use Rattle.table_file.specs.Plan.{symbol_bytes, AreGoodFigures}
use Rattle.table_file.specs.PlannedFile.{word_bytes, dictionary_bytes}

two : (w : ℕ) → to_le_bytes w16 w ≡ w % 256 ∷ w / 256 % 256 ∷ []
two w = refl

length-word_bytes : (ws : List ℕ) → length (word_bytes ws) ≡ 2 * length ws
unfolding word_bytes
length-word_bytes [] = refl
length-word_bytes (w ∷ ws) = let e = length-word_bytes ws in omega (arith, e)

words_back : (ws : List ℕ) → ((i : ℕ) → get_or ws i 0 < 65536) → words (word_bytes ws) ≡ ws
unfolding word_bytes
words_back [] small = refl
words_back (w ∷ ws) small =
    let e = words_back ws (λ i. small (suc i)) in
    let f : w % 256 + 256 * (w / 256 % 256) ≡ w = omega (arith, small 0) in
    rw (e, f) refl

take_front : (xs ys : List ℕ) (n : ℕ) → n ≡ length xs → take n (xs ++ ys) ≡ xs
take_front xs ys n e = rw e (front xs ys)
  where
    front : (xs ys : List ℕ) → take (length xs) (xs ++ ys) ≡ xs
    front [] [] = refl
    front [] (y ∷ ys) = refl
    front (x ∷ xs) ys = ap (λ zs. x ∷ zs) (front xs ys)

drop_front : (xs ys : List ℕ) (n : ℕ) → n ≡ length xs → drop n (xs ++ ys) ≡ ys
drop_front xs ys n e = rw e (rest xs ys)
  where
    rest : (xs ys : List ℕ) → drop (length xs) (xs ++ ys) ≡ ys
    rest [] [] = refl
    rest [] (y ∷ ys) = refl
    rest (x ∷ xs) ys = rest xs ys

lengths_is : (greatest least : ℕ) (rest : List ℕ) → 1 ≤ least → least ≤ greatest → greatest ≤ 32 → lengths_at (greatest ∷ least ∷ rest) ≡ Ok ((greatest, least), rest)
unfolding lengths_at
lengths_is greatest least rest some order few = rw (le-leb 1 least some, le-leb least greatest order, le-leb greatest 32 few) refl

lowest_is : (n : ℕ) (ws tail : List ℕ) → n ≡ length ws → ((i : ℕ) → get_or ws i 0 < 65536) → falls ws ≡ true → lowest_at n (word_bytes ws ++ tail) ≡ Ok (ws, tail)
unfolding lowest_at
lowest_is n ws tail long small falling =
    let e : 2 * n ≡ length (word_bytes ws) = omega (arith, long, length-word_bytes ws) in
    let enough : nat_lt (length (word_bytes ws ++ tail)) (2 * n) ≡ false = le-ltb _ _ (omega (arith, e, length-append (word_bytes ws) tail)) in
    rw (enough, take_front (word_bytes ws) tail (2 * n) e, drop_front (word_bytes ws) tail (2 * n) e, words_back ws small, falling) refl

count_is : (n : ℕ) (tail : List ℕ) → 1 ≤ n → n ≤ 4095 → count_at (to_le_bytes w16 n ++ tail) ≡ Ok (n, tail)
unfolding count_at
count_is n tail some few =
    let e : n % 256 + 256 * (n / 256 % 256) ≡ n = omega (arith, few) in
    rw (e, le-leb 1 n some, le-leb n 4095 few) refl

symbols_is : (n : ℕ) (symbols : List ℕ) → length symbols ≡ 3 * n → symbols_at n (symbols ++ replicate (n % 2) 0) ≡ Ok symbols
unfolding symbols_at
symbols_is n symbols long =
    let enough : nat_lt (length (symbols ++ replicate (n % 2) 0)) (3 * n + n % 2) ≡ false = le-ltb _ _ (omega (arith, long, length-append symbols (replicate (n % 2) 0), length-replicate (n % 2) (zero))) in
    rw (enough, take_front symbols (replicate (n % 2) 0) (3 * n) (sym long)) refl

abbrev done : {A : Type 0} → A → Result A DictFault
done x = Ok x

then_ok : {A B : Type 0} (r : Result A DictFault) (f : A → Result B DictFault) (x : A) (y : Result B DictFault) → r ≡ done x → f x ≡ y → (r >>= f) ≡ y
then_ok r f x y e g = ap (λ s. s >>= f) e ∙ g

laid_out : (g l n : ℕ) (ws symbols : List ℕ) → 1 ≤ l → l ≤ g → g ≤ 32 → (g + 1) - l ≡ length ws → ((i : ℕ) → get_or ws i 0 < 65536) → falls ws ≡ true → 1 ≤ n → n ≤ 4095 → length symbols ≡ 3 * n
    → layout_at (g ∷ l ∷ (word_bytes ws ++ (to_le_bytes w16 n ++ (symbols ++ replicate (n % 2) 0)))) ≡ done (record { least = l; lowest = ws; symbols = symbols }, 4 + 2 * ((g + 1) - l) + 3 * n + n % 2)
unfolding layout_at
laid_out g l n ws symbols h1 h2 h3 each small falling some few long =
    then_ok _ _ ((g, l), word_bytes ws ++ (to_le_bytes w16 n ++ (symbols ++ replicate (n % 2) 0))) _ (lengths_is g l _ h1 h2 h3)
    (then_ok _ _ (ws, to_le_bytes w16 n ++ (symbols ++ replicate (n % 2) 0)) _ (lowest_is ((g + 1) - l) ws _ each small falling)
    (then_ok _ _ (n, symbols ++ replicate (n % 2) 0) _ (count_is n _ some few)
    (then_ok _ _ symbols _ (symbols_is n symbols long) refl)))

abbrev failed : DictFault → Result (Pairing × ℕ) DictFault
failed e = Err e

-- what the bytes say before the symbols' values are looked at
pub layout_is : (q : PairsPlan) → AreGoodFigures q → ((i : ℕ) → get_or q.lowest.items i 0 < 65536) → length (symbol_bytes q) ≡ 3 * length q.symbols.items
    → (x : Pairing × ℕ) × (layout_at (dictionary_bytes q) ≡ Ok x) × (x.0.symbols ≡ symbol_bytes q)
unfolding dictionary_bytes
layout_is q h small long =
    let n = length q.symbols.items in
    let m : (q.greatest + 1) - q.least ≡ length q.lowest.items = omega (arith, h.one_each) in
    ((record { least = q.least; lowest = q.lowest.items; symbols = symbol_bytes q }, 4 + 2 * ((q.greatest + 1) - q.least) + 3 * n + n % 2), laid_out q.greatest q.least n q.lowest.items (symbol_bytes q) h.shortest h.in_order h.longest m small h.falling h.some h.few long, refl)

pub read_is_good : {X : Type 0} (view : X → Pairing × ℕ) (q : PairsPlan) (x : X) → AreGoodFigures q → ((i : ℕ) → get_or q.lowest.items i 0 < 65536) → length (symbol_bytes q) ≡ 3 * length q.symbols.items
    → dictionary_at (dictionary_bytes q) ≡ Ok (view x) → AllHaveValues (symbol_bytes q)
read_is_good view q x h small long read =
    let l = layout_is q h small long in
    elim (cases_Bool (have_values (symbol_bytes q))) [
      | inl have ↦ all_have (symbol_bytes q) have
      | inr none ↦ absurd (err_is_ok BadSymbol (view x) (sym (without_values (dictionary_bytes q) l.0 l.1 (rw l.2 none)) ∙ read))
    ]
  where
    err_is_ok : (e : DictFault) (y : Pairing × ℕ) → failed e ≡ done y → ⊥
    err_is_ok e y h = cc

pub good_is_read : (q : PairsPlan) (e : DictFault) → AreGoodFigures q → ((i : ℕ) → get_or q.lowest.items i 0 < 65536) → length (symbol_bytes q) ≡ 3 * length q.symbols.items
    → dictionary_at (dictionary_bytes q) ≡ Err e → AllHaveValues (symbol_bytes q) → ⊥
good_is_read q e h small long read have =
    let l = layout_is q h small long in
    let good : have_values l.0.0.symbols ≡ true = rw l.2 (have_all (symbol_bytes q) have) in
    absurd (ok_is_err l.0 e (sym (with_all_values (dictionary_bytes q) l.0 l.1 good) ∙ read))
  where
    ok_is_err : (y : Pairing × ℕ) (e : DictFault) → done y ≡ failed e → ⊥
    ok_is_err y e h = cc
