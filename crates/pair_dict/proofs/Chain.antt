-- A layout that is read, and then the values of its symbols.
use Rattle.std.proofs.Common.{◌≡◌, ◌≢◌, ℕ, Bool, true, false, cond, List, [], ◌∷◌, length, Result, Ok, Err, refl, ap, ◌∙◌}
use Rattle.std.specs.Prelude.{◌*◌, ◌+◌, ◌%◌, ◌-◌, ◌&&◌, nat_le, nat_lt, take, drop}
use Rattle.pair_dict.specs.declared.fault.DictFault.{DictFault}
use Rattle.pair_dict.specs.declared.fault.DictFault.TheVariants.{Truncated, BadCode, BadSymbol, OutOfMemory}
use Rattle.pair_dict.specs.Symbols.{have_values}
use Rattle.pair_dict.specs.Codes.{Pairing}
use Rattle.pair_dict.specs.Reading.{◌>>=◌, words, falls, lengths_at, lowest_at, count_at, symbols_at, layout_at, with_values, dictionary_at, FailsInDict}

then_values : (bytes : List ℕ) (r : Result (Pairing × ℕ) DictFault) → layout_at bytes ≡ r → dictionary_at bytes ≡ (r >>= λ x. with_values x)
unfolding dictionary_at
then_values bytes r e = ap (λ (s : Result (Pairing × ℕ) DictFault). s >>= λ x. with_values x) e

pub layout_fails : (bytes : List ℕ) (e : DictFault) → layout_at bytes ≡ Err e → FailsInDict e (dictionary_at bytes)
layout_fails bytes Truncated h = then_values bytes (Err Truncated) h
layout_fails bytes BadCode h = then_values bytes (Err BadCode) h
layout_fails bytes BadSymbol h = then_values bytes (Err BadSymbol) h
layout_fails bytes OutOfMemory h = tt

pub without_values : (bytes : List ℕ) (x : Pairing × ℕ) → layout_at bytes ≡ Ok x → have_values x.0.symbols ≡ false → dictionary_at bytes ≡ Err BadSymbol
without_values bytes x e none = then_values bytes (Ok x) e ∙ rw none refl

pub with_all_values : (bytes : List ℕ) (x : Pairing × ℕ) → layout_at bytes ≡ Ok x → have_values x.0.symbols ≡ true → dictionary_at bytes ≡ Ok x
with_all_values bytes x e all = then_values bytes (Ok x) e ∙ rw all refl

-- ---- reading a layout never wants memory

abbrev TakesNoMemory : {A : Type 0} → Result A DictFault → Type 0
TakesNoMemory (Ok x) = Unit {0}
TakesNoMemory (Err Truncated) = Unit {0}
TakesNoMemory (Err BadCode) = Unit {0}
TakesNoMemory (Err BadSymbol) = Unit {0}
TakesNoMemory (Err OutOfMemory) = ⊥

then_none : {A B : Type 0} (r : Result A DictFault) (f : A → Result B DictFault) → TakesNoMemory r → ((x : A) → TakesNoMemory (f x)) → TakesNoMemory (r >>= f)
then_none (Ok x) f none more = more x
then_none (Err Truncated) f none more = tt
then_none (Err BadCode) f none more = tt
then_none (Err BadSymbol) f none more = tt
then_none (Err OutOfMemory) f none more = none

either_none : {A : Type 0} (b : Bool) (r s : Result A DictFault) → TakesNoMemory r → TakesNoMemory s → TakesNoMemory (cond b r s)
either_none true r s one two = one
either_none false r s one two = two

lengths_none : (bytes : List ℕ) → TakesNoMemory (lengths_at bytes)
unfolding lengths_at
lengths_none [] = tt
lengths_none (a ∷ []) = tt
lengths_none (a ∷ b ∷ rest) = either_none (nat_le 1 b && (nat_le b a && nat_le a 32)) (Ok ((a, b), rest)) (Err BadCode) tt tt

lowest_none : (n : ℕ) (bytes : List ℕ) → TakesNoMemory (lowest_at n bytes)
unfolding lowest_at
lowest_none n bytes =
    let there : Result (List ℕ × List ℕ) DictFault = cond (falls (words (take (2 * n) bytes))) (Ok (words (take (2 * n) bytes), drop (2 * n) bytes)) (Err BadCode) in
    either_none (nat_lt (length bytes) (2 * n)) (Err Truncated) there tt
    (either_none (falls (words (take (2 * n) bytes))) (Ok (words (take (2 * n) bytes), drop (2 * n) bytes)) (Err BadCode) tt tt)

count_none : (bytes : List ℕ) → TakesNoMemory (count_at bytes)
unfolding count_at
count_none [] = tt
count_none (a ∷ []) = tt
count_none (a ∷ b ∷ rest) = either_none (nat_le 1 (a + 256 * b) && nat_le (a + 256 * b) 4095) (Ok (a + 256 * b, rest)) (Err BadSymbol) tt tt

symbols_none : (n : ℕ) (bytes : List ℕ) → TakesNoMemory (symbols_at n bytes)
unfolding symbols_at
symbols_none n bytes = either_none (nat_lt (length bytes) (3 * n + n % 2)) (Err Truncated) (Ok (take (3 * n) bytes)) tt tt

layout_none : (bytes : List ℕ) → TakesNoMemory (layout_at bytes)
unfolding layout_at
layout_none bytes =
    then_none (lengths_at bytes) _ (lengths_none bytes) (λ l.
    then_none (lowest_at ((l.0.0 + 1) - l.0.1) l.1) _ (lowest_none ((l.0.0 + 1) - l.0.1) l.1) (λ w.
    then_none (count_at w.1) _ (count_none w.1) (λ c.
    then_none (symbols_at c.0 c.1) _ (symbols_none c.0 c.1) (λ s. tt))))

pub layout_wants_none : (bytes : List ℕ) (e : DictFault) → layout_at bytes ≡ Err e → e ≢ OutOfMemory
layout_wants_none bytes e is memory =
    let none : layout_at bytes ≡ Err OutOfMemory = rw (← memory) is in
    rw none at (layout_none bytes)
