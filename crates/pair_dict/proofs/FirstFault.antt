-- Reading tells the first fault.
use Rattle.std.proofs.Common.{◌≡◌, ℕ, ◌+◌, ◌-◌, ◌*◌, ◌<◌, ◌≤◌, ◌⊎◌, Bool, true, false, cond, leb, ltb, List, [], ◌∷◌, ◌++◌, length, take, drop, Result, Ok, Err, inl, inr, refl, sym, ap, subst, ◌∙◌, arith}
use Rattle.std.specs.Prelude.{◌%◌, ◌&&◌}
use Rattle.std.proofs.lemmas.Bool.{le-leb, lt-leb, lt-ltb, le-ltb, leb-true, leb-false, ltb-true, ltb-false, and_parts, and_cases, and_left, and_right, true≢false}
use Rattle.std.proofs.lemmas.List.{length-append, length-drop, length-take-le, take-append-drop}
use Rattle.std.proofs.Math.Seq.{take-append_seam}
use Rattle.pair_dict.specs.declared.fault.DictFault.{DictFault}
use Rattle.pair_dict.specs.declared.fault.DictFault.TheVariants.{Truncated, BadCode, BadSymbol}
use Rattle.pair_dict.specs.Symbols.{AllHaveValues, have_values}
use Rattle.pair_dict.specs.Codes.{Pairing}
use Rattle.pair_dict.specs.Reading.{◌>>=◌, words, falls, lengths_at, lowest_at, count_at, symbols_at, layout_at, with_values, dictionary_at}
use Rattle.pair_dict.specs.FirstFault.{AreLengths, HasLengths, lowest_size, HasLowest, HasCount, HasSymbols, IsFirstDictFault, FirstFaultIsTold}
use Rattle.pair_dict.specs.FirstFault.IsFirstDictFault.{no_lengths, bad_lengths, no_lowest, rising_lowest, no_count, bad_count, no_symbols, bad_symbols}
use Rattle.pair_dict.proofs.ValueCounts.{all_have, have_all}
use Rattle.pair_dict.proofs.Spelled.{lengths_read, lowest_read, count_read, lengths_are, lowest_are, count_is, symbols_are}

abbrev failed : {A : Type 0} → DictFault → Result A DictFault
failed e = Err e

-- what is told of bytes whose reading has this result
abbrev Told : {A : Type 0} → List ℕ → Result A DictFault → Type 0
Told bytes (Ok x) = Unit {0}
Told bytes (Err e) = IsFirstDictFault bytes e

then_told : {A B : Type 0} (bytes : List ℕ) (r : Result A DictFault) (f : A → Result B DictFault) → Told bytes r → ((x : A) → r ≡ Ok x → Told bytes (f x)) → Told bytes (r >>= f)
then_told bytes (Ok x) f told more = more x refl
then_told bytes (Err e) f told more = told

-- ---- what is told is first

module _ (whole : List ℕ) where
  lengths_told : Told whole (lengths_at whole)
  unfolding lengths_at
  lengths_told = by_bytes whole refl
    where
      by_test : (greatest least : ℕ) (rest : List ℕ) → whole ≡ greatest ∷ least ∷ rest → (b : Bool) → (leb 1 least && (leb least greatest && leb greatest 32)) ≡ b → Told {A = (ℕ × ℕ) × List ℕ} whole (cond b (Ok ((greatest, least), rest)) (failed BadCode))
      by_test greatest least rest e true t = tt
      by_test greatest least rest e false t = bad_lengths e (λ good. true≢false (sym (rw (le-leb 1 least good.shortest, le-leb least greatest good.in_order, le-leb greatest 32 good.longest) refl) ∙ t))

      by_bytes : (bytes : List ℕ) → whole ≡ bytes → Told whole (lengths_at bytes)
      by_bytes [] e = no_lengths (omega (arith, ap length e))
      by_bytes (a ∷ []) e = no_lengths (omega (arith, ap length e))
      by_bytes (a ∷ b ∷ rest) e = by_test a b rest e (leb 1 b && (leb b a && leb a 32)) refl

  module _ (greatest least : ℕ) (behind : List ℕ) (lengths : HasLengths whole greatest least behind) where
    lowest_told : Told whole (lowest_at ((greatest + 1) - least) behind)
    unfolding lowest_at
    lowest_told = by_size (ltb (length behind) (lowest_size greatest least)) refl
      where
        n : ℕ
        n = lowest_size greatest least

        by_order : n ≤ length behind → (b : Bool) → falls (words (take n behind)) ≡ b → Told {A = List ℕ × List ℕ} whole (cond b (Ok (words (take n behind), drop n behind)) (failed BadCode))
        by_order long true t = tt
        by_order long false t = rising_lowest (take n behind) (drop n behind) lengths (sym (take-append-drop n behind)) (length-take-le n behind long) t

        by_size : (b : Bool) → ltb (length behind) n ≡ b → Told {A = List ℕ × List ℕ} whole (cond b (failed Truncated) (cond (falls (words (take n behind))) (Ok (words (take n behind), drop n behind)) (Err BadCode)))
        by_size true t = no_lowest lengths (ltb-true (length behind) n t)
        by_size false t = by_order (ltb-false (length behind) n t) (falls (words (take n behind))) refl

  count_told : (behind : List ℕ) → HasLowest whole behind → Told whole (count_at behind)
  unfolding count_at
  count_told [] lowest = no_count lowest (omega arith)
  count_told (a ∷ []) lowest = no_count lowest (omega arith)
  count_told (a ∷ b ∷ rest) lowest = by_test (leb 1 (a + 256 * b) && leb (a + 256 * b) 4095) refl
    where
      out_of_range : (leb 1 (a + 256 * b) && leb (a + 256 * b) 4095) ≡ false → (a + 256 * b < 1) ⊎ (4095 < a + 256 * b)
      out_of_range t = elim (and_cases (leb 1 (a + 256 * b)) (leb (a + 256 * b) 4095) t) [
        | inl none ↦ inl (leb-false 1 (a + 256 * b) none)
        | inr many ↦ inr (leb-false (a + 256 * b) 4095 many)
      ]

      by_test : (c : Bool) → (leb 1 (a + 256 * b) && leb (a + 256 * b) 4095) ≡ c → Told {A = ℕ × List ℕ} whole (cond c (Ok (a + 256 * b, rest)) (failed BadSymbol))
      by_test true t = tt
      by_test false t = bad_count a b rest lowest refl (out_of_range t)

  symbols_told : (count : ℕ) (behind : List ℕ) → HasCount whole count behind → Told whole (symbols_at count behind)
  unfolding symbols_at
  symbols_told count behind counted = by_size (ltb (length behind) (3 * count + count % 2)) refl
    where
      by_size : (b : Bool) → ltb (length behind) (3 * count + count % 2) ≡ b → Told whole (cond b (failed Truncated) (Ok (take (3 * count) behind)))
      by_size true t = no_symbols counted (ltb-true (length behind) (3 * count + count % 2) t)
      by_size false t = tt

  -- ---- the parts that are there

  has_lengths : (x : (ℕ × ℕ) × List ℕ) → lengths_at whole ≡ Ok x → HasLengths whole x.0.0 x.0.1 x.1
  has_lengths x e =
      let h = lengths_are whole x e in
      record { front = h.front; good = record { shortest = h.shortest; in_order = h.in_order; longest = h.longest } }

  has_lowest : (greatest least : ℕ) (behind : List ℕ) → HasLengths whole greatest least behind → (x : List ℕ × List ℕ) → lowest_at ((greatest + 1) - least) behind ≡ Ok x → HasLowest whole x.1
  has_lowest greatest least behind lengths x e =
      let n = lowest_size greatest least in
      let h = lowest_are ((greatest + 1) - least) behind x e in
      record {
        greatest = greatest;
        least = least;
        behind = behind;
        lengths = lengths;
        lowest = take n behind;
        front = sym (take-append-drop n behind) ∙ ap (λ (zs : List ℕ). take n behind ++ zs) h.rest;
        whole = length-take-le n behind h.within;
        falling = ap falls h.lowest ∙ h.falling;
      }

  has_count : (behind : List ℕ) → HasLowest whole behind → (x : ℕ × List ℕ) → count_at behind ≡ Ok x → HasCount whole x.0 x.1
  has_count behind lowest x e =
      let h = count_is behind x e in
      record { behind = behind; lowest = lowest; low = h.low; high = h.high; front = h.front; is = h.is; some = h.some; few = h.few }

  has_symbols : (count : ℕ) (behind : List ℕ) → HasCount whole count behind → (symbols : List ℕ) → symbols_at count behind ≡ Ok symbols → HasSymbols whole symbols
  has_symbols count behind counted symbols e =
      let n = 3 * count in
      let h = symbols_are count behind symbols e in
      record {
        count = count;
        behind = behind;
        counted = counted;
        rest = drop n behind;
        front = sym (take-append-drop n behind) ∙ ap (λ (zs : List ℕ). zs ++ drop n behind) h.front;
        whole = ap length (sym h.front) ∙ length-take-le n behind (omega (arith, h.within));
        filled = omega (arith, length-drop n behind, h.within);
      }

  -- a layout tells a fault, or has symbols
  abbrev Laid : Result (Pairing × ℕ) DictFault → Type 0
  Laid (Ok x) = HasSymbols whole x.0.symbols
  Laid (Err e) = IsFirstDictFault whole e

  then_laid : {A : Type 0} (r : Result A DictFault) (f : A → Result (Pairing × ℕ) DictFault) → Told whole r → ((x : A) → r ≡ Ok x → Laid (f x)) → Laid (r >>= f)
  then_laid (Ok x) f told more = more x refl
  then_laid (Err e) f told more = told

  layout_told : Laid (layout_at whole)
  unfolding layout_at
  layout_told =
      then_laid (lengths_at whole) _ lengths_told (λ l el. (
      let lengths = has_lengths l el in
      then_laid (lowest_at ((l.0.0 + 1) - l.0.1) l.1) _ (lowest_told l.0.0 l.0.1 l.1 lengths) (λ w ew. (
      let lowest = has_lowest l.0.0 l.0.1 l.1 lengths w ew in
      then_laid (count_at w.1) _ (count_told w.1 lowest) (λ c ec. (
      let counted = has_count w.1 lowest c ec in
      then_laid (symbols_at c.0 c.1) _ (symbols_told c.0 c.1 counted) (λ s es. has_symbols c.0 c.1 counted s es)))))))

  values_told : (r : Result (Pairing × ℕ) DictFault) → Laid r → Told whole (r >>= λ x. with_values x)
  values_told (Err e) laid = laid
  values_told (Ok x) laid = by_test (have_values x.0.symbols) refl
    where
      by_test : (b : Bool) → have_values x.0.symbols ≡ b → Told whole (cond b (Ok x) (failed BadSymbol))
      by_test true t = tt
      by_test false t = bad_symbols laid (λ all. true≢false (sym (have_all x.0.symbols all) ∙ t))

  is_told : Told whole (dictionary_at whole)
  unfolding dictionary_at
  is_told = values_told (layout_at whole) layout_told

-- ---- what is first is told

then_is : {A B : Type 0} (r : Result A DictFault) (f : A → Result B DictFault) (x : A) → r ≡ Ok x → (r >>= f) ≡ f x
then_is r f x e = ap (λ s. s >>= f) e

then_fails : {A B : Type 0} (r : Result A DictFault) (f : A → Result B DictFault) (e : DictFault) → r ≡ failed e → (r >>= f) ≡ failed e
then_fails r f e h = ap (λ s. s >>= f) h

-- the rest of a layout, part by part
abbrev made : (l : (ℕ × ℕ) × List ℕ) (w : List ℕ × List ℕ) (c : ℕ × List ℕ) (s : List ℕ) → Result (Pairing × ℕ) DictFault
made l w c s = Ok (record { least = l.0.1; lowest = w.0; symbols = s }, 4 + 2 * ((l.0.0 + 1) - l.0.1) + 3 * c.0 + c.0 % 2)

abbrev from_count : (l : (ℕ × ℕ) × List ℕ) (w : List ℕ × List ℕ) (c : ℕ × List ℕ) → Result (Pairing × ℕ) DictFault
from_count l w c = symbols_at c.0 c.1 >>= λ s. made l w c s

abbrev from_lowest : (l : (ℕ × ℕ) × List ℕ) (w : List ℕ × List ℕ) → Result (Pairing × ℕ) DictFault
from_lowest l w = count_at w.1 >>= λ c. from_count l w c

abbrev from_lengths : (l : (ℕ × ℕ) × List ℕ) → Result (Pairing × ℕ) DictFault
from_lengths l = lowest_at ((l.0.0 + 1) - l.0.1) l.1 >>= λ w. from_lowest l w

module _ (whole : List ℕ) where
  starts : layout_at whole ≡ (lengths_at whole >>= λ l. from_lengths l)
  unfolding layout_at
  starts = refl

  after_lengths : (greatest least : ℕ) (rest : List ℕ) → HasLengths whole greatest least rest → layout_at whole ≡ from_lengths ((greatest, least), rest)
  after_lengths greatest least rest h =
      starts ∙ then_is (lengths_at whole) (λ l. from_lengths l) ((greatest, least), rest) (ap lengths_at h.front ∙ lengths_read greatest least rest h.good.shortest h.good.in_order h.good.longest)

  after_lowest : (rest : List ℕ) → (h : HasLowest whole rest) → layout_at whole ≡ from_lowest ((h.greatest, h.least), h.behind) (words h.lowest, rest)
  after_lowest rest h =
      after_lengths h.greatest h.least h.behind h.lengths
      ∙ then_is (lowest_at ((h.greatest + 1) - h.least) h.behind) (λ w. from_lowest ((h.greatest, h.least), h.behind) w) (words h.lowest, rest) (ap (λ (zs : List ℕ). lowest_at ((h.greatest + 1) - h.least) zs) h.front ∙ lowest_read ((h.greatest + 1) - h.least) h.lowest rest h.whole h.falling)

  after_count : (count : ℕ) (rest : List ℕ) → (h : HasCount whole count rest) → layout_at whole ≡ from_count ((h.lowest.greatest, h.lowest.least), h.lowest.behind) (words h.lowest.lowest, h.behind) (count, rest)
  after_count count rest h =
      after_lowest h.behind h.lowest
      ∙ then_is (count_at h.behind) (λ c. from_count ((h.lowest.greatest, h.lowest.least), h.lowest.behind) (words h.lowest.lowest, h.behind) c) (count, rest) (ap count_at h.front ∙ count_read h.low h.high count rest h.is h.some h.few)

  dictionary_fails : (e : DictFault) → layout_at whole ≡ failed e → dictionary_at whole ≡ failed e
  unfolding dictionary_at
  dictionary_fails e h = then_fails (layout_at whole) (λ x. with_values x) e h

  short_lengths : (bytes : List ℕ) → length bytes < 2 → lengths_at bytes ≡ failed Truncated
  unfolding lengths_at
  short_lengths [] lt = refl
  short_lengths (a ∷ []) lt = refl
  short_lengths (a ∷ b ∷ rest) lt = absurd (omega (arith, lt))

  bad_lengths_fail : (greatest least : ℕ) (rest : List ℕ) → (AreLengths greatest least → ⊥) → lengths_at (greatest ∷ least ∷ rest) ≡ failed BadCode
  unfolding lengths_at
  bad_lengths_fail greatest least rest bad = by_test (leb 1 least && (leb least greatest && leb greatest 32)) refl
    where
      by_test : (b : Bool) → (leb 1 least && (leb least greatest && leb greatest 32)) ≡ b → cond {A = Result ((ℕ × ℕ) × List ℕ) DictFault} b (Ok ((greatest, least), rest)) (failed BadCode) ≡ failed BadCode
      by_test true t =
          let p = and_parts _ _ t in
          let q = and_parts _ _ p.1 in
          absurd (bad (record { shortest = leb-true 1 least p.0; in_order = leb-true least greatest q.0; longest = leb-true greatest 32 q.1 }))
      by_test false t = refl

  short_lowest : (n : ℕ) (behind : List ℕ) → length behind < 2 * n → lowest_at n behind ≡ failed Truncated
  unfolding lowest_at
  short_lowest n behind lt = rw (lt-ltb (length behind) (2 * n) lt) refl

  rising_fails : (n : ℕ) (lowest rest : List ℕ) → length lowest ≡ 2 * n → falls (words lowest) ≡ false → lowest_at n (lowest ++ rest) ≡ failed BadCode
  unfolding lowest_at
  rising_fails n lowest rest len rising =
      let long : 2 * n ≤ length (lowest ++ rest) = omega (arith, length-append lowest rest, len) in
      let front : take (2 * n) (lowest ++ rest) ≡ lowest = ap (λ (k : ℕ). take k (lowest ++ rest)) (sym len) ∙ take-append_seam lowest rest in
      rw (le-ltb (length (lowest ++ rest)) (2 * n) long, front, rising) refl

  short_count : (behind : List ℕ) → length behind < 2 → count_at behind ≡ failed Truncated
  unfolding count_at
  short_count [] lt = refl
  short_count (a ∷ []) lt = refl
  short_count (a ∷ b ∷ rest) lt = absurd (omega (arith, lt))

  bad_count_fails : (low high : ℕ) (rest : List ℕ) → (low + 256 * high < 1) ⊎ (4095 < low + 256 * high) → count_at (low ∷ high ∷ rest) ≡ failed BadSymbol
  unfolding count_at
  bad_count_fails low high rest out = elim out [
    | inl none ↦ (let t = and_left (leb 1 (low + 256 * high)) (leb (low + 256 * high) 4095) (lt-leb 1 (low + 256 * high) none) in rw t refl)
    | inr many ↦ (let t = and_right (leb 1 (low + 256 * high)) (leb (low + 256 * high) 4095) (lt-leb (low + 256 * high) 4095 many) in rw t refl)
  ]

  short_symbols : (count : ℕ) (behind : List ℕ) → length behind < 3 * count + count % 2 → symbols_at count behind ≡ failed Truncated
  unfolding symbols_at
  short_symbols count behind lt = rw (lt-ltb (length behind) (3 * count + count % 2) lt) refl

  symbols_there : (count : ℕ) (symbols rest : List ℕ) → length symbols ≡ 3 * count → count % 2 ≤ length rest → symbols_at count (symbols ++ rest) ≡ Ok symbols
  unfolding symbols_at
  symbols_there count symbols rest len filled =
      let long : 3 * count + count % 2 ≤ length (symbols ++ rest) = omega (arith, length-append symbols rest, len, filled) in
      let front : take (3 * count) (symbols ++ rest) ≡ symbols = ap (λ (k : ℕ). take k (symbols ++ rest)) (sym len) ∙ take-append_seam symbols rest in
      rw (le-ltb (length (symbols ++ rest)) (3 * count + count % 2) long, front) refl

  no_values : (r : Result (Pairing × ℕ) DictFault) (x : Pairing × ℕ) → r ≡ Ok x → (AllHaveValues x.0.symbols → ⊥) → (r >>= λ y. with_values y) ≡ failed BadSymbol
  no_values r x e none = ap (λ s. s >>= λ y. with_values y) e ∙ by_test (have_values x.0.symbols) refl
    where
      by_test : (b : Bool) → have_values x.0.symbols ≡ b → cond b (Ok x) (failed BadSymbol) ≡ failed BadSymbol
      by_test true t = absurd (none (all_have x.0.symbols t))
      by_test false t = refl

  symbols_fail : (symbols : List ℕ) → HasSymbols whole symbols → (AllHaveValues symbols → ⊥) → dictionary_at whole ≡ failed BadSymbol
  unfolding dictionary_at
  symbols_fail symbols h none =
      let c = h.counted in
      let l : (ℕ × ℕ) × List ℕ = ((c.lowest.greatest, c.lowest.least), c.lowest.behind) in
      let w : List ℕ × List ℕ = (words c.lowest.lowest, c.behind) in
      let there = ap (λ (zs : List ℕ). symbols_at h.count zs) h.front ∙ symbols_there h.count symbols h.rest h.whole h.filled in
      let read = after_count h.count h.behind c ∙ then_is (symbols_at h.count h.behind) (λ s. made l w (h.count, h.behind) s) symbols there in
      no_values (layout_at whole) (record { least = l.0.1; lowest = w.0; symbols = symbols }, 4 + 2 * ((l.0.0 + 1) - l.0.1) + 3 * h.count + h.count % 2) read none

  first_is_told : (fault : DictFault) → IsFirstDictFault whole fault → dictionary_at whole ≡ Err fault
  first_is_told fault (no_lengths lt) = dictionary_fails Truncated (starts ∙ then_fails (lengths_at whole) (λ l. from_lengths l) Truncated (short_lengths whole lt))
  first_is_told fault (bad_lengths {greatest = greatest} {least = least} {rest = rest} e bad) = dictionary_fails BadCode (starts ∙ then_fails (lengths_at whole) (λ l. from_lengths l) BadCode (ap lengths_at e ∙ bad_lengths_fail greatest least rest bad))
  first_is_told fault (no_lowest {greatest = greatest} {least = least} {rest = rest} lengths lt) =
      dictionary_fails Truncated (after_lengths greatest least rest lengths ∙ then_fails (lowest_at ((greatest + 1) - least) rest) (λ w. from_lowest ((greatest, least), rest) w) Truncated (short_lowest ((greatest + 1) - least) rest lt))
  first_is_told fault (rising_lowest {greatest = greatest} {least = least} {behind = behind} lowest rest lengths front len rising) =
      dictionary_fails BadCode (after_lengths greatest least behind lengths ∙ then_fails (lowest_at ((greatest + 1) - least) behind) (λ w. from_lowest ((greatest, least), behind) w) BadCode (ap (λ (zs : List ℕ). lowest_at ((greatest + 1) - least) zs) front ∙ rising_fails ((greatest + 1) - least) lowest rest len rising))
  first_is_told fault (no_count {rest = rest} h lt) =
      dictionary_fails Truncated (after_lowest rest h ∙ then_fails (count_at rest) (λ c. from_count ((h.greatest, h.least), h.behind) (words h.lowest, rest) c) Truncated (short_count rest lt))
  first_is_told fault (bad_count {behind = behind} low high rest h front out) =
      dictionary_fails BadSymbol (after_lowest behind h ∙ then_fails (count_at behind) (λ c. from_count ((h.greatest, h.least), h.behind) (words h.lowest, behind) c) BadSymbol (ap count_at front ∙ bad_count_fails low high rest out))
  first_is_told fault (no_symbols {count = count} {rest = rest} h lt) =
      dictionary_fails Truncated (after_count count rest h ∙ then_fails (symbols_at count rest) (λ s. made ((h.lowest.greatest, h.lowest.least), h.lowest.behind) (words h.lowest.lowest, h.behind) (count, rest) s) Truncated (short_symbols count rest lt))
  first_is_told fault (bad_symbols {symbols = symbols} h none) = symbols_fail symbols h none

pub first_fault_is_told : FirstFaultIsTold
first_fault_is_told bytes fault = (λ e. subst (Told {A = Pairing × ℕ} bytes) e (is_told bytes), λ h. first_is_told bytes fault h)
