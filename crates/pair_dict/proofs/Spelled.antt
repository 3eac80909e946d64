-- Reading gives what the bytes spell, and nothing else.
use Rattle.std.proofs.Common.{◌≡◌, ℕ, suc, ◌+◌, ◌-◌, ◌*◌, ◌≤◌, Bool, true, false, cond, leb, ltb, List, [], ◌∷◌, ◌++◌, length, take, drop, Result, Ok, Err, append_assoc, refl, sym, ap, ◌∙◌, arith}
use Rattle.std.specs.Prelude.{◌%◌, ◌&&◌}
use Rattle.std.proofs.lemmas.Bool.{le-leb, le-ltb, leb-true, ltb-false, and_parts}
use Rattle.std.proofs.lemmas.List.{length-append, length-drop, length-take-le, take-append-drop, drop_at}
use Rattle.std.proofs.Math.Seq.{take-append_seam, take-add}
use Rattle.pair_dict.specs.declared.fault.DictFault.{DictFault}
use Rattle.pair_dict.specs.declared.fault.DictFault.TheVariants.{Truncated, BadCode, BadSymbol}
use Rattle.pair_dict.specs.Symbols.{symbol_count, AllHaveValues, have_values}
use Rattle.pair_dict.specs.Codes.{Pairing}
use Rattle.pair_dict.specs.Reading.{◌>>=◌, words, falls, lengths_at, lowest_at, count_at, symbols_at, layout_at, with_values, dictionary_at}
use Rattle.pair_dict.specs.Beginnings.{SpellsDictionary, ReadsWhatIsSpelled}
use Rattle.pair_dict.proofs.WordLemmas.{length-words}
use Rattle.pair_dict.proofs.ValueCounts.{all_have, have_all}
use Rattle.pair_dict.proofs.Chain.{with_all_values}

abbrev done : {A : Type 0} → A → Result A DictFault
done x = Ok x

-- ---- what is spelled is read

then_ok : {A B : Type 0} (r : Result A DictFault) (f : A → Result B DictFault) (x : A) (y : Result B DictFault) → r ≡ done x → f x ≡ y → (r >>= f) ≡ y
then_ok r f x y e g = ap (λ s. s >>= f) e ∙ g

pub lengths_read : (g l : ℕ) (rest : List ℕ) → 1 ≤ l → l ≤ g → g ≤ 32 → lengths_at (g ∷ l ∷ rest) ≡ done ((g, l), rest)
unfolding lengths_at
lengths_read g l rest a b c = rw (le-leb 1 l a, le-leb l g b, le-leb g 32 c) refl

pub lowest_read : (n : ℕ) (lowest rest : List ℕ) → length lowest ≡ 2 * n → falls (words lowest) ≡ true → lowest_at n (lowest ++ rest) ≡ done (words lowest, rest)
unfolding lowest_at
lowest_read n lowest rest len falling =
    let long : 2 * n ≤ length (lowest ++ rest) = omega (arith, length-append lowest rest, len) in
    let front : take (2 * n) (lowest ++ rest) ≡ lowest = ap (λ (k : ℕ). take k (lowest ++ rest)) (sym len) ∙ take-append_seam lowest rest in
    let back : drop (2 * n) (lowest ++ rest) ≡ rest = drop_at lowest rest (2 * n) len in
    rw (le-ltb (length (lowest ++ rest)) (2 * n) long, front, back, falling) refl

pub count_read : (a b n : ℕ) (rest : List ℕ) → a + 256 * b ≡ n → 1 ≤ n → n ≤ 4095 → count_at (a ∷ b ∷ rest) ≡ done (n, rest)
unfolding count_at
count_read a b n rest e some few = rw (e, le-leb 1 n some, le-leb n 4095 few) refl

pub symbols_read : (n : ℕ) (symbols fill rest : List ℕ) → length symbols ≡ 3 * n → length fill ≡ n % 2 → symbols_at n (symbols ++ (fill ++ rest)) ≡ done symbols
unfolding symbols_at
symbols_read n symbols fill rest len filled =
    let long : 3 * n + n % 2 ≤ length (symbols ++ (fill ++ rest)) = omega (arith, length-append symbols (fill ++ rest), length-append fill rest, len, filled) in
    let front : take (3 * n) (symbols ++ (fill ++ rest)) ≡ symbols = ap (λ (k : ℕ). take k (symbols ++ (fill ++ rest))) (sym len) ∙ take-append_seam symbols (fill ++ rest) in
    rw (le-ltb (length (symbols ++ (fill ++ rest))) (3 * n + n % 2) long, front) refl

layout_read : (g l n lows : ℕ) (lowest symbols fill rest : List ℕ) (a b : ℕ) → 1 ≤ l → l ≤ g → g ≤ 32 → l + lows ≡ g + 1 → length lowest ≡ 2 * lows → falls (words lowest) ≡ true
    → a + 256 * b ≡ n → 1 ≤ n → n ≤ 4095 → length symbols ≡ 3 * n → length fill ≡ n % 2
    → layout_at (g ∷ l ∷ (lowest ++ (a ∷ b ∷ (symbols ++ (fill ++ rest))))) ≡ done (record { least = l; lowest = words lowest; symbols = symbols }, 4 + 2 * lows + 3 * n + n % 2)
unfolding layout_at
layout_read g l n lows lowest symbols fill rest a b h1 h2 h3 each len falling is some few whole filled =
    let lows-is : (g + 1) - l ≡ lows = omega arith in
    rw (← lows-is) (
    then_ok _ _ ((g, l), lowest ++ (a ∷ b ∷ (symbols ++ (fill ++ rest)))) _ (lengths_read g l _ h1 h2 h3)
    (then_ok _ _ (words lowest, a ∷ b ∷ (symbols ++ (fill ++ rest))) _ (lowest_read ((g + 1) - l) lowest _ (len ∙ ap (λ (k : ℕ). 2 * k) (sym lows-is)) falling)
    (then_ok _ _ (n, symbols ++ (fill ++ rest)) _ (count_read a b n _ is some few)
    (then_ok _ _ symbols _ (symbols_read n symbols fill rest whole filled) refl))))

spelled_is_read : (bytes : List ℕ) (d : Pairing) (taken : ℕ) → taken ≤ length bytes → SpellsDictionary (take taken bytes) d → dictionary_at bytes ≡ done (d, taken)
spelled_is_read bytes d taken within h =
    let n = symbol_count d.symbols in
    let lows = length d.lowest in
    let rest = drop taken bytes in
    let front = h.greatest ∷ d.least ∷ (h.lowest ++ (h.low ∷ h.high ∷ (d.symbols ++ h.fill))) in
    let len : length front ≡ taken = ap length (sym h.spelled) ∙ length-take-le taken bytes within in
    let inner : length (d.symbols ++ h.fill) ≡ 3 * n + n % 2 = length-append d.symbols h.fill ∙ omega (arith, h.whole, h.filled) in
    let outer = length-append h.lowest (h.low ∷ h.high ∷ (d.symbols ++ h.fill)) in
    let size : 4 + 2 * lows + 3 * n + n % 2 ≡ taken = omega (arith, len, inner, outer, h.lowest_whole) in
    let joined : front ++ rest ≡ h.greatest ∷ d.least ∷ (h.lowest ++ (h.low ∷ h.high ∷ (d.symbols ++ (h.fill ++ rest)))) =
    ap (λ (zs : List ℕ). h.greatest ∷ d.least ∷ zs) (append_assoc h.lowest (h.low ∷ h.high ∷ (d.symbols ++ h.fill)) rest
    ∙ ap (λ (zs : List ℕ). h.lowest ++ (h.low ∷ h.high ∷ zs)) (append_assoc d.symbols h.fill rest)) in
    let all : bytes ≡ h.greatest ∷ d.least ∷ (h.lowest ++ (h.low ∷ h.high ∷ (d.symbols ++ (h.fill ++ rest)))) =
    sym (take-append-drop taken bytes) ∙ ap (λ (zs : List ℕ). zs ++ rest) h.spelled ∙ joined in
    let read = layout_read h.greatest d.least n lows h.lowest d.symbols h.fill rest h.low h.high h.shortest h.in_order h.longest h.one_each h.lowest_whole (rw h.lowest_is h.falling) h.count h.some h.few h.whole h.filled in
    with_all_values bytes (d, taken) (rw all (rw (h.lowest_is, size) at read)) (have_all d.symbols h.values)

-- ---- what is read is spelled

is_ok : {A : Type 0} (x y : A) → done x ≡ done y → x ≡ y
is_ok x y e = cc

if_ok : {A : Type 0} (b : Bool) (r : Result A DictFault) (f : DictFault) (y : A) → cond b r (Err f) ≡ Ok y → (b ≡ true) × (r ≡ Ok y)
if_ok true r f y e = (refl, e)
if_ok false r f y e = absurd cc

else_ok : {A : Type 0} (b : Bool) (r : Result A DictFault) (f : DictFault) (y : A) → cond b (Err f) r ≡ Ok y → (b ≡ false) × (r ≡ Ok y)
else_ok true r f y e = absurd cc
else_ok false r f y e = (refl, e)

bind_ok : {A B : Type 0} (r : Result A DictFault) (f : A → Result B DictFault) (y : B) → (r >>= f) ≡ Ok y → (x : A) × (r ≡ Ok x) × (f x ≡ Ok y)
bind_ok (Ok x) f y e = (x, refl, e)
bind_ok (Err d) f y e = absurd cc

pub record AreLengths (bytes : List ℕ) (x : (ℕ × ℕ) × List ℕ) : Type 0 where
  pub front : bytes ≡ x.0.0 ∷ x.0.1 ∷ x.1
  pub shortest : 1 ≤ x.0.1
  pub in_order : x.0.1 ≤ x.0.0
  pub longest : x.0.0 ≤ 32

pub lengths_are : (bytes : List ℕ) (x : (ℕ × ℕ) × List ℕ) → lengths_at bytes ≡ Ok x → AreLengths bytes x
unfolding lengths_at
lengths_are [] x e = absurd cc
lengths_are (a ∷ []) x e = absurd cc
lengths_are (a ∷ b ∷ rest) x e =
    let h = if_ok (leb 1 b && (leb b a && leb a 32)) (Ok ((a, b), rest)) BadCode x e in
    let same = is_ok ((a, b), rest) x h.1 in
    let p = and_parts _ _ h.0 in
    let q = and_parts _ _ p.1 in
    rw (← same) (record { front = refl; shortest = leb-true 1 b p.0; in_order = leb-true b a q.0; longest = leb-true a 32 q.1 })

pub record AreLowest (n : ℕ) (bytes : List ℕ) (x : List ℕ × List ℕ) : Type 0 where
  pub lowest : words (take (2 * n) bytes) ≡ x.0
  pub rest : drop (2 * n) bytes ≡ x.1
  pub within : 2 * n ≤ length bytes
  pub falling : falls x.0 ≡ true

pub lowest_are : (n : ℕ) (bytes : List ℕ) (x : List ℕ × List ℕ) → lowest_at n bytes ≡ Ok x → AreLowest n bytes x
unfolding lowest_at
lowest_are n bytes x e =
    let front = words (take (2 * n) bytes) in
    let back = drop (2 * n) bytes in
    let g = else_ok (ltb (length bytes) (2 * n)) (cond (falls front) (Ok (front, back)) (Err BadCode)) Truncated x e in
    let h = if_ok (falls front) (Ok (front, back)) BadCode x g.1 in
    let same = is_ok (front, back) x h.1 in
    rw (← same) (record { lowest = refl; rest = refl; within = ltb-false _ _ g.0; falling = h.0 })

pub record IsCounted (bytes : List ℕ) (x : ℕ × List ℕ) : Type 0 where
  pub low : ℕ
  pub high : ℕ
  pub front : bytes ≡ low ∷ high ∷ x.1
  pub is : low + 256 * high ≡ x.0
  pub some : 1 ≤ x.0
  pub few : x.0 ≤ 4095

pub count_is : (bytes : List ℕ) (x : ℕ × List ℕ) → count_at bytes ≡ Ok x → IsCounted bytes x
unfolding count_at
count_is [] x e = absurd cc
count_is (a ∷ []) x e = absurd cc
count_is (a ∷ b ∷ rest) x e =
    let h = if_ok (leb 1 (a + 256 * b) && leb (a + 256 * b) 4095) (Ok (a + 256 * b, rest)) BadSymbol x e in
    let same = is_ok (a + 256 * b, rest) x h.1 in
    let p = and_parts _ _ h.0 in
    rw (← same) (record { low = a; high = b; front = refl; is = refl; some = leb-true _ _ p.0; few = leb-true _ _ p.1 })

pub record AreThere (n : ℕ) (bytes symbols : List ℕ) : Type 0 where
  pub front : take (3 * n) bytes ≡ symbols
  pub within : 3 * n + n % 2 ≤ length bytes

pub symbols_are : (n : ℕ) (bytes symbols : List ℕ) → symbols_at n bytes ≡ Ok symbols → AreThere n bytes symbols
unfolding symbols_at
symbols_are n bytes symbols e =
    let g = else_ok (ltb (length bytes) (3 * n + n % 2)) (Ok (take (3 * n) bytes)) Truncated symbols e in
    record { front = is_ok (take (3 * n) bytes) symbols g.1; within = ltb-false _ _ g.0 }

-- the front of the bytes that such parts take
parts_at : (bytes : List ℕ) (l : (ℕ × ℕ) × List ℕ) (n : ℕ) (w : List ℕ × List ℕ) (c : ℕ × List ℕ) (m : ℕ) (a b : ℕ)
    → bytes ≡ l.0.0 ∷ l.0.1 ∷ l.1 → drop n l.1 ≡ w.1 → w.1 ≡ a ∷ b ∷ c.1
    → take (suc (suc (n + suc (suc m)))) bytes ≡ l.0.0 ∷ l.0.1 ∷ (take n l.1 ++ (a ∷ b ∷ take m c.1))
parts_at bytes l n w c m a b front rest counted =
    rw front (ap (λ (zs : List ℕ). l.0.0 ∷ l.0.1 ∷ zs) (take-add n (suc (suc m)) l.1 ∙ ap (λ (zs : List ℕ). take n l.1 ++ take (suc (suc m)) zs) (rest ∙ counted)))

abbrev IsRead : List ℕ → Pairing × ℕ → Type 0
IsRead bytes x = (x.1 ≤ length bytes) × SpellsDictionary (take x.1 bytes) x.0

carried : (bytes : List ℕ) (x y : Pairing × ℕ) → x ≡ y → IsRead bytes x → IsRead bytes y
carried bytes x y e h = rw e at h

built : (bytes : List ℕ) (l : (ℕ × ℕ) × List ℕ) (w : List ℕ × List ℕ) (c : ℕ × List ℕ) (s : List ℕ) → AreLengths bytes l → AreLowest ((l.0.0 + 1) - l.0.1) l.1 w → IsCounted w.1 c → AreThere c.0 c.1 s → AllHaveValues s
    → IsRead bytes (record { least = l.0.1; lowest = w.0; symbols = s }, 4 + 2 * ((l.0.0 + 1) - l.0.1) + 3 * c.0 + c.0 % 2)
built bytes l w c s hl hw hc hs values =
    let n = (l.0.0 + 1) - l.0.1 in
    let m = 3 * c.0 + c.0 % 2 in
    let lowest = take (2 * n) l.1 in
    let fill = take (c.0 % 2) (drop (3 * c.0) c.1) in
    let size : 4 + 2 * n + 3 * c.0 + c.0 % 2 ≡ suc (suc (2 * n + suc (suc m))) = omega arith in
    let low-len : length lowest ≡ 2 * n = length-take-le (2 * n) l.1 hw.within in
    let lows : length w.0 ≡ n = ap length (sym hw.lowest) ∙ length-words lowest ∙ omega (arith, low-len) in
    let tail-len : length w.1 + 2 * n ≡ length l.1 = omega (arith, ap length hw.rest, length-drop (2 * n) l.1, hw.within) in
    let sym-len : length s ≡ 3 * c.0 = ap length (sym hs.front) ∙ length-take-le (3 * c.0) c.1 (omega (arith, hs.within)) in
    let counted : symbol_count s ≡ c.0 = omega (arith, sym-len) in
    let fill-len : length fill ≡ c.0 % 2 = length-take-le (c.0 % 2) (drop (3 * c.0) c.1) (omega (arith, length-drop (3 * c.0) c.1, hs.within)) in
    let symbols-front : take m c.1 ≡ s ++ fill = take-add (3 * c.0) (c.0 % 2) c.1 ∙ ap (λ (zs : List ℕ). zs ++ fill) hs.front in
    let front : take (suc (suc (2 * n + suc (suc m)))) bytes ≡ l.0.0 ∷ l.0.1 ∷ (lowest ++ (hc.low ∷ hc.high ∷ (s ++ fill))) =
    parts_at bytes l (2 * n) w c m hc.low hc.high hl.front hw.rest hc.front ∙ ap (λ (zs : List ℕ). l.0.0 ∷ l.0.1 ∷ (lowest ++ (hc.low ∷ hc.high ∷ zs))) symbols-front in (
      omega (arith, ap length hl.front, tail-len, ap length hc.front, hs.within),
      record {
        greatest = l.0.0;
        lowest = lowest;
        low = hc.low;
        high = hc.high;
        fill = fill;
        spelled = rw size front;
        shortest = hl.shortest;
        in_order = hl.in_order;
        longest = hl.longest;
        one_each = omega (arith, lows, hl.in_order);
        lowest_whole = omega (arith, low-len, lows);
        lowest_is = hw.lowest;
        falling = hw.falling;
        count = hc.is ∙ sym counted;
        some = omega (arith, counted, hc.some);
        few = omega (arith, counted, hc.few);
        whole = omega (arith, sym-len, counted);
        filled = fill-len ∙ ap (λ (k : ℕ). k % 2) (sym counted);
        values = values;
      },
    )

layout_is_spelled : (bytes : List ℕ) (x : Pairing × ℕ) → layout_at bytes ≡ Ok x → AllHaveValues x.0.symbols → IsRead bytes x
unfolding layout_at
layout_is_spelled bytes x e values =
    let made = λ (l : (ℕ × ℕ) × List ℕ) (c : ℕ × List ℕ) (w s : List ℕ). done (record { least = l.0.1; lowest = w; symbols = s }, 4 + 2 * ((l.0.0 + 1) - l.0.1) + 3 * c.0 + c.0 % 2) in
    let a = bind_ok (lengths_at bytes) (λ l. lowest_at ((l.0.0 + 1) - l.0.1) l.1 >>= λ w. count_at w.1 >>= λ c. symbols_at c.0 c.1 >>= λ s. made l c w.0 s) x e in
    let l = a.0 in
    let b = bind_ok (lowest_at ((l.0.0 + 1) - l.0.1) l.1) (λ w. count_at w.1 >>= λ c. symbols_at c.0 c.1 >>= λ s. made l c w.0 s) x a.2 in
    let w = b.0 in
    let d = bind_ok (count_at w.1) (λ c. symbols_at c.0 c.1 >>= λ s. made l c w.0 s) x b.2 in
    let c = d.0 in
    let f = bind_ok (symbols_at c.0 c.1) (λ s. made l c w.0 s) x d.2 in
    let whole : Pairing × ℕ = (record { least = l.0.1; lowest = w.0; symbols = f.0 }, 4 + 2 * ((l.0.0 + 1) - l.0.1) + 3 * c.0 + c.0 % 2) in
    let same = is_ok whole x f.2 in
    let symbols-are : f.0 ≡ x.0.symbols = ap (λ (y : Pairing × ℕ). y.0.symbols) same in
    carried bytes whole x same (built bytes l w c f.0 (lengths_are bytes l a.1) (lowest_are ((l.0.0 + 1) - l.0.1) l.1 w b.1) (count_is w.1 c d.1) (symbols_are c.0 c.1 f.0 f.1) (rw symbols-are values))

read_is_spelled : (bytes : List ℕ) (x : Pairing × ℕ) → dictionary_at bytes ≡ Ok x → IsRead bytes x
unfolding dictionary_at
read_is_spelled bytes x e =
    let a = bind_ok (layout_at bytes) (λ y. with_values y) x e in
    let h = if_ok (have_values a.0.0.symbols) (Ok a.0) BadSymbol x a.2 in
    carried bytes a.0 x (is_ok a.0 x h.1) (layout_is_spelled bytes a.0 a.1 (all_have a.0.0.symbols h.0))

pub reads_what_is_spelled : ReadsWhatIsSpelled
reads_what_is_spelled bytes d taken = (λ e. read_is_spelled bytes (d, taken) e, λ h. spelled_is_read bytes d taken h.0 h.1)
