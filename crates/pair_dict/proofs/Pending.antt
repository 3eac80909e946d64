-- Symbols that wait while the values of another are appended.
use Rattle.std.proofs.Common.{◌≡◌, ℕ, suc, ◌+◌, ◌-◌, ◌<◌, ◌≤◌, List, [], ◌∷◌, ◌++◌, length, get_or, take, set, append_assoc, refl, sym, ap, ◌∙◌, inl, inr, arith}
use Rattle.std.proofs.lemmas.List.{append-nil, length-append, take-append-le, take_all, take_more, take_more_set, length-take-le, get_or-take, get_or-set_same, get_or-set_other}
use Rattle.std.proofs.lemmas.Bool.{cases_eq}
use Rattle.pair_dict.specs.Symbols.{symbol_count, values_of}
use Rattle.pair_dict.specs.Inside.Counts.{AreCounts}
use Rattle.pair_dict.proofs.SymbolValues.{IsJoined, length-values_of}

-- the values of symbols that wait, the last first
pub after : List ℕ → List ℕ → List ℕ
after symbols [] = []
after symbols (s ∷ waiting) = after symbols waiting ++ values_of symbols s

pub after-push : (symbols waiting : List ℕ) (s : ℕ) → after symbols (waiting ++ s ∷ []) ≡ values_of symbols s ++ after symbols waiting
unfolding after
after-push symbols [] s = sym (append-nil (values_of symbols s))
after-push symbols (t ∷ waiting) s =
    ap (λ (zs : List ℕ). zs ++ values_of symbols t) (after-push symbols waiting s) ∙ append_assoc (values_of symbols s) (after symbols waiting) (values_of symbols t)

after_none : (symbols : List ℕ) → after symbols [] ≡ []
unfolding after
after_none symbols = refl

module _ (symbols counts : List ℕ) (h : AreCounts symbols counts) where
  some_value : (s : ℕ) → s < symbol_count symbols → 1 ≤ length (values_of symbols s)
  some_value s lt = omega (arith, length-values_of symbols counts h s lt, h.some s lt)

  -- each symbol that waits has a value at least
  length-after : (waiting : List ℕ) → ((k : ℕ) → k < length waiting → get_or waiting k 0 < symbol_count symbols) → length waiting ≤ length (after symbols waiting)
  unfolding after
  length-after [] known = omega arith
  length-after (s ∷ waiting) known =
      omega (arith, length-append (after symbols waiting) (values_of symbols s), some_value s (known 0 (omega arith)), length-after waiting (λ k lt. known (suc k) (omega arith)))

-- The values so far, those of a symbol, and those of the symbols that wait are the whole, up to a limit.
pub record IsPending (symbols : List ℕ) (limit : ℕ) (values whole : List ℕ) (symbol top : ℕ) (waiting : List ℕ) : Type 0 where
  pub known : symbol < symbol_count symbols
  pub places : top ≤ length waiting
  pub waits : (k : ℕ) → k < top → get_or waiting k 0 < symbol_count symbols
  pub few : length (values_of symbols symbol ++ after symbols (take top waiting)) ≤ 256
  pub short : length values ≤ limit
  pub is : take limit (values ++ (values_of symbols symbol ++ after symbols (take top waiting))) ≡ take limit whole

pub pending_first : (symbols counts : List ℕ) (h : AreCounts symbols counts) (limit : ℕ) (values : List ℕ) (s : ℕ) (waiting : List ℕ) → s < symbol_count symbols → length values ≤ limit
    → IsPending symbols limit values (values ++ values_of symbols s) s 0 waiting
pending_first symbols counts h limit values s waiting lt short =
    let none : values_of symbols s ++ after symbols (take 0 waiting) ≡ values_of symbols s = ap (λ (zs : List ℕ). values_of symbols s ++ zs) (after_none symbols) ∙ append-nil (values_of symbols s) in
    record {
      known = lt;
      places = omega arith;
      waits = λ k k-lt. absurd (omega arith);
      few = omega (arith, ap length none, length-values_of symbols counts h s lt, h.few s lt);
      short = short;
      is = rw none refl;
    }

pub pending_top : (symbols counts : List ℕ) (h : AreCounts symbols counts) (limit : ℕ) (values whole : List ℕ) (s top : ℕ) (waiting : List ℕ) → IsPending symbols limit values whole s top waiting
    → top + 1 ≤ length (values_of symbols s ++ after symbols (take top waiting))
pending_top symbols counts h limit values whole s top waiting p =
    let len : length (take top waiting) ≡ top = length-take-le top waiting p.places in
    let long = length-after symbols counts h (take top waiting) (λ k lt.
    let lt-top : k < top = omega (arith, len) in
    rw (get_or-take top waiting k 0 lt-top) (p.waits k lt-top)) in
    omega (arith, len, long, length-append (values_of symbols s) (after symbols (take top waiting)), some_value symbols counts h s p.known)

-- the right half of a pair waits
pub pending_pair : (symbols : List ℕ) (limit : ℕ) (values whole : List ℕ) (s top a b : ℕ) (waiting : List ℕ) → IsJoined symbols s a b → top < length waiting → IsPending symbols limit values whole s top waiting
    → (length (set waiting top b) ≡ length waiting) → IsPending symbols limit values whole a (top + 1) (set waiting top b)
pending_pair symbols limit values whole s top a b waiting j lt p len =
    let w = take top waiting in
    let same : values_of symbols a ++ after symbols (take (top + 1) (set waiting top b)) ≡ values_of symbols s ++ after symbols w =
    ap (λ (zs : List ℕ). values_of symbols a ++ after symbols zs) (take_more_set waiting top b lt)
    ∙ ap (λ (zs : List ℕ). values_of symbols a ++ zs) (after-push symbols w b)
    ∙ sym (append_assoc (values_of symbols a) (values_of symbols b) (after symbols w))
    ∙ ap (λ (zs : List ℕ). zs ++ after symbols w) (sym j.joined) in
    record {
      known = j.left_known;
      places = omega (arith, len);
      waits = λ k k-lt. elim (cases_eq k top) [
        | inl e ↦ rw (e, get_or-set_same waiting top b 0 lt) j.right_known
        | inr ne ↦ rw (get_or-set_other waiting top k b 0 ne) (p.waits k (omega (arith, ne)))
      ];
      few = rw same p.few;
      short = p.short;
      is = rw same p.is;
    }

-- the length of what is pending stays
pub pending_pair_length : (symbols : List ℕ) (s top a b : ℕ) (waiting : List ℕ) → IsJoined symbols s a b → top < length waiting
    → length (values_of symbols a ++ after symbols (take (top + 1) (set waiting top b))) ≡ length (values_of symbols s ++ after symbols (take top waiting))
pending_pair_length symbols s top a b waiting j lt =
    let w = take top waiting in
    ap (λ (zs : List ℕ). length (values_of symbols a ++ after symbols zs)) (take_more_set waiting top b lt)
    ∙ ap (λ (zs : List ℕ). length (values_of symbols a ++ zs)) (after-push symbols w b)
    ∙ ap length (sym (append_assoc (values_of symbols a) (values_of symbols b) (after symbols w)))
    ∙ ap (λ (zs : List ℕ). length (zs ++ after symbols w)) (sym j.joined)

-- a leaf's value is the last, and those that wait follow
leaf_then : (symbols : List ℕ) (values : List ℕ) (s v top : ℕ) (waiting : List ℕ) → values_of symbols s ≡ v ∷ []
    → values ++ (values_of symbols s ++ after symbols (take top waiting)) ≡ (values ++ v ∷ []) ++ after symbols (take top waiting)
leaf_then symbols values s v top waiting one = rw one (sym (append_assoc values (v ∷ []) (after symbols (take top waiting))))

-- the last symbol that waits
top_first : (symbols : List ℕ) (top : ℕ) (waiting : List ℕ) → 0 < top → top ≤ length waiting
    → after symbols (take top waiting) ≡ values_of symbols (get_or waiting (top - 1) 0) ++ after symbols (take (top - 1) waiting)
top_first symbols top waiting some within =
    let e : top - 1 + 1 ≡ top = omega arith in
    let split = rw e at (take_more waiting (top - 1) 0 (omega arith)) in
    ap (λ (zs : List ℕ). after symbols zs) split ∙ after-push symbols (take (top - 1) waiting) (get_or waiting (top - 1) 0)

pub pending_next : (symbols : List ℕ) (limit : ℕ) (values whole : List ℕ) (s v top : ℕ) (waiting : List ℕ) → values_of symbols s ≡ v ∷ [] → 0 < top → length values < limit → IsPending symbols limit values whole s top waiting
    → IsPending symbols limit (values ++ v ∷ []) whole (get_or waiting (top - 1) 0) (top - 1) waiting
pending_next symbols limit values whole s v top waiting one some lt p =
    let first = top_first symbols top waiting some p.places in
    record {
      known = p.waits (top - 1) (omega arith);
      places = omega (arith, p.places);
      waits = λ k k-lt. p.waits k (omega arith);
      few = omega (arith, p.few, ap length first, length-append (values_of symbols s) (after symbols (take top waiting)));
      short = omega (arith, length-append values (v ∷ []), lt);
      is = rw (← first) (rw (← leaf_then symbols values s v top waiting one) p.is);
    }

pub pending_next_length : (symbols : List ℕ) (s v top : ℕ) (waiting : List ℕ) → values_of symbols s ≡ v ∷ [] → 0 < top → top ≤ length waiting
    → length (values_of symbols (get_or waiting (top - 1) 0) ++ after symbols (take (top - 1) waiting)) + 1 ≡ length (values_of symbols s ++ after symbols (take top waiting))
pending_next_length symbols s v top waiting one some within =
    omega (arith, ap length (top_first symbols top waiting some within), length-append (values_of symbols s) (after symbols (take top waiting)), ap length one)

-- nothing waits
pub pending_last : (symbols : List ℕ) (limit : ℕ) (values whole : List ℕ) (s v : ℕ) (waiting : List ℕ) → values_of symbols s ≡ v ∷ [] → length values < limit → IsPending symbols limit values whole s 0 waiting
    → values ++ v ∷ [] ≡ take limit whole
pending_last symbols limit values whole s v waiting one lt p =
    let all : values ++ (values_of symbols s ++ after symbols (take 0 waiting)) ≡ values ++ v ∷ [] =
    leaf_then symbols values s v 0 waiting one ∙ ap (λ (zs : List ℕ). (values ++ v ∷ []) ++ zs) (after_none symbols) ∙ append-nil (values ++ v ∷ []) in
    sym (take_all limit (values ++ v ∷ []) (omega (arith, length-append values (v ∷ []), lt))) ∙ ap (λ (zs : List ℕ). take limit zs) (sym all) ∙ p.is

-- there are enough values
pub pending_full : (symbols : List ℕ) (limit : ℕ) (values whole : List ℕ) (s top : ℕ) (waiting : List ℕ) → limit ≤ length values → IsPending symbols limit values whole s top waiting
    → values ≡ take limit whole
pending_full symbols limit values whole s top waiting le p =
    sym (take_all limit values p.short) ∙ sym (take-append-le limit values (values_of symbols s ++ after symbols (take top waiting)) le) ∙ p.is
