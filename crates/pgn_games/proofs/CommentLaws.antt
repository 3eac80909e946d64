-- The tokens of a text within a comment.
use Rattle.std.proofs.Common.{◌≡◌, ◌≢◌, ◌∙◌, ℕ, suc, ◌+◌, ◌<◌, ◌≤◌, ◌++◌, All, Bool, true, false, List, [], ◌∷◌, length, take, drop, Option, Some, None, cond, refl, sym, ap, subst, arith, take_all, lt-ltb, get_or, append_assoc, eq-eqb}
use Rattle.std.specs.Prelude.{◌==◌, ◌||◌, not, nat_lt, position}
use Rattle.std.specs.List.{list_any, position_or_len}
use Rattle.std.proofs.lemmas.Bool.Decides.{nat_tests}
use Rattle.std.proofs.lemmas.List.Elements.{All-head, All-tail, All-take, All-weaker, All-from_get_or}
use Rattle.std.proofs.lemmas.List.{length-take-le, take-append-drop, at_drop_more, get_or-take}
use Rattle.std.proofs.lemmas.List.Sums.{fails_before_first, passes_at_first}
use Rattle.std.proofs.lemmas.Bool.{eqb-true}
use Rattle.pgn_games.specs.Lines.{one_more}
use Rattle.pgn_games.specs.Lexemes.{Telling, Endless, TooLong, lexed_at}
use Rattle.pgn_games.specs.Tokens.{Token, line_after, token_if, tokens_from}
use Rattle.pgn_games.specs.Inside.Lines.{OneLine}
use Rattle.pgn_games.specs.Inside.Steps.{comment_closed, comment_left}
use Rattle.pgn_games.proofs.TokenLaws.{differs}

or_none : (a : Bool) → (a || false) ≡ a
or_none true = refl
or_none false = refl

or_one : (a : Bool) → (a || true) ≡ true
or_one true = refl
or_one false = refl

or_assoc : (a b c : Bool) → (a || (b || c)) ≡ ((a || b) || c)
or_assoc true b c = refl
or_assoc false b c = refl

-- what a comment tells that comes to a line that is too long, or came to one already
abbrev tells_in : Bool → ℕ → List ℕ → Option Telling
tells_in long k t =
    cond (not (nat_lt k (length t))) (Some Endless) (cond (long || list_any (λ b. b == 256) (take k t)) (Some TooLong) None)

abbrev brace : List ℕ → ℕ
brace t = position_or_len (λ b. b == 125) t

closed_is : (long : Bool) → cond (long || false) (Some TooLong) None ≡ cond long (Some TooLong) None
closed_is true = refl
closed_is false = refl

lt_more : (a b : ℕ) → nat_lt (1 + a) (suc b) ≡ nat_lt a b
lt_more a b = grind (arith, nat_tests)

-- at the brace
at_brace : (from : ℕ) (long : Bool) (line : ℕ) (f : Bool) (b : ℕ) (t : List ℕ) → b ≡ 125 → token_if from (tells_in long (brace (b ∷ t)) (b ∷ t)) ++ tokens_from (suc (brace (b ∷ t))) line f (b ∷ t) ≡ comment_left from long line (b ∷ t)
unfolding comment_left tokens_from
at_brace from long line f b t is =
    rw is (ap (λ (o : Option Telling). token_if from o ++ tokens_from 0 line false t) (ap (λ (x : Bool). cond (not x) (Some Endless) (cond (long || false) (Some TooLong) None)) (lt-ltb 0 (suc (length t)) (omega arith)) ∙ closed_is long))

step_any : (long : Bool) (k b : ℕ) (t : List ℕ) → (long || list_any (λ c. c == 256) (take (1 + k) (b ∷ t))) ≡ ((long || b == 256) || list_any (λ c. c == 256) (take k t))
step_any long k b t =
    ap (λ (n : ℕ). long || list_any (λ c. c == 256) (take n (b ∷ t))) (one_plus k) ∙ or_assoc long (b == 256) (list_any (λ c. c == 256) (take k t))
  where
    one_plus : (k : ℕ) → 1 + k ≡ suc k
    one_plus k = omega arith

tells_more : (long : Bool) (k b : ℕ) (t : List ℕ) → tells_in long (1 + k) (b ∷ t) ≡ tells_in (long || b == 256) k t
tells_more long k b t =
    ap (λ (x : Bool). cond (not x) (Some Endless) (cond (long || list_any (λ c. c == 256) (take (1 + k) (b ∷ t))) (Some TooLong) None)) (lt_more k (length t))
    ∙ ap (λ (x : Bool). cond (not (nat_lt k (length t))) (Some Endless) (cond x (Some TooLong) None)) (step_any long k b t)

skip_more : (k line : ℕ) (f : Bool) (b : ℕ) (t : List ℕ) → tokens_from (suc (1 + k)) line f (b ∷ t) ≡ tokens_from (suc k) (line_after line b) (b == 10) t
unfolding tokens_from
skip_more k line f b t = let e : 1 + k ≡ suc k = omega arith in rw e refl

no_brace : (b : ℕ) (t : List ℕ) → (b == 125) ≡ false → brace (b ∷ t) ≡ 1 + brace t
no_brace b t other = ap (λ (x : Bool). cond (not x) (1 + brace t) 0) other

left_more : (from : ℕ) (long : Bool) (line b : ℕ) (t : List ℕ) → (b == 125) ≡ false → comment_left from long line (b ∷ t) ≡ comment_left from (long || b == 256) (line_after line b) t
unfolding comment_left
left_more from long line b t other =
    ap (λ (x : Bool). cond x (comment_closed from long ++ tokens_from 0 line false t) (comment_left from (long || b == 256) (line_after line b) t)) other

before_brace : (from : ℕ) (long : Bool) (line : ℕ) (f : Bool) (b : ℕ) (t : List ℕ) → (b == 125) ≡ false → token_if from (tells_in (long || b == 256) (brace t) t) ++ tokens_from (suc (brace t)) (line_after line b) (b == 10) t ≡ comment_left from (long || b == 256) (line_after line b) t → token_if from (tells_in long (brace (b ∷ t)) (b ∷ t)) ++ tokens_from (suc (brace (b ∷ t))) line f (b ∷ t) ≡ comment_left from long line (b ∷ t)
before_brace from long line f b t other next =
    ap (λ (n : ℕ). token_if from (tells_in long n (b ∷ t)) ++ tokens_from (suc n) line f (b ∷ t)) (no_brace b t other)
    ∙ ap (λ (o : Option Telling). token_if from o ++ tokens_from (suc (1 + brace t)) line f (b ∷ t)) (tells_more long (brace t) b t)
    ∙ ap (λ (ts : List Token). token_if from (tells_in (long || b == 256) (brace t) t) ++ ts) (skip_more (brace t) line f b t)
    ∙ next ∙ sym (left_more from long line b t other)

by_byte : (from : ℕ) (long : Bool) (line : ℕ) (f : Bool) (b : ℕ) (t : List ℕ) → (token_if from (tells_in (long || b == 256) (brace t) t) ++ tokens_from (suc (brace t)) (line_after line b) (b == 10) t ≡ comment_left from (long || b == 256) (line_after line b) t) → (x : Bool) → (b == 125) ≡ x → token_if from (tells_in long (brace (b ∷ t)) (b ∷ t)) ++ tokens_from (suc (brace (b ∷ t))) line f (b ∷ t) ≡ comment_left from long line (b ∷ t)
by_byte from long line f b t next true e = at_brace from long line f b t (let is : b ≡ 125 = grind (arith, nat_tests) in is)
by_byte from long line f b t next false e = before_brace from long line f b t e next

at_end : (from : ℕ) (long : Bool) (line : ℕ) (f : Bool) → token_if from (tells_in long (brace []) []) ++ tokens_from (suc (brace [])) line f [] ≡ comment_left from long line []
unfolding comment_left tokens_from
at_end from long line f = refl

-- a comment goes on
pub within : (from : ℕ) (long : Bool) (line : ℕ) (f : Bool) (t : List ℕ) → token_if from (tells_in long (brace t) t) ++ tokens_from (suc (brace t)) line f t ≡ comment_left from long line t
within from long line f [] = at_end from long line f
within from long line f (b ∷ t) =
    by_byte from long line f b t (within from (long || b == 256) (line_after line b) (b == 10) t) (b == 125) refl

first_in : (long : Bool) (k : ℕ) (t : List ℕ) → cond (not (nat_lt k (length t))) (Some Endless) (cond (list_any (λ b. b == 256) (take k t)) (Some TooLong) None) ≡ tells_in false k t
first_in long k t = refl

opened : (line : ℕ) (f : Bool) (t : List ℕ) → tokens_from 0 line f (123 ∷ t) ≡ token_if line (tells_in false (brace t) t) ++ tokens_from (brace t + 1) line false t
unfolding tokens_from lexed_at
opened line f t = refl

-- the brace that opens a comment
pub comment_begins : (line : ℕ) (f : Bool) (t : List ℕ) → tokens_from 0 line f (123 ∷ t) ≡ comment_left line false line t
comment_begins line f t =
    opened line f t ∙ ap (λ (n : ℕ). token_if line (tells_in false (brace t) t) ++ tokens_from n line false t) (plus_one (brace t)) ∙ within line false line false t
  where
    plus_one : (n : ℕ) → n + 1 ≡ suc n
    plus_one n = omega arith

-- bytes of a line within a comment
pub comment_bytes : (from : ℕ) (long : Bool) (line : ℕ) (s t : List ℕ) → OneLine s → All (λ b. b ≢ 125) s → All (λ b. b ≢ 256) s → comment_left from long line (s ++ t) ≡ comment_left from long line t
comment_bytes from long line [] t a b c = refl
comment_bytes from long line (x ∷ s) t a b c =
    let feed : (x == 10) ≡ false = differs x 10 (All-head (λ b. b ≢ 10) x s a) in
    let brace : (x == 125) ≡ false = differs x 125 (All-head (λ b. b ≢ 125) x s b) in
    let none : (x == 256) ≡ false = differs x 256 (All-head (λ b. b ≢ 256) x s c) in
    left_more from long line x (s ++ t) brace
    ∙ ap (λ (y : Bool). comment_left from (long || y) (line_after line x) (s ++ t)) none
    ∙ ap (λ (y : Bool). comment_left from (long || false) (cond y (one_more line) line) (s ++ t)) feed
    ∙ ap (λ (y : Bool). comment_left from y line (s ++ t)) (or_none long)
    ∙ comment_bytes from long line s t (All-tail (λ b. b ≢ 10) x s a) (All-tail (λ b. b ≢ 125) x s b) (All-tail (λ b. b ≢ 256) x s c)

-- the brace that closes it
pub comment_ends : (from : ℕ) (long : Bool) (line : ℕ) (t : List ℕ) → comment_left from long line (125 ∷ t) ≡ comment_closed from long ++ tokens_from 0 line false t
unfolding comment_left
comment_ends from long line t = refl

-- the next line, and one that is too long
pub comment_feed : (from : ℕ) (long : Bool) (line : ℕ) (t : List ℕ) → comment_left from long line (10 ∷ t) ≡ comment_left from long (one_more line) t
unfolding comment_left
comment_feed from long line t = ap (λ (y : Bool). comment_left from y (one_more line) t) (or_none long)

long_line : (from : ℕ) (long : Bool) (line : ℕ) (t : List ℕ) → comment_left from long line (256 ∷ t) ≡ comment_left from (long || true) line t
unfolding comment_left
long_line from long line t = refl

pub comment_too_long : (from : ℕ) (long : Bool) (line : ℕ) (t : List ℕ) → comment_left from long line (10 ∷ 256 ∷ t) ≡ comment_left from true (one_more line) t
comment_too_long from long line t =
    comment_feed from long line (256 ∷ t) ∙ long_line from long (one_more line) t ∙ ap (λ (y : Bool). comment_left from y (one_more line) t) (or_one long)

pub comment_endless : (from : ℕ) (long : Bool) (line : ℕ) → comment_left from long line [] ≡ token_if from (Some Endless)
unfolding comment_left
comment_endless from long line = refl

some_place : (b : Bool) (m n : ℕ) → cond b (Some m) None ≡ Some n → (b ≡ true) × (m ≡ n)
some_place true m n e = (refl, let same : m ≡ n = cc in same)
some_place false m n e = absurd (cc)

none_place : (b : Bool) (m : ℕ) → cond b (Some m) None ≡ None → b ≡ false
none_place true m e = absurd (cc)
none_place false m e = refl

differ_before : (s : List ℕ) (n : ℕ) → n ≤ brace s → n ≤ length s → All (λ b. b ≢ 125) (take n s)
differ_before s n le within =
    All-from_get_or (λ b. b ≢ 125) (take n s) 0 (λ i h. let i_n : i < n = omega (arith, length-take-le n s within) in
    let fails : (get_or s i 0 == 125) ≡ false = fails_before_first (λ b. b == 125) s i 0 (omega arith) in
    let same : get_or (take n s) i 0 ≡ get_or s i 0 = get_or-take n s i 0 i_n in
    subst (λ (b : ℕ). b ≢ 125) (sym same) (λ is. let e : (get_or s i 0 == 125) ≡ true = eq-eqb (get_or s i 0) 125 is in absurd (cc)))

bytes_not_long : (s : List ℕ) → All (λ b. b < 256) s → All (λ b. b ≢ 256) s
bytes_not_long s small = All-weaker (λ b. b < 256) (λ b. b ≢ 256) (λ b h is. absurd (omega arith)) s small

-- a line that doesn't close the comment
pub none_closes : (from : ℕ) (long : Bool) (line : ℕ) (s more : List ℕ) → OneLine s → All (λ b. b < 256) s → position (λ b. b == 125) s ≡ None → comment_left from long line (s ++ more) ≡ comment_left from long line more
none_closes from long line s more one small none =
    let past : length s ≤ brace s = grind (arith, nat_tests, none_place (nat_lt (brace s) (length s)) (brace s) none) in
    let all : All (λ b. b ≢ 125) (take (length s) s) = differ_before s (length s) past (omega arith) in
    comment_bytes from long line s more one (subst (All (λ b. b ≢ 125)) (take_all (length s) s (omega arith)) all) (bytes_not_long s small)

-- a line that closes it
pub some_closes : (from : ℕ) (long : Bool) (line : ℕ) (s more : List ℕ) (n : ℕ) → OneLine s → All (λ b. b < 256) s → position (λ b. b == 125) s ≡ Some n → comment_left from long line (s ++ more) ≡ comment_closed from long ++ tokens_from 0 line false (drop (n + 1) s ++ more)
some_closes from long line s more n one small some =
    let found = some_place (nat_lt (brace s) (length s)) (brace s) n some in
    let below : brace s < length s = grind (arith, nat_tests) in
    let n_is : brace s ≡ n = found.1 in
    let n_below : n < length s = omega arith in
    let here : (get_or s n 0 == 125) ≡ true = subst (λ (m : ℕ). (get_or s m 0 == 125) ≡ true) n_is (passes_at_first (λ b. b == 125) s 0 below) in
    let is : get_or s n 0 ≡ 125 = eqb-true (get_or s n 0) 125 here in
    let cut : s ≡ take n s ++ (125 ∷ drop (n + 1) s) = sym (take-append-drop n s) ∙ ap (λ (l : List ℕ). take n s ++ l) (at_drop_more (λ (l : List ℕ). l) s n 0 n_below ∙ ap (λ (b : ℕ). b ∷ drop (n + 1) s) is) in
    let front : take n s ++ (125 ∷ (drop (n + 1) s ++ more)) ≡ s ++ more = sym (ap (λ (l : List ℕ). l ++ more) cut ∙ append_assoc (take n s) (125 ∷ drop (n + 1) s) more) in
    ap (comment_left from long line) (sym front)
    ∙ comment_bytes from long line (take n s) (125 ∷ (drop (n + 1) s ++ more)) (All-take (λ b. b ≢ 10) n s one) (differ_before s n (omega arith) (omega arith)) (All-take (λ b. b ≢ 256) n s (bytes_not_long s small))
    ∙ comment_ends from long line (drop (n + 1) s ++ more)
