-- The bytes of scores, and the text that is read of them.
use Rattle.std.proofs.Common.{◌≡◌, ◌≢◌, ◌∙◌, ℕ, zero, suc, ◌+◌, ◌++◌, ◌⊎◌, Bool, true, false, List, [], ◌∷◌, Some, None, length, drop, cond, refl, sym, ap, subst, arith, inl, inr}
use Rattle.std.specs.Prelude.{◌==◌, ◌||◌, nat_lt}
use Rattle.std.specs.List.{AllByRecursion, flat_map, position_or_len}
use Rattle.std.proofs.lemmas.Bool.Decides.{nat_tests}
use Rattle.pgn_games.specs.Lines.{is_escaped, lines_of_text, onto_first_line, read_text, text_of_line}
use Rattle.pgn_games.specs.Lexemes.{Lexed, TooLong, lexed, lexed_at, lexed_in_line, rest_of_line}
use Rattle.pgn_games.specs.Tokens.{Token, line_after, token_if, tokens_from, tokens_of}
use Rattle.pgn_games.specs.Scores.{EachByte, IsReadLine}
use Rattle.pgn_games.specs.Inside.Steps.{comment_closed, comment_left}
use Rattle.pgn_games.proofs.LineLaws.{lines_by, lines_feed, lines_nil, text_cons, text_is, text_none, text_of_lines}
use Rattle.pgn_games.proofs.TokenLaws.{differs, feed_passed, none_left, begun}
use Rattle.pgn_games.proofs.CommentLaws.{comment_begins}

-- ---- lines

-- lines with a line feed before each
fed : List (List ℕ) → List ℕ
fed lines = flat_map (λ line. 10 ∷ line) lines

-- but for a line feed at the end
abbrev IsFed : List ℕ → List ℕ → Type 0
IsFed lines bytes = (lines ≡ 10 ∷ bytes) ⊎ (lines ++ 10 ∷ [] ≡ 10 ∷ bytes)

fed_cons : (line : List ℕ) (lines : List (List ℕ)) → fed (line ∷ lines) ≡ 10 ∷ (line ++ fed lines)
unfolding fed
fed_cons line lines = refl

fed_nil : fed [] ≡ []
unfolding fed
fed_nil = refl

behind_first : (a b : List ℕ) → 10 ∷ a ≡ 10 ∷ b → a ≡ b
behind_first a b h = ap (drop 1) h

fed_onto : (x : ℕ) (t : List ℕ) (lines : List (List ℕ)) → IsFed (fed lines) t → IsFed (fed (onto_first_line x lines)) (x ∷ t)
unfolding fed
fed_onto x t [] (inl h) = absurd (cc)
fed_onto x t [] (inr h) = inl (ap (λ (u : List ℕ). 10 ∷ x ∷ u) (behind_first [] t h))
fed_onto x t (line ∷ lines) (inl h) = inl (ap (λ (u : List ℕ). 10 ∷ x ∷ u) (behind_first _ t h))
fed_onto x t (line ∷ lines) (inr h) = inr (ap (λ (u : List ℕ). 10 ∷ x ∷ u) (behind_first _ t h))

fed_feed : (t : List ℕ) (lines : List (List ℕ)) → IsFed (fed lines) t → IsFed (fed ([] ∷ lines)) (10 ∷ t)
unfolding fed
fed_feed t lines (inl h) = inl (ap (λ (u : List ℕ). 10 ∷ u) h)
fed_feed t lines (inr h) = inr (ap (λ (u : List ℕ). 10 ∷ u) h)

lines_fed_by : (b : Bool) (x : ℕ) (t : List ℕ) → (x == 10) ≡ b → IsFed (fed (lines_of_text t)) t → IsFed (fed (lines_of_text (x ∷ t))) (x ∷ t)
lines_fed_by true x t is h =
    let e : 10 ≡ x = grind (arith, nat_tests) in
    subst (λ (y : ℕ). IsFed (fed (lines_of_text (y ∷ t))) (y ∷ t)) e (subst (λ (l : List (List ℕ)). IsFed (fed l) (10 ∷ t)) (sym (lines_feed t)) (fed_feed t (lines_of_text t) h))
lines_fed_by false x t is h =
    let other : x ≢ 10 = λ e. absurd (grind (arith, nat_tests)) in
    subst (λ (l : List (List ℕ)). IsFed (fed l) (x ∷ t)) (sym (lines_by x t other)) (fed_onto x t (lines_of_text t) h)

lines_fed : (bytes : List ℕ) → IsFed (fed (lines_of_text bytes)) bytes
lines_fed [] = inr (ap (λ (l : List (List ℕ)). fed l ++ 10 ∷ []) lines_nil ∙ ap (λ (u : List ℕ). u ++ 10 ∷ []) fed_nil)
lines_fed (x ∷ t) = lines_fed_by (x == 10) x t refl (lines_fed t)

-- ---- lines that begin with no percent sign

-- no percent sign stands in the first column, where the text begins in it or not
pub NoPercent : Bool → List ℕ → Type 0
NoPercent first [] = Unit {0}
NoPercent first (b ∷ t) = (first ≡ true → b ≢ 37) × NoPercent (b == 10) t

-- wherever the text begins
abbrev pub Calm : List ℕ → Type 0
Calm bytes = (first : Bool) → NoPercent first bytes

pub calm_nil : Calm []
unfolding NoPercent
calm_nil first = tt

no_percent_append : (first : Bool) (a b : List ℕ) → NoPercent first a → Calm b → NoPercent first (a ++ b)
unfolding NoPercent
no_percent_append first [] b h calm = calm first
no_percent_append first (x ∷ a) b h calm = (h.0, no_percent_append (x == 10) a b h.1 calm)

pub calm_append : (a b : List ℕ) → Calm a → Calm b → Calm (a ++ b)
calm_append a b h calm first = no_percent_append first a b (h first) calm

pub fails_other : (test : ℕ → Bool) (a b : ℕ) → test a ≡ true → test b ≡ false → a ≢ b
fails_other test a b h fails e = absurd (let f : test b ≡ true = ap test (sym e) ∙ h in cc)

pub calm_by : (test : ℕ → Bool) (bytes : List ℕ) → test 37 ≡ false → EachByte test bytes → Calm bytes
unfolding NoPercent
calm_by test [] fails h first = tt
calm_by test (b ∷ t) fails h first = (λ _. fails_other test b 37 h.0 fails, calm_by test t fails h.1 (b == 10))

-- behind a byte of the line no percent sign stands in the first column of the same line
no_percent_behind : (t : List ℕ) → AllByRecursion (λ b. b ≢ 10) t → NoPercent false t
unfolding NoPercent
no_percent_behind [] h = tt
no_percent_behind (b ∷ t) h =
    (λ e. absurd (cc), subst (λ (f : Bool). NoPercent f t) (sym (differs b 10 h.0)) (no_percent_behind t h.1))

pub calm_line : (b : ℕ) (t : List ℕ) → b ≢ 37 → b ≢ 10 → AllByRecursion (λ c. c ≢ 10) t → Calm (b ∷ t)
unfolding NoPercent
calm_line b t other feed h first =
    (λ _. other, subst (λ (f : Bool). NoPercent f t) (sym (differs b 10 feed)) (no_percent_behind t h))

IsUnescaped : List ℕ → Type 0
IsUnescaped line = is_escaped line ≡ false

abbrev AreUnescaped : Bool → List (List ℕ) → Type 0
AreUnescaped first [] = Unit {0}
AreUnescaped true (line ∷ lines) = IsUnescaped line × AllByRecursion IsUnescaped lines
AreUnescaped false (line ∷ lines) = AllByRecursion IsUnescaped lines

unescaped_feed : (first : Bool) (lines : List (List ℕ)) → AreUnescaped true lines → AreUnescaped first ([] ∷ lines)
unfolding IsUnescaped
unescaped_feed true [] h = (refl, tt)
unescaped_feed true (line ∷ lines) h = (refl, h)
unescaped_feed false [] h = tt
unescaped_feed false (line ∷ lines) h = h

unescaped_onto : (first : Bool) (x : ℕ) (lines : List (List ℕ)) → (first ≡ true → x ≢ 37) → AreUnescaped false lines → AreUnescaped first (onto_first_line x lines)
unfolding IsUnescaped
unescaped_onto true x [] other h = (differs x 37 (other refl), tt)
unescaped_onto true x (line ∷ lines) other h = (differs x 37 (other refl), h)
unescaped_onto false x [] other h = tt
unescaped_onto false x (line ∷ lines) other h = h

unescaped_by : (b : Bool) (first : Bool) (x : ℕ) (t : List ℕ) → (x == 10) ≡ b → (first ≡ true → x ≢ 37) → AreUnescaped b (lines_of_text t) → AreUnescaped first (lines_of_text (x ∷ t))
unescaped_by true first x t is other h =
    let e : 10 ≡ x = grind (arith, nat_tests) in
    subst (λ (y : ℕ). AreUnescaped first (lines_of_text (y ∷ t))) e (subst (AreUnescaped first) (sym (lines_feed t)) (unescaped_feed first (lines_of_text t) h))
unescaped_by false first x t is other h =
    let feed : x ≢ 10 = λ e. absurd (grind (arith, nat_tests)) in
    subst (AreUnescaped first) (sym (lines_by x t feed)) (unescaped_onto first x (lines_of_text t) other h)

unescaped_lines : (first : Bool) (bytes : List ℕ) → NoPercent first bytes → AreUnescaped first (lines_of_text bytes)
unfolding NoPercent
unescaped_lines first [] h = subst (AreUnescaped first) (sym lines_nil) tt
unescaped_lines first (x ∷ t) h = unescaped_by (x == 10) first x t refl h.0 (unescaped_lines (x == 10) t h.1)

each_unescaped : (lines : List (List ℕ)) → AreUnescaped true lines → AllByRecursion IsUnescaped lines
each_unescaped [] h = tt
each_unescaped (line ∷ lines) h = h

-- ---- the text that is read

line_read : (line : List ℕ) → IsUnescaped line → IsReadLine line → text_of_line line ≡ line
unfolding IsUnescaped
line_read line plain short =
    let fits : nat_lt 65535 (length line) ≡ false = grind (arith, nat_tests) in
    rw (plain, fits) refl

lines_read : (lines : List (List ℕ)) → AllByRecursion IsUnescaped lines → AllByRecursion IsReadLine lines → text_of_lines lines ≡ fed lines
lines_read [] plain short = text_none ∙ sym fed_nil
lines_read (line ∷ lines) plain short =
    text_cons line lines ∙ ap (λ (t : List ℕ). 10 ∷ (t ++ text_of_lines lines)) (line_read line plain.0 short.0) ∙ ap (λ (t : List ℕ). 10 ∷ (line ++ t)) (lines_read lines plain.1 short.1) ∙ sym (fed_cons line lines)

text_fed : (bytes : List ℕ) → Calm bytes → AllByRecursion IsReadLine (lines_of_text bytes) → read_text bytes ≡ fed (lines_of_text bytes)
text_fed bytes calm short =
    text_is bytes ∙ lines_read (lines_of_text bytes) (each_unescaped (lines_of_text bytes) (unescaped_lines true bytes (calm true))) short

-- ---- the line feed at the end tells nothing

rest_by : (b : Bool) (x : ℕ) (t : List ℕ) → (x == 10) ≡ b → rest_of_line (x ∷ t) ≡ cond b [] (x ∷ rest_of_line t)
rest_by true x t is = rw is refl
rest_by false x t is =
    let more : 1 + position_or_len (λ c. c == 10) t ≡ suc (position_or_len (λ c. c == 10) t) = omega arith in
    rw (is, more) refl

-- the rest of a line, byte by byte
pub rest_cons : (x : ℕ) (t : List ℕ) → rest_of_line (x ∷ t) ≡ cond (x == 10) [] (x ∷ rest_of_line t)
rest_cons x t = rest_by (x == 10) x t refl

rest_same : (t : List ℕ) → rest_of_line (t ++ 10 ∷ []) ≡ rest_of_line t
rest_same [] = refl
rest_same (x ∷ t) =
    rest_cons x (t ++ 10 ∷ []) ∙ ap (λ (u : List ℕ). cond (x == 10) [] (x ∷ u)) (rest_same t) ∙ sym (rest_cons x t)

lexed_same : (f : Bool) (x : ℕ) (t : List ℕ) → x ≢ 123 → lexed_at f x (t ++ 10 ∷ []) ≡ lexed_at f x t
unfolding lexed_at
lexed_same f x t other =
    rw (differs x 123 other) (ap (λ (u : List ℕ). cond (x == 10) (lexed None 0) (cond (x == 256) (lexed (Some TooLong) 0) (lexed_in_line f x u))) (rest_same t))

-- a line feed at the end of a text, or of one that begins in a comment
record EndsAlike (t : List ℕ) : Type 0 where
  text : (k n : ℕ) (f : Bool) → tokens_from k n f (t ++ 10 ∷ []) ≡ tokens_from k n f t
  comment : (from : ℕ) (long : Bool) (n : ℕ) → comment_left from long n (t ++ 10 ∷ []) ≡ comment_left from long n t

feed_alone : (k n : ℕ) (f : Bool) → tokens_from k n f (10 ∷ []) ≡ tokens_from k n f []
unfolding tokens_from lexed_at
feed_alone zero n f = refl
feed_alone (suc k) n f = none_left k (line_after n 10) true ∙ sym (none_left (suc k) n f)

feed_in_comment : (from : ℕ) (long : Bool) (n : ℕ) → comment_left from long n (10 ∷ []) ≡ comment_left from long n []
unfolding comment_left
feed_in_comment from long n = refl

next_alike : (k n : ℕ) (f : Bool) (x : ℕ) (t : List ℕ) → EndsAlike t → tokens_from k n f ((x ∷ t) ++ 10 ∷ []) ≡ tokens_from k n f (x ∷ t)
unfolding tokens_from
next_alike (suc k) n f x t h = h.text k (line_after n x) (x == 10)
next_alike zero n f x t h = at (x == 123) refl
  where
    at : (b : Bool) → (x == 123) ≡ b → tokens_from 0 n f (x ∷ (t ++ 10 ∷ [])) ≡ tokens_from 0 n f (x ∷ t)
    at true is =
        let e : 123 ≡ x = grind (arith, nat_tests) in
        subst (λ (y : ℕ). tokens_from 0 n f (y ∷ (t ++ 10 ∷ [])) ≡ tokens_from 0 n f (y ∷ t)) e (comment_begins n f (t ++ 10 ∷ []) ∙ h.comment n false n ∙ sym (comment_begins n f t))
    at false is =
        let other : x ≢ 123 = λ e. absurd (grind (arith, nat_tests)) in
        begun n f x (t ++ 10 ∷ []) ∙ ap (λ (l : Lexed). token_if n l.tells ++ tokens_from l.more (line_after n x) (x == 10) (t ++ 10 ∷ [])) (lexed_same f x t other)
        ∙ ap (λ (ts : List Token). token_if n (lexed_at f x t).tells ++ ts) (h.text (lexed_at f x t).more (line_after n x) (x == 10)) ∙ sym (begun n f x t)

next_in_comment : (from : ℕ) (long : Bool) (n x : ℕ) (t : List ℕ) → EndsAlike t → comment_left from long n ((x ∷ t) ++ 10 ∷ []) ≡ comment_left from long n (x ∷ t)
unfolding comment_left
next_in_comment from long n x t h =
    ap (λ (ts : List Token). cond (x == 125) (comment_closed from long ++ ts) (comment_left from (long || x == 256) (line_after n x) (t ++ 10 ∷ []))) (h.text 0 n false)
    ∙ ap (λ (ts : List Token). cond (x == 125) (comment_closed from long ++ tokens_from 0 n false t) ts) (h.comment from (long || x == 256) (line_after n x))

ends_alike : (t : List ℕ) → EndsAlike t
ends_alike [] = record { text = feed_alone; comment = feed_in_comment }
ends_alike (x ∷ t) =
    let h = ends_alike t in
    record { text = λ k n f. next_alike k n f x t h; comment = λ from long n. next_in_comment from long n x t h }

tokens_fed : (lines bytes : List ℕ) → IsFed lines bytes → tokens_from 0 0 true lines ≡ tokens_from 0 0 true (10 ∷ bytes)
tokens_fed lines bytes (inl h) = ap (tokens_from 0 0 true) h
tokens_fed lines bytes (inr h) = sym ((ends_alike lines).text 0 0 true) ∙ ap (tokens_from 0 0 true) h

-- the tokens of a file whose lines are all read, from its first byte on
pub tokens_begin : (bytes : List ℕ) → Calm bytes → AllByRecursion IsReadLine (lines_of_text bytes) → tokens_of bytes ≡ tokens_from 0 1 true bytes
tokens_begin bytes calm short =
    ap (tokens_from 0 0 true) (text_fed bytes calm short) ∙ tokens_fed (fed (lines_of_text bytes)) bytes (lines_fed bytes) ∙ feed_passed 0 true bytes
