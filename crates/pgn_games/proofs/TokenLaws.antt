-- The tokens of a line and of the text behind it.
use Rattle.std.proofs.Common.{◌≡◌, ◌≢◌, ◌∙◌, ℕ, zero, suc, ◌+◌, ◌<◌, ◌≤◌, ◌++◌, Bool, true, false, List, [], ◌∷◌, length, take, drop, cond, refl, sym, ap, arith, take_all, get_or}
use Rattle.std.specs.Prelude.{◌==◌, not}
use Rattle.std.specs.List.{position_or_len}
use Rattle.std.proofs.lemmas.Bool.Decides.{nat_tests}
use Rattle.std.proofs.lemmas.List.{at_drop_more, drop-drop, length-drop, take-append-le}
use Rattle.std.proofs.lemmas.List.Elements.{All-drop, All-get_or, All-head, All-tail}
use Rattle.pgn_games.specs.Lines.{one_more}
use Rattle.pgn_games.specs.Lexemes.{Lexed, lexed_at, lexed_in_line, rest_of_line}
use Rattle.pgn_games.specs.Tokens.{Token, line_after, token_if, tokens_from}
use Rattle.pgn_games.specs.Inside.Lines.{OneLine}
use Rattle.pgn_games.specs.Inside.Steps.{BeginsLine}

pub differs : (a b : ℕ) → a ≢ b → (a == b) ≡ false
differs a b h = grind (arith, nat_tests)

-- the first line feed stands behind the line
feed_at : (s more : List ℕ) → OneLine s → BeginsLine more → position_or_len (λ b. b == 10) (s ++ more) ≡ length s
feed_at [] [] none begins = refl
feed_at [] (b ∷ t) none begins = rw begins refl
feed_at (x ∷ s) more none begins =
    let other : (x == 10) ≡ false = differs x 10 (All-head (λ b. b ≢ 10) x s none) in
    let next : position_or_len (λ b. b == 10) (s ++ more) ≡ length s = feed_at s more (All-tail (λ b. b ≢ 10) x s none) begins in
    ap (λ (t : Bool). cond (not t) (1 + position_or_len (λ b. b == 10) (s ++ more)) 0) other ∙ omega (arith, next)

pub line_rest : (s more : List ℕ) → OneLine s → BeginsLine more → rest_of_line (s ++ more) ≡ s
line_rest s more none begins =
    ap (λ n. take n (s ++ more)) (feed_at s more none begins) ∙ take-append-le (length s) s more (omega arith) ∙ take_all (length s) s (omega arith)

-- the bytes of a lexeme within a line are passed over
pub passed_over : (k n : ℕ) (s more : List ℕ) → k ≤ length s → OneLine s → tokens_from k n false (s ++ more) ≡ tokens_from 0 n false (drop k s ++ more)
unfolding tokens_from
passed_over zero n s more h none = refl
passed_over (suc k) n [] more h none = absurd (omega arith)
passed_over (suc k) n (x ∷ s) more h none =
    let other : (x == 10) ≡ false = differs x 10 (All-head (λ b. b ≢ 10) x s none) in
    ap (λ (t : Bool). tokens_from k (cond t (one_more n) n) t (s ++ more)) other ∙ passed_over k n s more (omega arith) (All-tail (λ b. b ≢ 10) x s none)

in_line : (f : Bool) (b : ℕ) (s more : List ℕ) → b ≢ 10 → b ≢ 123 → b ≢ 256 → OneLine s → BeginsLine more → lexed_at f b (s ++ more) ≡ lexed_in_line f b s
unfolding lexed_at
in_line f b s more no_feed no_brace byte none begins =
    rw (differs b 10 no_feed, differs b 123 no_brace, differs b 256 byte) (ap (lexed_in_line f b) (line_rest s more none begins))

pub begun : (n : ℕ) (f : Bool) (b : ℕ) (t : List ℕ) → tokens_from 0 n f (b ∷ t) ≡ token_if n (lexed_at f b t).tells ++ tokens_from (lexed_at f b t).more (line_after n b) (b == 10) t
unfolding tokens_from
begun n f b t = refl

-- a lexeme that begins within a line
pub lexeme_passed : (n : ℕ) (f : Bool) (b : ℕ) (s more : List ℕ) → b ≢ 10 → b ≢ 123 → b ≢ 256 → OneLine s → BeginsLine more → (lexed_in_line f b s).more ≤ length s → tokens_from 0 n f (b ∷ (s ++ more)) ≡ token_if n (lexed_in_line f b s).tells ++ tokens_from 0 n false (drop (lexed_in_line f b s).more s ++ more)
lexeme_passed n f b s more no_feed no_brace byte none begins within =
    begun n f b (s ++ more) ∙ ap (λ (l : Lexed). token_if n l.tells ++ tokens_from l.more (line_after n b) (b == 10) (s ++ more)) (in_line f b s more no_feed no_brace byte none begins)
    ∙ ap (λ (t : Bool). token_if n (lexed_in_line f b s).tells ++ tokens_from (lexed_in_line f b s).more (cond t (one_more n) n) t (s ++ more)) (differs b 10 no_feed)
    ∙ ap (λ (ts : List Token). token_if n (lexed_in_line f b s).tells ++ ts) (passed_over (lexed_in_line f b s).more n s more within none)

-- a line feed
pub feed_passed : (n : ℕ) (f : Bool) (t : List ℕ) → tokens_from 0 n f (10 ∷ t) ≡ tokens_from 0 (one_more n) true t
unfolding tokens_from lexed_at
feed_passed n f t = refl

pub none_left : (k n : ℕ) (f : Bool) → tokens_from k n f [] ≡ []
unfolding tokens_from
none_left zero n f = refl
none_left (suc k) n f = refl

-- a place further on in a line
pub further_on : (line place n : ℕ) (s more : List ℕ) → tokens_from 0 line false (drop (n + 1) (drop place s) ++ more) ≡ tokens_from 0 line (place + (n + 1) == 0) (drop (place + (n + 1)) s ++ more)
further_on line place n s more =
    ap (λ (l : List ℕ). tokens_from 0 line false (l ++ more)) (drop-drop (n + 1) place s) ∙ ap (λ (b : Bool). tokens_from 0 line b (drop (place + (n + 1)) s ++ more)) (sym (differs (place + (n + 1)) 0 (λ e. absurd (omega arith))))

-- a lexeme at a place of a line, and the place behind it
pub lexeme_at : (line place len : ℕ) (s more : List ℕ) → OneLine s → BeginsLine more → place < length s → get_or s place 0 ≢ 123 → get_or s place 0 < 256 → len ≡ (lexed_in_line (place == 0) (get_or s place 0) (drop (place + 1) s)).more + 1 → place + len ≤ length s → tokens_from 0 line (place == 0) (drop place s ++ more) ≡ token_if line (lexed_in_line (place == 0) (get_or s place 0) (drop (place + 1) s)).tells ++ tokens_from 0 line (place + len == 0) (drop (place + len) s ++ more)
lexeme_at line place len s more one begins within plain small size fits =
    let b = get_or s place 0 in
    let rest = drop (place + 1) s in
    let l = lexed_in_line (place == 0) b rest in
    let cut : drop place s ≡ b ∷ rest = at_drop_more (λ (x : List ℕ). x) s place 0 within in
    let no_feed : b ≢ 10 = All-get_or (λ x. x ≢ 10) s place 0 within one in
    let fits_rest : l.more ≤ length rest = omega (arith, length-drop (place + 1) s) in
    let to : place + (l.more + 1) ≡ place + len = omega arith in
    let same : drop l.more rest ≡ drop (l.more + 1) (drop place s) = at_drop l.more place s in
    ap (λ (x : List ℕ). tokens_from 0 line (place == 0) (x ++ more)) cut
    ∙ lexeme_passed line (place == 0) b rest more no_feed plain (λ is. absurd (omega arith)) (All-drop (λ x. x ≢ 10) (place + 1) s one) begins fits_rest
    ∙ ap (λ (x : List ℕ). token_if line l.tells ++ tokens_from 0 line false (x ++ more)) same
    ∙ ap (λ (ts : List Token). token_if line l.tells ++ ts) (further_on line place l.more s more)
    ∙ ap (λ (n : ℕ). token_if line l.tells ++ tokens_from 0 line (n == 0) (drop n s ++ more)) to
  where
    at_drop : (n place : ℕ) (s : List ℕ) → drop n (drop (place + 1) s) ≡ drop (n + 1) (drop place s)
    at_drop n place s =
        let e : place + 1 + n ≡ place + (n + 1) = omega arith in
        drop-drop n (place + 1) s ∙ ap (λ (k : ℕ). drop k s) e ∙ sym (drop-drop (n + 1) place s)
