-- The tokens of the parts of a score: white space, numbers of moves, symbols, results and tag pairs.
use Rattle.std.proofs.Common.{◌≡◌, ◌≢◌, ◌∙◌, ℕ, suc, ◌+◌, ◌-◌, ◌<◌, ◌++◌, Bool, true, false, List, [], ◌∷◌, Option, Some, None, length, take, drop, cond, refl, sym, ap, subst, arith, append_assoc, append-nil, lit<}
use Rattle.std.specs.Prelude.{◌==◌, ◌||◌, codes, bytes_eq, option_map}
use Rattle.std.specs.List.{AllByRecursion}
use Rattle.std.proofs.lemmas.Bool.{false_from_ne_true}
use Rattle.std.proofs.lemmas.Bool.Decides.{nat_tests}
use Rattle.std.proofs.lemmas.Slice.Eq.{bytes_eq-Decides}
use Rattle.std.proofs.lemmas.List.{drop_at, length-append, take_at}
use Rattle.pgn_games.specs.declared.bytes.ByteKind.TheVariants as kind
use Rattle.pgn_games.specs.declared.game.GameResult.{GameResult}
use Rattle.pgn_games.specs.declared.game.GameResult.TheVariants.{WhiteWins, BlackWins, Draw, Unknown, Missing}
use Rattle.pgn_games.specs.Bytes.{is_blank, is_digit, is_name, is_space, is_symbol, kind_of_mark, run_len}
use Rattle.pgn_games.specs.Lines.{one_more}
use Rattle.pgn_games.specs.Lexemes.{Lexed, Tag, Telling, Told, lexed, lexed_at, lexed_by, lexed_in_line, lexed_tag, rest_of_line, symbol_tells}
use Rattle.pgn_games.specs.Tags.{TagPair, after_byte, after_spaces, closes_at, pair_from_name, pair_from_quote, pair_to_bracket, pair_to_quote, tag_pair, unescaped}
use Rattle.pgn_games.specs.Tokens.{Token, line_after, token, token_if, tokens_from}
use Rattle.pgn_games.specs.Scores.{EachByte, ScoreTag, SpellsMoveNumber, SpellsTagPair, escaped_value, is_score_symbol, is_white, line_behind, result_text}
use Rattle.pgn_games.proofs.TokenLaws.{differs, feed_passed, begun}
use Rattle.pgn_games.proofs.ScoreBytes.{Calm, calm_by, calm_line, calm_nil, fails_other, rest_cons}

-- ---- bytes

-- a byte that isn't these, since a test tells them apart
plain_byte : (f : Bool) (b : ℕ) (t : List ℕ) → b ≢ 10 → b ≢ 123 → b ≢ 256 → lexed_at f b t ≡ lexed_in_line f b (rest_of_line t)
unfolding lexed_at
plain_byte f b t feed brace byte = rw (differs b 10 feed, differs b 123 brace, differs b 256 byte) refl

-- no line feed stands in a text
abbrev pub IsOnLine : List ℕ → Type 0
IsOnLine bytes = AllByRecursion (λ b. b ≢ 10) bytes

pub on_line_by : (test : ℕ → Bool) (bytes : List ℕ) → test 10 ≡ false → EachByte test bytes → IsOnLine bytes
on_line_by test [] fails h = tt
on_line_by test (b ∷ t) fails h = (fails_other test b 10 h.0 fails, on_line_by test t fails h.1)

pub on_line_append : (a b : List ℕ) → IsOnLine a → IsOnLine b → IsOnLine (a ++ b)
on_line_append [] b h g = g
on_line_append (x ∷ a) b h g = (h.0, on_line_append a b h.1 g)

-- a line, up to what stands behind a text without a line feed
pub rest_append : (s more : List ℕ) → IsOnLine s → rest_of_line (s ++ more) ≡ s ++ rest_of_line more
rest_append [] more h = refl
rest_append (x ∷ s) more h =
    rest_cons x (s ++ more) ∙ ap (λ (b : Bool). cond b [] (x ∷ rest_of_line (s ++ more))) (differs x 10 h.0) ∙ ap (λ (u : List ℕ). x ∷ u) (rest_append s more h.1)

-- the bytes of a lexeme are passed over
over : (s more : List ℕ) (n : ℕ) → IsOnLine s → tokens_from (length s) n false (s ++ more) ≡ tokens_from 0 n false more
unfolding tokens_from
over [] more n h = refl
over (x ∷ s) more n h =
    ap (λ (b : Bool). tokens_from (length s) (cond b (one_more n) n) b (s ++ more)) (differs x 10 h.0) ∙ over s more n h.1

-- a run of bytes ends before a byte that doesn't pass, or at the end
abbrev pub Stops : (ℕ → Bool) → List ℕ → Type 0
Stops test [] = Unit {0}
Stops test (b ∷ t) = test b ≡ false

run_stops : (test : ℕ → Bool) (t : List ℕ) → Stops test t → run_len test t ≡ 0
run_stops test [] h = refl
run_stops test (b ∷ t) h = rw h refl

run_more : (test : ℕ → Bool) (b : ℕ) (t : List ℕ) → test b ≡ true → run_len test (b ∷ t) ≡ suc (run_len test t)
run_more test b t h =
    let more : 1 + run_len test t ≡ suc (run_len test t) = omega arith in
    rw h more

pub run_append : (test : ℕ → Bool) (s more : List ℕ) → EachByte test s → Stops test more → run_len test (s ++ more) ≡ length s
run_append test [] more h stops = run_stops test more stops
run_append test (x ∷ s) more h stops = run_more test x (s ++ more) h.0 ∙ ap suc (run_append test s more h.1 stops)

-- a byte that one test wants and another refuses
abbrev Excludes : (ℕ → Bool) → (ℕ → Bool) → Type 0
Excludes has lacks = (b : ℕ) → has b ≡ true → lacks b ≡ false

-- ---- white space

blank_begins : (f : Bool) (b : ℕ) (t : List ℕ) → is_blank b ≡ true → b ≢ 10 → b ≢ 123 → b ≢ 256 → lexed_at f b t ≡ lexed None (run_len is_blank (rest_of_line t))
blank_begins f b t blank feed brace byte =
    plain_byte f b t feed brace byte ∙ ap (λ (k : Bool). lexed_by (cond k kind.Blank (cond (is_symbol b) kind.Symbol (kind_of_mark b))) f b (rest_of_line t)) blank

blanks_by : (feed blank : Bool) (c : ℕ) (t : List ℕ) (n : ℕ) → (c == 10) ≡ feed → is_blank c ≡ blank → tokens_from (run_len is_blank (rest_of_line (c ∷ t))) n false (c ∷ t) ≡ tokens_from 0 n false (c ∷ t)
unfolding tokens_from
blanks_by true blank c t n is same =
    ap (λ (u : List ℕ). tokens_from (run_len is_blank u) n false (c ∷ t)) (rest_cons c t ∙ ap (λ (b : Bool). cond b [] (c ∷ rest_of_line t)) is)
blanks_by false false c t n is same =
    ap (λ (u : List ℕ). tokens_from (run_len is_blank u) n false (c ∷ t)) (rest_cons c t ∙ ap (λ (b : Bool). cond b [] (c ∷ rest_of_line t)) is)
    ∙ ap (λ (k : ℕ). tokens_from k n false (c ∷ t)) (run_stops is_blank (c ∷ rest_of_line t) same)
blanks_by false true c t n is same =
    let feed : c ≢ 10 = λ e. absurd (grind (arith, nat_tests)) in
    let lexeme = blank_begins false c t same feed (fails_other is_blank c 123 same refl) (fails_other is_blank c 256 same refl) in
    ap (λ (u : List ℕ). tokens_from (run_len is_blank u) n false (c ∷ t)) (rest_cons c t ∙ ap (λ (b : Bool). cond b [] (c ∷ rest_of_line t)) is)
    ∙ ap (λ (k : ℕ). tokens_from k n false (c ∷ t)) (run_more is_blank c (rest_of_line t) same)
    ∙ ap (λ (l : Lexed). token_if n l.tells ++ tokens_from l.more (line_after n c) (c == 10) t) (sym lexeme) ∙ sym (begun n false c t)

blanks_over : (t : List ℕ) (n : ℕ) → tokens_from (run_len is_blank (rest_of_line t)) n false t ≡ tokens_from 0 n false t
blanks_over [] n = refl
blanks_over (c ∷ t) n = blanks_by (c == 10) (is_blank c) c t n refl refl

blank_passed : (b : ℕ) (t : List ℕ) (n : ℕ) (f : Bool) → is_blank b ≡ true → tokens_from 0 n f (b ∷ t) ≡ tokens_from 0 n false t
blank_passed b t n f blank =
    let feed : b ≢ 10 = fails_other is_blank b 10 blank refl in
    begun n f b t
    ∙ ap (λ (l : Lexed). token_if n l.tells ++ tokens_from l.more (line_after n b) (b == 10) t) (blank_begins f b t blank feed (fails_other is_blank b 123 blank refl) (fails_other is_blank b 256 blank refl))
    ∙ ap (λ (is : Bool). tokens_from (run_len is_blank (rest_of_line t)) (cond is (one_more n) n) is t) (differs b 10 feed) ∙ blanks_over t n

-- white space, and the periods behind a number
abbrev pub is_parting : ℕ → Bool
is_parting b = is_white b || b == 46

blank_by : (b : ℕ) → is_parting b ≡ true → (b == 10) ≡ false → is_blank b ≡ true
blank_by b h feed = grind (arith, nat_tests)

parting_by : (feed : Bool) (b : ℕ) (t : List ℕ) (n : ℕ) (f : Bool) → (b == 10) ≡ feed → is_parting b ≡ true → tokens_from 0 n f (b ∷ t) ≡ tokens_from 0 (line_after n b) (b == 10) t
parting_by true b t n f is h =
    let e : 10 ≡ b = grind (arith, nat_tests) in
    subst (λ (c : ℕ). tokens_from 0 n f (c ∷ t) ≡ tokens_from 0 (line_after n c) (c == 10) t) e (feed_passed n f t)
parting_by false b t n f is h =
    blank_passed b t n f (blank_by b h is) ∙ ap (λ (k : Bool). tokens_from 0 (cond k (one_more n) n) k t) (sym is)

-- whether what stands behind these bytes is in the first column
abbrev pub first_behind : Bool → List ℕ → Bool
first_behind f [] = f
first_behind f (b ∷ t) = first_behind (b == 10) t

pub parting_passed : (s more : List ℕ) (n : ℕ) (f : Bool) → EachByte is_parting s → tokens_from 0 n f (s ++ more) ≡ tokens_from 0 (line_behind n s) (first_behind f s) more
parting_passed [] more n f h = refl
parting_passed (b ∷ s) more n f h =
    parting_by (b == 10) b (s ++ more) n f refl h.0 ∙ parting_passed s more (line_after n b) (b == 10) h.1

each_weaker : (p q : ℕ → Bool) (s : List ℕ) → ((b : ℕ) → p b ≡ true → q b ≡ true) → EachByte p s → EachByte q s
each_weaker p q [] w h = tt
each_weaker p q (b ∷ s) w h = (w b h.0, each_weaker p q s w h.1)

pub each_append : (p : ℕ → Bool) (a b : List ℕ) → EachByte p a → EachByte p b → EachByte p (a ++ b)
each_append p [] b h g = g
each_append p (x ∷ a) b h g = (h.0, each_append p a b h.1 g)

white_parts : (b : ℕ) → is_white b ≡ true → is_parting b ≡ true
white_parts b h = rw h refl

pub parting_white : (s : List ℕ) → EachByte is_white s → EachByte is_parting s
parting_white s h = each_weaker is_white is_parting s white_parts h

pub white_passed : (s more : List ℕ) (n : ℕ) (f : Bool) → EachByte is_white s → tokens_from 0 n f (s ++ more) ≡ tokens_from 0 (line_behind n s) (first_behind f s) more
white_passed s more n f h = parting_passed s more n f (parting_white s h)

-- the line behind a text without a line feed is its own
pub line_kept : (s : List ℕ) (n : ℕ) → IsOnLine s → line_behind n s ≡ n
line_kept [] n h = refl
line_kept (b ∷ s) n h = ap (λ (k : Bool). line_behind (cond k (one_more n) n) s) (differs b 10 h.0) ∙ line_kept s n h.1

pub line_append : (a b : List ℕ) (n : ℕ) → line_behind n (a ++ b) ≡ line_behind (line_behind n a) b
line_append [] b n = refl
line_append (x ∷ a) b n = line_append a b (line_after n x)

-- ---- symbols

stops_rest : (test : ℕ → Bool) (t : List ℕ) → Stops test t → Stops test (rest_of_line t)
stops_rest test [] h = tt
stops_rest test (b ∷ t) h = subst (Stops test) (sym (rest_cons b t)) (at (b == 10))
  where
    at : (k : Bool) → Stops test (cond k [] (b ∷ rest_of_line t))
    at true = tt
    at false = h

symbol_begins : (f : Bool) (x : ℕ) (s more : List ℕ) → is_blank x ≡ false → EachByte is_symbol (x ∷ s) → Stops is_symbol more → lexed_at f x (s ++ more) ≡ lexed (symbol_tells (x ∷ s)) (length s)
symbol_begins f x s more plain h stops =
    let line : rest_of_line (s ++ more) ≡ s ++ rest_of_line more = rest_append s more (on_line_by is_symbol s refl h.1) in
    let run : run_len is_symbol (s ++ rest_of_line more) ≡ length s = run_append is_symbol s (rest_of_line more) h.1 (stops_rest is_symbol more stops) in
    plain_byte f x (s ++ more) (fails_other is_symbol x 10 h.0 refl) (fails_other is_symbol x 123 h.0 refl) (fails_other is_symbol x 256 h.0 refl)
    ∙ ap (λ (k : Bool). lexed_by (cond k kind.Blank (cond (is_symbol x) kind.Symbol (kind_of_mark x))) f x (rest_of_line (s ++ more))) plain
    ∙ ap (λ (k : Bool). lexed_by (cond k kind.Symbol (kind_of_mark x)) f x (rest_of_line (s ++ more))) h.0
    ∙ ap (lexed_by kind.Symbol f x) line
    ∙ ap (λ (k : ℕ). lexed (symbol_tells (x ∷ take k (s ++ rest_of_line more))) k) run
    ∙ ap (λ (u : List ℕ). lexed (symbol_tells (x ∷ u)) (length s)) (take_at s (rest_of_line more) (length s) refl)

symbol_passed : (n : ℕ) (f : Bool) (x : ℕ) (s more : List ℕ) → is_blank x ≡ false → EachByte is_symbol (x ∷ s) → Stops is_symbol more → tokens_from 0 n f ((x ∷ s) ++ more) ≡ token_if n (symbol_tells (x ∷ s)) ++ tokens_from 0 n false more
symbol_passed n f x s more plain h stops =
    let feed : x ≢ 10 = fails_other is_symbol x 10 h.0 refl in
    begun n f x (s ++ more)
    ∙ ap (λ (l : Lexed). token_if n l.tells ++ tokens_from l.more (line_after n x) (x == 10) (s ++ more)) (symbol_begins f x s more plain h stops)
    ∙ ap (λ (k : Bool). token_if n (symbol_tells (x ∷ s)) ++ tokens_from (length s) (cond k (one_more n) n) k (s ++ more)) (differs x 10 feed)
    ∙ ap (λ (ts : List Token). token_if n (symbol_tells (x ∷ s)) ++ ts) (over s more n (on_line_by is_symbol s refl h.1))

score_is_symbol : (b : ℕ) → is_score_symbol b ≡ true → is_symbol b ≡ true
score_is_symbol b h = grind (arith, nat_tests)

score_is_plain : (b : ℕ) → is_score_symbol b ≡ true → is_blank b ≡ false
score_is_plain b h = grind (arith, nat_tests)

pub score_symbol_passed : (n : ℕ) (f : Bool) (s more : List ℕ) → EachByte is_score_symbol s → 0 < length s → Stops is_symbol more → tokens_from 0 n f (s ++ more) ≡ token_if n (symbol_tells s) ++ tokens_from 0 n false more
score_symbol_passed n f [] more h some stops = absurd (omega arith)
score_symbol_passed n f (x ∷ s) more h some stops =
    symbol_passed n f x s more (score_is_plain x h.0) (each_weaker is_score_symbol is_symbol (x ∷ s) score_is_symbol h) stops

-- what parts tokens begins with no symbol
parting_is_plain : (b : ℕ) → is_parting b ≡ true → is_symbol b ≡ false
parting_is_plain b h = grind (arith, nat_tests)

pub parting_stops : (s more : List ℕ) → EachByte is_parting s → 0 < length s → Stops is_symbol (s ++ more)
parting_stops [] more h some = absurd (omega arith)
parting_stops (b ∷ s) more h some = parting_is_plain b h.0

-- ---- the numbers of moves

digit_is_score : (b : ℕ) → is_digit b ≡ true → is_score_symbol b ≡ true
digit_is_score b h = grind (arith, nat_tests)

all_digits : (s : List ℕ) → EachByte is_digit s → run_len is_digit s ≡ length s
all_digits s h = ap (run_len is_digit) (sym (append-nil s)) ∙ run_append is_digit s [] h tt

number_tells : (s : List ℕ) → EachByte is_digit s → s ≢ codes "0000" → symbol_tells s ≡ None
number_tells s h other =
    let same : (run_len is_digit s == length s) ≡ true = ap (λ (k : ℕ). k == length s) (all_digits s h) ∙ equal_same (length s) in
    let null : bytes_eq s (codes "0000") ≡ false = false_from_ne_true (bytes_eq s (codes "0000")) (λ e. other ((bytes_eq-Decides s (codes "0000")).0 e)) in
    rw (same, null) refl
  where
    equal_same : (n : ℕ) → (n == n) ≡ true
    equal_same n = grind (arith, nat_tests)

period_parts : (b : ℕ) → b ≡ 46 → is_parting b ≡ true
period_parts b h = ap is_parting h

pub periods_part : (s : List ℕ) → AllByRecursion (λ b. b ≡ 46) s → EachByte is_parting s
periods_part [] h = tt
periods_part (b ∷ s) h = (period_parts b h.0, periods_part s h.1)

-- a number tells nothing
pub number_passed : (number more : List ℕ) (n : ℕ) (f : Bool) → SpellsMoveNumber number → (g : Bool) × (tokens_from 0 n f (number ++ more) ≡ tokens_from 0 (line_behind n number) g more)
number_passed number more n f h =
    let parting = h.periods ++ h.white in
    let parts : EachByte is_parting parting = each_append is_parting h.periods h.white (periods_part h.periods h.dots) (parting_white h.white h.spaces) in
    let apart : 0 < length parting = omega (arith, length-append h.periods h.white, h.apart) in
    let digits = h.number.0 in
    let symbols = each_weaker is_digit is_score_symbol h.digits digit_is_score digits in
    let line : line_behind n number ≡ line_behind n parting = ap (line_behind n) h.text ∙ line_append h.digits parting n ∙ ap (λ (k : ℕ). line_behind k parting) (line_kept h.digits n (on_line_by is_digit h.digits refl digits)) in (
      first_behind false parting,
      ap (λ (s : List ℕ). tokens_from 0 n f (s ++ more)) h.text
          ∙ ap (tokens_from 0 n f) (append_assoc h.digits parting more)
          ∙ score_symbol_passed n f h.digits (parting ++ more) symbols h.number.1 (parting_stops parting more parts apart)
          ∙ ap (λ (o : Option Telling). token_if n o ++ tokens_from 0 n false (parting ++ more)) (number_tells h.digits digits h.number.2)
          ∙ parting_passed parting more n false parts
          ∙ ap (λ (k : ℕ). tokens_from 0 k (first_behind false parting) more) (sym line),
    )

-- ---- results

star_passed : (n : ℕ) (f : Bool) (t : List ℕ) → tokens_from 0 n f (42 ∷ t) ≡ token n (Told Unknown) ∷ tokens_from 0 n false t
unfolding tokens_from lexed_at
star_passed n f t = refl

-- a result before what parts it from other tokens
pub result_passed : (r : GameResult) (n : ℕ) (f : Bool) (more : List ℕ) → r ≢ Missing → Stops is_symbol more → tokens_from 0 n f (result_text r ++ more) ≡ token n (Told r) ∷ tokens_from 0 n false more
result_passed WhiteWins n f more some stops = score_symbol_passed n f (codes "1-0") more (refl, (refl, (refl, tt))) (lit< tt) stops
result_passed BlackWins n f more some stops = score_symbol_passed n f (codes "0-1") more (refl, (refl, (refl, tt))) (lit< tt) stops
result_passed Draw n f more some stops = symbol_passed n f 49 (codes "/2-1/2") more refl (refl, (refl, (refl, (refl, (refl, (refl, (refl, tt))))))) stops
result_passed Unknown n f more some stops = star_passed n f more
result_passed Missing n f more some stops = absurd (some refl)

pub result_on_line : (r : GameResult) → IsOnLine (result_text r)
result_on_line WhiteWins = on_line_by is_symbol (codes "1-0") refl (refl, (refl, (refl, tt)))
result_on_line BlackWins = on_line_by is_symbol (codes "0-1") refl (refl, (refl, (refl, tt)))
result_on_line Draw = on_line_by is_symbol (codes "1/2-1/2") refl (refl, (refl, (refl, (refl, (refl, (refl, (refl, tt)))))))
result_on_line Unknown = on_line_by (λ b. b == 42) (codes "*") refl (refl, tt)
result_on_line Missing = tt

pub result_calm : (r : GameResult) → Calm (result_text r)
result_calm WhiteWins = calm_by is_symbol (codes "1-0") refl (refl, (refl, (refl, tt)))
result_calm BlackWins = calm_by is_symbol (codes "0-1") refl (refl, (refl, (refl, tt)))
result_calm Draw = calm_by is_symbol (codes "1/2-1/2") refl (refl, (refl, (refl, (refl, (refl, (refl, (refl, tt)))))))
result_calm Unknown = calm_by (λ b. b == 42) (codes "*") refl (refl, tt)
result_calm Missing = calm_nil

-- ---- tag pairs

space_is_no_name : (b : ℕ) → is_space b ≡ true → is_name b ≡ false
space_is_no_name b h = grind (arith, nat_tests)

name_is_no_space : (b : ℕ) → is_name b ≡ true → is_space b ≡ false
name_is_no_space b h = grind (arith, nat_tests)

-- a text behind spaces that begins with none
spaces_passed : (spaces t : List ℕ) → EachByte is_space spaces → Stops is_space t → after_spaces (spaces ++ t) ≡ t
spaces_passed spaces t h stops =
    ap (λ (k : ℕ). drop k (spaces ++ t)) (run_append is_space spaces t h stops) ∙ drop_at spaces t (length spaces) refl

plain_closes : (b : ℕ) (t : List ℕ) → (b == 34 || b == 92) ≡ false → closes_at false (b ∷ t) ≡ option_map (λ n. n + 1) (closes_at false t)
unfolding closes_at
plain_closes b t h =
    let quote : (b == 34) ≡ false = grind (arith, nat_tests) in
    let slash : (b == 92) ≡ false = grind (arith, nat_tests) in
    rw (quote, slash) refl

escaped_closes : (b : ℕ) (t : List ℕ) → closes_at false (92 ∷ b ∷ t) ≡ option_map (λ n. n + 1) (option_map (λ n. n + 1) (closes_at false t))
unfolding closes_at
escaped_closes b t = refl

quote_closes : (t : List ℕ) → closes_at false (34 ∷ t) ≡ Some 0
unfolding closes_at
quote_closes t = refl

escaped_cons : (b : ℕ) (t : List ℕ) → escaped_value (b ∷ t) ≡ cond (b == 34 || b == 92) (92 ∷ b ∷ escaped_value t) (b ∷ escaped_value t)
unfolding escaped_value
escaped_cons b t = refl

-- where an escaped value closes, what it says, and that it is on one line
pub record IsEscapedWell (value quoted : List ℕ) : Type 0 where
  pub closes : (t : List ℕ) → closes_at false (quoted ++ 34 ∷ t) ≡ Some (length quoted)
  pub says : unescaped false quoted ≡ value
  pub on_line : IsOnLine quoted

nothing_escaped : IsEscapedWell [] []
unfolding unescaped
nothing_escaped = record { closes = quote_closes; says = refl; on_line = tt }

one_escaped : (k : Bool) (b : ℕ) (value quoted : List ℕ) → (b == 34 || b == 92) ≡ k → b ≢ 10 → IsEscapedWell value quoted → IsEscapedWell (b ∷ value) (cond k (92 ∷ b ∷ quoted) (b ∷ quoted))
unfolding unescaped
one_escaped true b value quoted is feed h = record {
  closes = λ t. escaped_closes b (quoted ++ 34 ∷ t) ∙ ap (λ (o : Option ℕ). option_map (λ n. n + 1) (option_map (λ n. n + 1) o)) (h.closes t) ∙ ap Some (omega arith);
  says = ap (λ (t : List ℕ). b ∷ t) h.says;
  on_line = (λ e. absurd (omega (arith, e)), (feed, h.on_line));
}
one_escaped false b value quoted is feed h = record {
  closes = λ t. plain_closes b (quoted ++ 34 ∷ t) is ∙ ap (option_map (λ n. n + 1)) (h.closes t) ∙ ap Some (omega arith);
  says = rw (no_slash b is) (ap (λ (t : List ℕ). b ∷ t) h.says);
  on_line = (feed, h.on_line);
}
  where
    no_slash : (b : ℕ) → (b == 34 || b == 92) ≡ false → (b == 92) ≡ false
    no_slash b h = grind (arith, nat_tests)

pub escaped_well : (value : List ℕ) → IsOnLine value → IsEscapedWell value (escaped_value value)
unfolding escaped_value
escaped_well [] h = nothing_escaped
escaped_well (b ∷ value) h = one_escaped (b == 34 || b == 92) b value (escaped_value value) refl h.0 (escaped_well value h.1)

-- a tag pair behind its opening bracket, before a text
abbrev pair_before : List ℕ → List ℕ → List ℕ → List ℕ → List ℕ → List ℕ → List ℕ
pair_before before name between quoted behind t =
    before ++ (name ++ (between ++ 34 ∷ (quoted ++ 34 ∷ (behind ++ 93 ∷ t))))

pair_then : (before name between quoted behind t : List ℕ) → pair_before before name between quoted behind [] ++ t ≡ pair_before before name between quoted behind t
pair_then before name between quoted behind t =
    let a = behind ++ 93 ∷ [] in
    let b = quoted ++ 34 ∷ a in
    let c = between ++ 34 ∷ b in
    append_assoc before (name ++ c) t ∙ ap (λ (u : List ℕ). before ++ u) (append_assoc name c t)
    ∙ ap (λ (u : List ℕ). before ++ (name ++ u)) (append_assoc between (34 ∷ b) t)
    ∙ ap (λ (u : List ℕ). before ++ (name ++ (between ++ 34 ∷ u))) (append_assoc quoted (34 ∷ a) t)
    ∙ ap (λ (u : List ℕ). before ++ (name ++ (between ++ 34 ∷ (quoted ++ 34 ∷ u)))) (append_assoc behind (93 ∷ []) t)

stops_by : (has lacks : ℕ → Bool) (s more : List ℕ) → ((b : ℕ) → has b ≡ true → lacks b ≡ false) → EachByte has s → Stops lacks more → Stops lacks (s ++ more)
stops_by has lacks [] more w h stops = stops
stops_by has lacks (b ∷ s) more w h stops = w b h.0

-- the name stands in front
name_in_front : (name t : List ℕ) → EachByte is_name name → 0 < length name → Stops is_name t → pair_from_name (name ++ t) ≡ pair_from_quote name (after_byte 34 (after_spaces t))
name_in_front name t h some stops =
    let run : run_len is_name (name ++ t) ≡ length name = run_append is_name name t h stops in
    let more : (length name == 0) ≡ false = differs (length name) 0 (λ e. absurd (omega arith)) in
    ap (λ (k : ℕ). cond (k == 0) None (pair_from_quote (take k (name ++ t)) (after_byte 34 (after_spaces (drop k (name ++ t)))))) run
    ∙ ap (λ (b : Bool). cond b None (pair_from_quote (take (length name) (name ++ t)) (after_byte 34 (after_spaces (drop (length name) (name ++ t)))))) more
    ∙ ap (λ (u : List ℕ). pair_from_quote u (after_byte 34 (after_spaces (drop (length name) (name ++ t))))) (take_at name t (length name) refl)
    ∙ ap (λ (u : List ℕ). pair_from_quote name (after_byte 34 (after_spaces u))) (drop_at name t (length name) refl)

-- the string, up to its closing quote
string_in_front : (name quoted value t : List ℕ) → IsEscapedWell value quoted → pair_to_quote name (quoted ++ 34 ∷ t) (closes_at false (quoted ++ 34 ∷ t)) ≡ pair_to_bracket (record { name = name; quoted = quoted }) (after_byte 93 (after_spaces t))
string_in_front name quoted value t h =
    let past : drop (length quoted + 1) (quoted ++ 34 ∷ t) ≡ t = ap (drop (length quoted + 1)) (sym (append_assoc quoted (34 ∷ []) t)) ∙ drop_at (quoted ++ 34 ∷ []) t (length quoted + 1) (length-append quoted (34 ∷ [])) in
    ap (pair_to_quote name (quoted ++ 34 ∷ t)) (h.closes t)
    ∙ ap (λ (u : List ℕ). pair_to_bracket (record { name = name; quoted = u }) (after_byte 93 (after_spaces (drop (length quoted + 1) (quoted ++ 34 ∷ t))))) (take_at quoted (34 ∷ t) (length quoted) refl)
    ∙ ap (λ (u : List ℕ). pair_to_bracket (record { name = name; quoted = quoted }) (after_byte 93 (after_spaces u))) past

pair_is : (before name between quoted behind value t : List ℕ) → EachByte is_space before × EachByte is_space between × EachByte is_space behind → EachByte is_name name × (0 < length name) → IsEscapedWell value quoted → tag_pair (pair_before before name between quoted behind t) ≡ Some (record { pair = record { name = name; quoted = quoted }; rest = t })
unfolding tag_pair
pair_is before name between quoted behind value t spaces named well =
    let end = behind ++ 93 ∷ t in
    let string = quoted ++ 34 ∷ end in
    let quotes = between ++ 34 ∷ string in
    let starts : Stops is_space (name ++ quotes) = name_starts name quotes named.0 named.1 in
    ap pair_from_name (spaces_passed before (name ++ quotes) spaces.0 starts)
    ∙ name_in_front name quotes named.0 named.1 (stops_by is_space is_name between (34 ∷ string) space_is_no_name spaces.1 refl)
    ∙ ap (λ (u : List ℕ). pair_from_quote name (after_byte 34 u)) (spaces_passed between (34 ∷ string) spaces.1 refl)
    ∙ string_in_front name quoted value end well
    ∙ ap (λ (u : List ℕ). pair_to_bracket (record { name = name; quoted = quoted }) (after_byte 93 u)) (spaces_passed behind (93 ∷ t) spaces.2 refl)
  where
    name_starts : (name t : List ℕ) → EachByte is_name name → 0 < length name → Stops is_space (name ++ t)
    name_starts [] t h some = absurd (omega arith)
    name_starts (b ∷ name) t h some = name_is_no_space b h.0

pair_on_line : (before name between quoted behind value : List ℕ) → EachByte is_space before × EachByte is_space between × EachByte is_space behind → EachByte is_name name → IsEscapedWell value quoted → IsOnLine (pair_before before name between quoted behind [])
pair_on_line before name between quoted behind value spaces named well =
    let byte : (b : ℕ) → (b == 10) ≡ false → b ≢ 10 = λ b h e. absurd (grind (arith, nat_tests)) in
    let end : IsOnLine (behind ++ 93 ∷ []) = on_line_append behind (93 ∷ []) (on_line_by is_space behind refl spaces.2) (byte 93 refl, tt) in
    let string : IsOnLine (quoted ++ 34 ∷ (behind ++ 93 ∷ [])) = on_line_append quoted (34 ∷ (behind ++ 93 ∷ [])) well.on_line (byte 34 refl, end) in
    let quotes : IsOnLine (between ++ 34 ∷ (quoted ++ 34 ∷ (behind ++ 93 ∷ []))) = on_line_append between _ (on_line_by is_space between refl spaces.1) (byte 34 refl, string) in
    on_line_append before _ (on_line_by is_space before refl spaces.0) (on_line_append name _ (on_line_by is_name name refl named) quotes)

bracket_begins : (f : Bool) (t : List ℕ) → lexed_at f 91 t ≡ lexed_tag f (rest_of_line t) (tag_pair (rest_of_line t))
unfolding lexed_at
bracket_begins f t = refl

-- a tag pair
pub pair_passed : (pair more : List ℕ) (tag : ScoreTag) (n : ℕ) (f : Bool) → SpellsTagPair pair tag → tokens_from 0 n f (pair ++ more) ≡ token n (Tag f (Some (record { name = tag.name; quoted = escaped_value tag.value }))) ∷ tokens_from 0 n false more
pair_passed pair more tag n f h =
    let quoted = escaped_value tag.value in
    let well = escaped_well tag.value h.value in
    let s = pair_before h.before tag.name h.between quoted h.behind [] in
    let on = pair_on_line h.before tag.name h.between quoted h.behind tag.value h.spaces h.name.0 well in
    let told : TagPair = record { name = tag.name; quoted = quoted } in
    let r = rest_of_line more in
    let line : rest_of_line (s ++ more) ≡ s ++ r = rest_append s more on in
    let is : tag_pair (s ++ r) ≡ Some (record { pair = told; rest = r }) =
    ap tag_pair (pair_then h.before tag.name h.between quoted h.behind r) ∙ pair_is h.before tag.name h.between quoted h.behind tag.value r h.spaces h.name well in
    let size : length (s ++ r) - length r ≡ length s = omega (arith, length-append s r) in
    let lexeme : lexed_at f 91 (s ++ more) ≡ lexed (Some (Tag f (Some told))) (length s) =
    bracket_begins f (s ++ more) ∙ ap (λ (l : List ℕ). lexed_tag f l (tag_pair l)) line ∙ ap (lexed_tag f (s ++ r)) is ∙ ap (lexed (Some (Tag f (Some told)))) size in
    ap (λ (u : List ℕ). tokens_from 0 n f (u ++ more)) h.text
    ∙ begun n f 91 (s ++ more)
    ∙ ap (λ (l : Lexed). token_if n l.tells ++ tokens_from l.more n false (s ++ more)) lexeme
    ∙ ap (λ (ts : List Token). token n (Tag f (Some told)) ∷ ts) (over s more n on)

pub pair_line : (pair : List ℕ) (tag : ScoreTag) (n : ℕ) → SpellsTagPair pair tag → line_behind n pair ≡ n
pair_line pair tag n h =
    let well = escaped_well tag.value h.value in
    ap (line_behind n) h.text ∙ line_kept (pair_before h.before tag.name h.between (escaped_value tag.value) h.behind []) n (pair_on_line h.before tag.name h.between (escaped_value tag.value) h.behind tag.value h.spaces h.name.0 well)

pub pair_calm : (pair : List ℕ) (tag : ScoreTag) → SpellsTagPair pair tag → Calm pair
pair_calm pair tag h =
    let well = escaped_well tag.value h.value in
    let on = pair_on_line h.before tag.name h.between (escaped_value tag.value) h.behind tag.value h.spaces h.name.0 well in
    subst Calm (sym h.text) (calm_line 91 (pair_before h.before tag.name h.between (escaped_value tag.value) h.behind []) (λ e. absurd (omega (arith, e))) (λ e. absurd (omega (arith, e))) on)

pub pair_is_on_line : (pair : List ℕ) (tag : ScoreTag) → SpellsTagPair pair tag → IsOnLine pair
pair_is_on_line pair tag h =
    let well = escaped_well tag.value h.value in
    subst IsOnLine (sym h.text) (λ e. absurd (omega (arith, e)), pair_on_line h.before tag.name h.between (escaped_value tag.value) h.behind tag.value h.spaces h.name.0 well)
