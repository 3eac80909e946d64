-- What is read of an input tells a game.
use Rattle.std.proofs.Common.{◌≡◌, ◌∙◌, ℕ, ◌≤◌, ◌++◌, Bool, true, false, List, [], ◌∷◌, length, Option, Some, None, refl, sym, ap, subst}
use Rattle.std.specs.Prelude.{◌==◌, option_map}
use Rattle.board_core.specs.declared.parts.Parts.{Parts}
use Rattle.fen_text.specs.Written.{fen_of}
use Rattle.pgn_games.specs.declared.cursor.Cursor.{Cursor}
use Rattle.pgn_games.specs.declared.cursor.Next.{Next}
use Rattle.pgn_games.specs.declared.cursor.Next.TheVariants.{GoesOn, Stops}
use Rattle.pgn_games.specs.declared.lines.Taken.TheVariants.{Line, LongLine, Nothing}
use Rattle.pgn_games.specs.Lines.{read_text}
use Rattle.pgn_games.specs.Lexemes.{Endless, TooLong, lexed_at}
use Rattle.pgn_games.specs.Tokens.{Token, token, tokens_from}
use Rattle.board_core.specs.Position.{IsPosition}
use Rattle.pgn_games.specs.Games.{Course, PassesToken, ReadingTold, ReadsGame, ReadsTokens, no_course, of_game, reading_at_end, usual_start}
use Rattle.pgn_games.specs.Reading.{IfKnown, tokens_with}
use Rattle.pgn_games.specs.Inside.Steps.{Continues, IsOn, IsGameOver, TakesText, ReadsToEnd, TellsOn, comment_left, rest_with}
use Rattle.pgn_games.proofs.TokenLaws.{feed_passed, none_left}
use Rattle.pgn_games.proofs.CommentLaws.{comment_endless, comment_feed, comment_too_long}
use Rattle.pgn_games.proofs.GameLaws.{continues_one, continues_then, goes_on_by, over_at_end, still_on}
use Rattle.std.proofs.lemmas.List.{drop_all}
use Rattle.pgn_games.proofs.StartLaws.{is_usual_start}

pub known_same : {A : Type 0} (a : Option A) (P : A → A → Type 0) → ((x : A) → P x x) → IfKnown a a P
known_same None P h = tt
known_same (Some x) P h = h x

pub known_map : {A : Type 0} (a b : Option A) (P Q : A → A → Type 0) → ((x y : A) → P x y → Q x y) → IfKnown a b P → IfKnown a b Q
known_map None b P Q h k = tt
known_map (Some x) None P Q h k = k
known_map (Some x) (Some y) P Q h k = h x y k

pub known_then : {A : Type 0} (a b c : Option A) (P Q R : A → A → Type 0) → ((x y z : A) → P x y → Q y z → R x z) → IfKnown a b P → IfKnown b c Q → IfKnown a c R
known_then None b c P Q R h k m = tt
known_then (Some x) None c P Q R h k m = absurd k
known_then (Some x) (Some y) None P Q R h k m = absurd m
known_then (Some x) (Some y) (Some z) P Q R h k m = h x y z k m

-- a fault is put
pub continues_fault : (c d : Course) (n : ℕ) (us : List Token) → IsOn c.phase → PassesToken c (token n TooLong) d → Continues c (token n TooLong ∷ us) d us
continues_fault c d n us on h = continues_one c d (token n TooLong) us h (goes_on_by c.phase TooLong on refl)

pub continues_endless : (c d : Course) (n : ℕ) (us : List Token) → IsOn c.phase → PassesToken c (token n Endless) d → Continues c (token n Endless ∷ us) d us
continues_endless c d n us on h = continues_one c d (token n Endless) us h (goes_on_by c.phase Endless on refl)

pub on_after_fault : (c d : Course) (n : ℕ) → IsOn c.phase → PassesToken c (token n TooLong) d → IsOn d.phase
on_after_fault c d n on h = still_on c d (token n TooLong) h refl on

pub on_after_endless : (c d : Course) (n : ℕ) → IsOn c.phase → PassesToken c (token n Endless) d → IsOn d.phase
on_after_endless c d n on h = still_on c d (token n Endless) h refl on

-- the next line within a comment
pub comment_line : (from : ℕ) (long : Bool) (old new : Cursor) (o n : List ℕ) → TakesText old new Line o n → comment_left from long old.number (rest_with old (read_text o)) ≡ comment_left from long new.number (rest_with new (read_text n))
comment_line from long old new o n h =
    ap (comment_left from long old.number) h.0 ∙ comment_feed from long old.number (rest_with new (read_text n)) ∙ ap (λ (k : ℕ). comment_left from long k (rest_with new (read_text n))) (sym h.1)

pub comment_long_line : (from : ℕ) (long : Bool) (old new : Cursor) (o n : List ℕ) → TakesText old new LongLine o n → comment_left from long old.number (rest_with old (read_text o)) ≡ comment_left from true new.number (rest_with new (read_text n))
comment_long_line from long old new o n h =
    ap (comment_left from long old.number) h.0 ∙ comment_too_long from long old.number (rest_with new (read_text n)) ∙ ap (λ (k : ℕ). comment_left from true k (rest_with new (read_text n))) (sym h.1)

pub comment_at_end : (from : ℕ) (long : Bool) (old new : Cursor) (o n : List ℕ) → TakesText old new Nothing o n → comment_left from long old.number (rest_with old (read_text o)) ≡ token from Endless ∷ tokens_with new (read_text n)
comment_at_end from long old new o n h =
    ap (comment_left from long old.number) h.0 ∙ comment_endless from long old.number
    ∙ ap (λ (ts : List Token). token from Endless ∷ ts) (sym (ap (tokens_from 0 new.number (new.place == 0)) h.1 ∙ none_left 0 new.number (new.place == 0)))

-- the next line outside of comments
pub next_line : (old new : Cursor) (o n : List ℕ) → TakesText old new Line o n → tokens_with old (read_text o) ≡ tokens_with new (read_text n)
next_line old new o n h =
    ap (tokens_from 0 old.number (old.place == 0)) h.0 ∙ feed_passed old.number (old.place == 0) (rest_with new (read_text n))
    ∙ ap (λ (k : ℕ). tokens_from 0 k true (rest_with new (read_text n))) (sym h.1)
    ∙ ap (λ (k : ℕ). tokens_from 0 new.number (k == 0) (rest_with new (read_text n))) (sym h.2)

too_long : (n : ℕ) (t : List ℕ) → tokens_from 0 n true (256 ∷ t) ≡ token n TooLong ∷ tokens_from 0 n false t
unfolding tokens_from lexed_at
too_long n t = refl

pub next_long_line : (old new : Cursor) (o n : List ℕ) → TakesText old new LongLine o n → tokens_with old (read_text o) ≡ token new.number TooLong ∷ tokens_with new (read_text n)
next_long_line old new o n h =
    ap (tokens_from 0 old.number (old.place == 0)) h.0 ∙ feed_passed old.number (old.place == 0) (256 ∷ rest_with new (read_text n))
    ∙ ap (λ (k : ℕ). tokens_from 0 k true (256 ∷ rest_with new (read_text n))) (sym h.1)
    ∙ too_long new.number (rest_with new (read_text n))
    ∙ ap (λ (k : ℕ). token new.number TooLong ∷ tokens_from 0 new.number (k == 0) (rest_with new (read_text n))) (sym h.2)

pub no_line : (old new : Cursor) (o n : List ℕ) → TakesText old new Nothing o n → tokens_with old (read_text o) ≡ tokens_with new (read_text n)
no_line old new o n h =
    ap (tokens_from 0 old.number (old.place == 0)) h.0 ∙ none_left 0 old.number (old.place == 0)
    ∙ sym (ap (tokens_from 0 new.number (new.place == 0)) h.1 ∙ none_left 0 new.number (new.place == 0))

pub over_without_line : (c : Course) (old new : Cursor) (o n : List ℕ) → TakesText old new Nothing o n → IsGameOver c (tokens_with new (read_text n))
over_without_line c old new o n h =
    over_at_end c _ (ap (tokens_from 0 new.number (new.place == 0)) h.1 ∙ none_left 0 new.number (new.place == 0))

pub past_line : (cursor : Cursor) (more : List ℕ) → length cursor.line.items ≤ cursor.place → rest_with cursor more ≡ more
past_line cursor more past = ap (λ (x : List ℕ). x ++ more) (drop_all cursor.place cursor.line.items past)

tells_nil : (c : Course) → ReadsTokens c [] (reading_at_end c)
unfolding ReadsTokens
tells_nil c = refl

tells_nothing : (c : Course) (ts : List Token) → ts ≡ [] → ReadsTokens c ts (reading_at_end c)
tells_nothing c ts e = subst (λ (l : List Token). ReadsTokens c l (reading_at_end c)) (sym e) (tells_nil c)

-- a game that is over is read
pub game_read : (usual : Parts) (c : Course) (ts us : List Token) → usual_start ≡ fen_of usual → IsPosition usual → Continues (no_course usual) ts c us → IsGameOver c us → ReadsGame ts (reading_at_end c) us
game_read usual c ts us spelled position h over = record {
  usual = usual;
  is_usual = is_usual_start usual spelled position;
  tells = h.told (reading_at_end c) (tells_nothing c (of_game c.phase us) over.none);
  rest = sym over.all ∙ h.rest;
}

pub joined : {A B : Type 0} (a x : A) (b y : B) (P : A → B → Type 0) → x ≡ a → y ≡ b → P a b → P x y
joined a x b y P ax by_b h = subst (P x) (sym by_b) (subst (λ z. P z b) (sym ax) h)

-- a comment's line that doesn't close it
pub not_closed : (from : ℕ) (long : Bool) (old new : Cursor) (more : List ℕ) → length new.line.items ≤ new.place → comment_left from long old.number (rest_with old more) ≡ comment_left from long new.number more → comment_left from long old.number (rest_with old more) ≡ comment_left from long new.number (rest_with new more)
not_closed from long old new more past h = h ∙ ap (comment_left from long new.number) (sym (past_line new more past))

pub told_over : (c d : Course) (ts us : List Token) → Continues c ts d us → IsGameOver d us → ReadsToEnd c ts d us
told_over c d ts us h over = (h, over)

pub tells_then : (next : Next) (c d e : Course) (ts us vs : List Token) → Continues c ts d us → TellsOn next d us e vs → TellsOn next c ts e vs
tells_then GoesOn c d e ts us vs h k = continues_then c d e ts us vs h k
tells_then Stops c d e ts us vs h k = (continues_then c d e ts us vs h k.0, k.1)

pub known_of : {A B : Type 0} (f g : A → B) (a b : Option A) (P : A → A → Type 0) (Q : B → B → Type 0) → ((x y : A) → P x y → Q (f x) (g y)) → IfKnown a b P → IfKnown (option_map f a) (option_map g b) Q
known_of f g None b P Q h k = tt
known_of f g (Some x) None P Q h k = k
known_of f g (Some x) (Some y) P Q h k = h x y k

pub reading_told : (usual : Parts) (first c : Course) (ts us : List Token) (told : Option ReadingTold) → usual_start ≡ fen_of usual → IsPosition usual → first ≡ no_course usual → told ≡ reading_at_end c → ReadsToEnd first ts c us → ReadsGame ts told us
reading_told usual first c ts us told spelled position begun is h =
    subst (λ (t : Option ReadingTold). ReadsGame ts t us) (sym is) (game_read usual c ts us spelled position (subst (λ (f : Course). Continues f ts c us) begun h.0) h.1)
