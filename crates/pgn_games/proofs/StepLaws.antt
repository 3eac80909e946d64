-- One lexeme of a line, and what it tells of a game.
use Rattle.std.proofs.Common.{◌≡◌, ◌≢◌, ◌∙◌, ℕ, ◌+◌, ◌<◌, ◌≤◌, ◌++◌, Bool, true, false, List, ◌∷◌, length, drop, Option, Some, refl, sym, ap, subst, get_or}
use Rattle.std.specs.Prelude.{◌==◌}
use Rattle.pgn_games.specs.declared.lexeme.Lexeme.{Lexeme}
use Rattle.pgn_games.specs.declared.lexeme.Lexeme.TheVariants as read
use Rattle.pgn_games.specs.Lexemes.{Telling, lexed_in_line}
use Rattle.pgn_games.specs.Tokens.{Token, token, token_if, tokens_from}
use Rattle.pgn_games.specs.Games.{Course, PassesToken, goes_on}
use Rattle.pgn_games.specs.declared.phase.Phase.{Phase}
use Rattle.pgn_games.specs.declared.phase.Phase.TheVariants.{Over}
use Rattle.pgn_games.specs.Inside.Scan.{lexeme_of}
use Rattle.pgn_games.specs.Inside.Lines.{OneLine}
use Rattle.pgn_games.specs.Inside.Steps.{BeginsLine, Continues, IsGameOver, comment_left}
use Rattle.std.proofs.lemmas.List.{at_drop_more}
use Rattle.pgn_games.proofs.CommentLaws.{comment_begins}
use Rattle.pgn_games.proofs.TokenLaws.{lexeme_at}
use Rattle.pgn_games.proofs.GameLaws.{continues_one, continues_same, over_before, over_by_result}

-- what is told of a lexeme that is something
pub some_told : (first : Bool) (l : Lexeme) → (l ≡ read.Nothing → ⊥) → (told : Telling) × (lexeme_of first l ≡ Some told)
some_told first read.Nothing h = absurd (h refl)
some_told first (read.Tag pair) h = (_, refl)
some_told first read.BadTag h = (_, refl)
some_told first (read.MoveText text) h = (_, refl)
some_told first read.Begins h = (_, refl)
some_told first read.Ends h = (_, refl)
some_told first (read.Told result) h = (_, refl)
some_told first read.Stray h = (_, refl)
some_told first read.Endless h = (_, refl)
some_told first read.TooLong h = (_, refl)

-- the tokens of a line and of the text behind it, from a place on
abbrev pub from_place : ℕ → ℕ → List ℕ → List ℕ → List Token
from_place n place s more = tokens_from 0 n (place == 0) (drop place s ++ more)

-- what a lexeme was found to be
pub record Lexes (d : List ℕ) (place len : ℕ) (tells : Option Telling) : Type 0 where
  pub is : tells ≡ (lexed_in_line (place == 0) (get_or d place 0) (drop (place + 1) d)).tells
  pub size : len ≡ (lexed_in_line (place == 0) (get_or d place 0) (drop (place + 1) d)).more + 1
  pub within : place + len ≤ length d
  pub byte : get_or d place 0 < 256

pub lexed_one : (n place len : ℕ) (d s more : List ℕ) (tells : Option Telling) → d ≡ s → OneLine s → BeginsLine more → place < length s → get_or s place 0 ≢ 123 → Lexes d place len tells → from_place n place s more ≡ token_if n tells ++ from_place n (place + len) s more
lexed_one n place len d s more tells e one begins within plain h =
    let l = subst (λ (x : List ℕ). Lexes x place len tells) e h in
    lexeme_at n place len s more one begins within plain l.byte l.size l.within ∙ ap (λ (o : Option Telling). token_if n o ++ from_place n (place + len) s more) (sym l.is)

pub steps_on : (c d : Course) (n : ℕ) (told : Telling) (ts us : List Token) → ts ≡ token n told ∷ us → PassesToken c (token n told) d → (phase : Phase) → phase ≡ c.phase → (on : Bool) → on ≡ true → on ≡ goes_on phase told → Continues c ts d us
steps_on c d n told ts us e h phase same on goes is =
    subst (λ (l : List Token). Continues c l d us) (sym e) (continues_one c d (token n told) us h (sym (ap (λ (p : Phase). goes_on p told) same) ∙ sym is ∙ goes))

pub stops_before : (c : Course) (n : ℕ) (told : Telling) (ts us : List Token) → ts ≡ token n told ∷ us → (phase : Phase) → phase ≡ c.phase → (on : Bool) → on ≡ false → on ≡ goes_on phase told → Continues c ts c ts × IsGameOver c ts
stops_before c n told ts us e phase same on stops is =
    (continues_same c ts ts refl, subst (IsGameOver c) (sym e) (over_before c (token n told) us (sym (ap (λ (p : Phase). goes_on p told) same) ∙ sym is ∙ stops)))

pub over_then : (c : Course) (phase : Phase) (ts : List Token) → phase ≡ c.phase → phase ≡ Over → IsGameOver c ts
over_then c phase ts same over = over_by_result c ts (sym same ∙ over)

-- the brace of a comment at a place of a line
pub at_comment : (n place : ℕ) (s more : List ℕ) → place < length s → get_or s place 0 ≡ 123 → from_place n place s more ≡ comment_left n false n (drop (place + 1) s ++ more)
at_comment n place s more within is =
    ap (λ (l : List ℕ). tokens_from 0 n (place == 0) (l ++ more)) (at_drop_more (λ (l : List ℕ). l) s place 0 within ∙ ap (λ (b : ℕ). b ∷ drop (place + 1) s) is) ∙ comment_begins n (place == 0) (drop (place + 1) s ++ more)
