-- What a token makes of a game.
use Rattle.std.proofs.Common.{◌≡◌, ◌∙◌, ℕ, ◌<◌, Bool, List, Option, Some, None, Result, refl, sym, ap, subst, lt-ltb}
use Rattle.std.specs.Prelude.{nat_lt}
use Rattle.pgn_games.specs.declared.fault.Cause.{Cause}
use Rattle.pgn_games.specs.declared.tags.TagName.{TagName}
use Rattle.pgn_games.specs.declared.tags.TagName.TheVariants.{Fen}
use Rattle.std.specs.Prelude.{MatchOption}
use Rattle.pgn_games.specs.declared.fault.GameFault.{GameFault}
use Rattle.pgn_games.specs.declared.lexeme.Lexeme.{Lexeme}
use Rattle.pgn_games.specs.declared.lexeme.Lexeme.TheVariants as read
use Rattle.pgn_games.specs.declared.tag_pair.TagPair.{TagPair}
use Rattle.pgn_games.specs.Lexemes.{Telling}
use Rattle.pgn_games.specs.Tokens.{token}
use Rattle.pgn_games.specs.Inside.Scan.{IsPlainLexeme}
use Rattle.pgn_games.specs.Games.{Course, PassesToken, TakesToken, passed, course_after_token, SetsStart, SetsTag, ReadsMove, TakesMove}
use Rattle.pgn_games.specs.Inside.Owned.{TakesOrStays, TakesFirst}

-- the tag that sets the start
pub start_set : (c d : Course) (read value : List ℕ) (name : Option TagName) (r : Option Cause) → read ≡ value → name ≡ Some Fen → TakesOrStays (SetsStart c read) c d r → TakesOrStays (SetsTag c value name) c d r
start_set c d read value name r same is h =
    subst (λ (n : Option TagName). TakesOrStays (SetsTag c value n) c d r) (sym is) (subst (λ (v : List ℕ). TakesOrStays (SetsStart c v) c d r) same h)

-- a move where there are fewer than 4,096
pub move_read : (c : Course) (text : List ℕ) (n : ℕ) (r : Result Course Cause) → n < 4096 → ReadsMove c text r → TakesMove c text (nat_lt n 4096) r
move_read c text n r few h = subst (λ (b : Bool). TakesMove c text b r) (sym (lt-ltb n 4096 few)) h

pub plain : (l : Lexeme) → ((pair : TagPair) → l ≡ read.Tag pair → ⊥) → (l ≡ read.BadTag → ⊥) → (l ≡ read.Endless → ⊥) → (l ≡ read.TooLong → ⊥) → IsPlainLexeme l
plain read.Nothing a b c d = tt
plain (read.Tag pair) a b c d = a pair refl
plain read.BadTag a b c d = b refl
plain (read.MoveText text) a b c d = tt
plain read.Begins a b c d = tt
plain read.Ends a b c d = tt
plain (read.Told result) a b c d = tt
plain read.Stray a b c d = tt
plain read.Endless a b c d = c refl
plain read.TooLong a b c d = d refl

passed_at : (fault : Option GameFault) (c m d : Course) (line : ℕ) (told : Telling) → MatchOption fault ((r : Result Course Cause) × TakesToken c told r × (m ≡ course_after_token c line r)) (λ f. m ≡ c) → d ≡ passed m (token line told) → MatchOption fault ((r : Result Course Cause) × TakesToken c told r × (d ≡ passed (course_after_token c line r) (token line told))) (λ f. d ≡ passed c (token line told))
passed_at None c m d line told h e = (h.0, h.1, e ∙ ap (λ x. passed x (token line told)) h.2)
passed_at (Some f) c m d line told h e = e ∙ ap (λ x. passed x (token line told)) h

-- a token is taken, and then passed
pub passes : (c m d : Course) (line : ℕ) (told : Telling) → TakesFirst c line told m → d ≡ passed m (token line told) → PassesToken c (token line told) d
passes c m d line told h e = passed_at c.fault c m d line told h e
