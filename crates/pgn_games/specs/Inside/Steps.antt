-- How the code goes on over the text of a game. Only private contracts cite these words.
use Rattle.std.specs.Prelude.{◌≡◌, ◌≤◌, ◌==◌, ◌||◌, ◌++◌, ℕ, Bool, false, List, [], ◌∷◌, length, drop, Option, Some, None, MatchBool, if◌then◌else◌}
use Rattle.pgn_games.specs.declared.course.Course.{Course as ReadCourse}
use Rattle.pgn_games.specs.declared.cursor.Cursor.{Cursor}
use Rattle.pgn_games.specs.declared.cursor.Next.{Next}
use Rattle.pgn_games.specs.declared.cursor.Next.TheVariants.{GoesOn, Stops}
use Rattle.pgn_games.specs.declared.cursor.Left.{Left}
use Rattle.pgn_games.specs.declared.cursor.Left.TheVariants.{AtEnd, InComment, GameOver}
use Rattle.pgn_games.specs.declared.telling.Closing.{Closing}
use Rattle.pgn_games.specs.declared.telling.Closing.TheVariants.{Whole, WithLongLine, Never}
use Rattle.pgn_games.specs.declared.lines.Taken.{Taken}
use Rattle.pgn_games.specs.declared.lines.Taken.TheVariants.{Line, LongLine, Nothing}
use Rattle.pgn_games.specs.Lines.{one_more, read_text, text_of_line}
use Rattle.pgn_games.specs.declared.phase.Phase.{Phase}
use Rattle.pgn_games.specs.declared.phase.Phase.TheVariants.{Tags, Moves, Over}
use Rattle.pgn_games.specs.Lexemes.{Endless, TooLong}
use Rattle.pgn_games.specs.Tokens.{Token, line_after, token, token_if, tokens_from}
use Rattle.pgn_games.specs.Games.{Course, ReadingTold, ReadsTokens, behind_game, of_game}
use Rattle.pgn_games.specs.Reading.{IfKnown, tokens_with}
use Rattle.pgn_games.specs.Inside.Owned.{course_of}
use Rattle.timeline.specs.Outsides.{Outside}

-- a text that begins with a line feed, or is empty
abbrev pub BeginsLine : List ℕ → Type 0
BeginsLine [] = Unit {0}
BeginsLine (b ∷ t) = b ≡ 10

-- a comment that began on a line and comes to a line that is too long, or not, tells this when it is closed
abbrev pub comment_closed : ℕ → Bool → List Token
comment_closed from long = token_if from (if long then Some TooLong else None)

-- the tokens of a text within such a comment
unfoldable pub comment_left : ℕ → Bool → ℕ → List ℕ → List Token
comment_left from long line [] = token from Endless ∷ []
comment_left from long line (b ∷ t) =
    if b == 125 then comment_closed from long ++ tokens_from 0 line false t else comment_left from (long || b == 256) (line_after line b) t

-- a game isn't over
abbrev pub IsOn : Phase → Type 0
IsOn Tags = Unit {0}
IsOn (Moves depth) = Unit {0}
IsOn Over = ⊥

-- what tokens tell of a game goes on with what others tell of it, and behind it stands the same
pub record Continues (c : Course) (ts : List Token) (d : Course) (us : List Token) : Type 0 where
  pub told : (x : Option ReadingTold) → ReadsTokens d (of_game d.phase us) x → ReadsTokens c (of_game c.phase ts) x
  pub rest : behind_game d.phase us ≡ behind_game c.phase ts

-- no token belongs to the game any more
pub record IsGameOver (c : Course) (ts : List Token) : Type 0 where
  pub none : of_game c.phase ts ≡ []
  pub all : behind_game c.phase ts ≡ ts

-- the rest of a line, and the text behind it
abbrev pub rest_with : Cursor → List ℕ → List ℕ
rest_with cursor more = drop cursor.place cursor.line.items ++ more

-- the rest of the line closes a comment, or none of it does
abbrev pub ClosesComment : Cursor → Cursor → Bool → Type 0
ClosesComment old new result =
    (from : ℕ) (long : Bool) (more : List ℕ) → MatchBool result (comment_left from long old.number (rest_with old more) ≡ comment_closed from long ++ tokens_with new more) (comment_left from long old.number (rest_with old more) ≡ comment_left from long new.number more)

-- a lexeme is passed, or the game is over
abbrev pub StepsOverLexeme : Course → Cursor → Course → Cursor → Next → Type 0
StepsOverLexeme c old d new GoesOn =
    (more : List ℕ) → BeginsLine more → Continues c (tokens_with old more) d (tokens_with new more)
StepsOverLexeme c old d new Stops =
    (more : List ℕ) → BeginsLine more → Continues c (tokens_with old more) d (tokens_with new more) × IsGameOver d (tokens_with new more)

-- a line is passed to its end, to a comment that isn't closed on it, or to where the game is over
abbrev pub LeavesLine : Course → Cursor → Course → Cursor → Left → Type 0
LeavesLine c old d new AtEnd =
    (length new.line.items ≤ new.place) × ((more : List ℕ) → BeginsLine more → Continues c (tokens_with old more) d (tokens_with new more))
LeavesLine c old d new InComment =
    (length new.line.items ≤ new.place) × ((more : List ℕ) → BeginsLine more → Continues c (tokens_with old more) d (comment_left new.number false new.number more))
LeavesLine c old d new GameOver =
    (more : List ℕ) → BeginsLine more → Continues c (tokens_with old more) d (tokens_with new more) × IsGameOver d (tokens_with new more)

-- a line that was read is begun, behind the one of this number
abbrev pub BeginsAs : List ℕ → ℕ → Cursor → Taken → Type 0
BeginsAs line number new Line =
    (new.line.items ≡ text_of_line line) × (new.number ≡ one_more number) × (new.place ≡ 0)
BeginsAs line number new LongLine =
    (text_of_line line ≡ 256 ∷ []) × (new.line.items ≡ []) × (new.number ≡ one_more number) × (new.place ≡ 1)
BeginsAs line number new Nothing = ⊥

-- the next line, in front of which stands a line feed; one that is too long; or the end of the text
abbrev pub TakesText : Cursor → Cursor → Taken → List ℕ → List ℕ → Type 0
TakesText old new Line left behind =
    (rest_with old (read_text left) ≡ 10 ∷ rest_with new (read_text behind)) × (new.number ≡ one_more old.number) × (new.place ≡ 0)
TakesText old new LongLine left behind =
    (rest_with old (read_text left) ≡ 10 ∷ 256 ∷ rest_with new (read_text behind)) × (new.number ≡ one_more old.number) × (new.place ≡ 1)
TakesText old new Nothing left behind =
    (rest_with old (read_text left) ≡ []) × (rest_with new (read_text behind) ≡ [])

-- the next line is read from its first column; otherwise nothing is left of it
abbrev pub StandsAtLine : Cursor → Taken → Type 0
StandsAtLine new Line = new.place ≡ 0
StandsAtLine new LongLine = length new.line.items ≤ new.place
StandsAtLine new Nothing = length new.line.items ≤ new.place

-- a game is told to its end
abbrev pub ReadsToEnd : Course → List Token → Course → List Token → Type 0
ReadsToEnd c ts d us = Continues c ts d us × IsGameOver d us

-- a game goes on, or is told to its end
abbrev pub TellsOn : Next → Course → List Token → Course → List Token → Type 0
TellsOn GoesOn c ts d us = Continues c ts d us
TellsOn Stops c ts d us = ReadsToEnd c ts d us

-- what a comment tells that began on a line
abbrev pub closing_tokens : ℕ → Closing → List Token
closing_tokens from Whole = []
closing_tokens from WithLongLine = token from TooLong ∷ []
closing_tokens from Never = token from Endless ∷ []

-- ---- what a call does with the lines of an input, where their bytes are known

module _ {T P F K S L : Type 0} (o : Outside T P F K S L) (lines lines' : L) (cursor cursor' : Cursor) where
  -- the next line is taken
  abbrev pub TakesIn : Taken → Type 0
  TakesIn taken = IfKnown (o.lines lines).left (o.lines lines').left (TakesText cursor cursor' taken)

  -- a comment is passed that ends so, on whichever line it began
  abbrev pub ClosesIn : Closing → Type 0
  ClosesIn closing =
      (from : ℕ) → IfKnown (o.lines lines).left (o.lines lines').left (λ left behind. comment_left from false cursor.number (rest_with cursor (read_text left)) ≡ closing_tokens from closing ++ tokens_with cursor' (read_text behind))

  -- the rest of a comment is told
  abbrev pub PassesIn : ReadCourse → ReadCourse → Type 0
  PassesIn course course' =
      IfKnown (o.lines lines).left (o.lines lines').left (λ left behind. Continues (course_of course) (comment_left cursor.number false cursor.number (rest_with cursor (read_text left))) (course_of course') (tokens_with cursor' (read_text behind)))

  -- a game goes on, or is told to its end
  abbrev pub TellsOnIn : ReadCourse → ReadCourse → Next → Type 0
  TellsOnIn course course' next =
      IfKnown (o.lines lines).left (o.lines lines').left (λ left behind. TellsOn next (course_of course) (tokens_with cursor (read_text left)) (course_of course') (tokens_with cursor' (read_text behind)))

  -- a game is told to its end
  abbrev pub EndsIn : ReadCourse → ReadCourse → Type 0
  EndsIn course course' =
      IfKnown (o.lines lines).left (o.lines lines').left (λ left behind. ReadsToEnd (course_of course) (tokens_with cursor (read_text left)) (course_of course') (tokens_with cursor' (read_text behind)))
