-- What values that own memory show. Only private contracts cite these words.
use Rattle.std.specs.Prelude.{◌≡◌, ℕ, List, Option, Some, None, Result, Ok, Err, MatchOption, nat_lt, vec_len}
use Rattle.pgn_games.specs.declared.course.Course.{Course as ReadCourse}
use Rattle.pgn_games.specs.declared.fault.Cause.{Cause}
use Rattle.pgn_games.specs.declared.tag_pair.TagPair.{TagPair as ReadPair}
use Rattle.pgn_games.specs.Shown.{texts_of}
use Rattle.pgn_games.specs.Tags.{tag_by_name, tag_value}
use Rattle.pgn_games.specs.Lexemes.{Telling}
use Rattle.pgn_games.specs.Games.{Course, SetsTag, TakesMove, TakesTag, TakesToken, course_after_token}
use Rattle.pgn_games.specs.Inside.Scan.{pair_read}

-- what the tokens of a game tell so far
abbrev pub course_of : ReadCourse → Course
course_of c = record {
  line = c.line;
  last = c.last;
  tags = texts_of c.tags;
  start = c.start;
  position = c.position;
  moves = c.moves.items;
  phase = c.phase;
  result = c.result;
  fault = c.fault;
}

-- what is told is taken, or is at fault and changes nothing
abbrev pub TakesOrStays : (Result Course Cause → Type 0) → Course → Course → Option Cause → Type 0
TakesOrStays IsTaken old new None = IsTaken (Ok new)
TakesOrStays IsTaken old new (Some cause) = IsTaken (Err cause) × (new ≡ old)

-- a tag pair sets its tag, where it is one that is kept, or is at fault
abbrev pub SetsTagOf : ReadPair → ReadCourse → ReadCourse → Option Cause → Type 0
SetsTagOf pair old new =
    TakesOrStays (SetsTag (course_of old) (tag_value pair.quoted.now) (tag_by_name pair.name.now)) (course_of old) (course_of new)

-- so it is before the movetext; elsewhere it is at fault
abbrev pub TakesTagOf : ReadPair → ReadCourse → ReadCourse → Option Cause → Type 0
TakesTagOf pair old new =
    TakesOrStays (TakesTag (course_of old) old.phase (Some (pair_read pair).pair)) (course_of old) (course_of new)

-- a text is played as a move, or is at fault
abbrev pub TakesMoveOf : List ℕ → ReadCourse → ReadCourse → Option Cause → Type 0
TakesMoveOf text old new =
    TakesOrStays (TakesMove (course_of old) text (nat_lt (vec_len old.moves) 4096)) (course_of old) (course_of new)

-- before the first fault a lexeme is taken, or is this fault
abbrev pub TakesFirst : Course → ℕ → Telling → Course → Type 0
TakesFirst old line told new =
    MatchOption old.fault ((r : Result Course Cause) × TakesToken old told r × (new ≡ course_after_token old line r)) (λ fault. new ≡ old)
