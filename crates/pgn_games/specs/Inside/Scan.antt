-- What slices of a line stand for. Only private contracts cite these words.
use Rattle.std.specs.Prelude.{◌≡◌, Bool, Option, Some, None}
use Rattle.pgn_games.specs.declared.lexeme.Lexeme.{Lexeme as Read}
use Rattle.pgn_games.specs.declared.lexeme.Lexeme.TheVariants as read
use Rattle.pgn_games.specs.declared.tag_pair.TagPair.{TagPair as ReadPair}
use Rattle.pgn_games.specs.Tags.{TagAndRest}
use Rattle.pgn_games.specs.Lexemes.{Telling, Tag, MoveText, Begins, Ends, Told, Stray, Endless, TooLong}

-- a tag pair that was read
abbrev pub pair_read : ReadPair → TagAndRest
pair_read pair = record { pair = record { name = pair.name.now; quoted = pair.quoted.now }; rest = pair.rest.now }

-- what a lexeme tells that was read, in the first column or not
abbrev pub lexeme_of : Bool → Read → Option Telling
lexeme_of first read.Nothing = None
lexeme_of first (read.Tag pair) = Some (Tag first (Some (record { name = pair.name.now; quoted = pair.quoted.now })))
lexeme_of first read.BadTag = Some (Tag first None)
lexeme_of first (read.MoveText text) = Some (MoveText text.now)
lexeme_of first read.Begins = Some Begins
lexeme_of first read.Ends = Some Ends
lexeme_of first (read.Told result) = Some (Told result)
lexeme_of first read.Stray = Some Stray
lexeme_of first read.Endless = Some Endless
lexeme_of first read.TooLong = Some TooLong

-- of what a lexeme tells, in the first column or not, this is so
abbrev pub ForTold : Read → (Telling → Type 0) → Type 0
ForTold lexeme P = (first : Bool) (told : Telling) → lexeme_of first lexeme ≡ Some told → P told

-- no tag and no fault
abbrev pub IsPlainLexeme : Read → Type 0
IsPlainLexeme read.Nothing = Unit {0}
IsPlainLexeme (read.Tag pair) = ⊥
IsPlainLexeme read.BadTag = ⊥
IsPlainLexeme (read.MoveText text) = Unit {0}
IsPlainLexeme read.Begins = Unit {0}
IsPlainLexeme read.Ends = Unit {0}
IsPlainLexeme (read.Told result) = Unit {0}
IsPlainLexeme read.Stray = Unit {0}
IsPlainLexeme read.Endless = ⊥
IsPlainLexeme read.TooLong = ⊥
