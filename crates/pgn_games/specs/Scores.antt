-- What writers of PGN write (PGN standard, sections 3, 7, 8.1 and 8.2): scores of games, one after another. A score is its tag pairs, its
-- movetext and its result, with any white space between the tokens. It has no comments, no variations and no glyphs.
use Rattle.std.specs.Prelude.{◌≡◌, ◌≢◌, ◌+◌, ◌<◌, ◌≤◌, ◌==◌, ◌||◌, ◌++◌, ◌⊎◌, ℕ, Bool, true, List, [], ◌∷◌, length, take, Option, Some, None, codes, if◌then◌else◌}
use Rattle.std.specs.List.{AllByRecursion, AllZip, flat_map}
use Rattle.board_core.specs.declared.parts.Parts.{Parts}
use Rattle.board_core.specs.declared.moves.Move.{Move}
use Rattle.board_core.specs.Position.{IsPosition}
use Rattle.board_core.specs.Moves.{Legal}
use Rattle.fen_text.specs.Fen.{SpellsPosition}
use Rattle.san_text.specs.San.{ReadsSan}
use Rattle.pgn_games.specs.declared.game.GameResult.{GameResult}
use Rattle.pgn_games.specs.declared.game.GameResult.TheVariants.{WhiteWins, BlackWins, Draw, Unknown, Missing}
use Rattle.pgn_games.specs.declared.tags.TagName.{TagName}
use Rattle.pgn_games.specs.declared.tags.TagName.TheVariants.{Fen}
use Rattle.pgn_games.specs.Bytes.{is_digit, is_letter, is_name, is_space}
use Rattle.pgn_games.specs.Lines.{lines_of_text}
use Rattle.pgn_games.specs.Tags.{TagTexts, tag_by_name, no_tags, with_tag}
use Rattle.pgn_games.specs.Tokens.{line_after}
use Rattle.pgn_games.specs.Games.{GameRead, ReadingTold, IsUsualStart, SpellsGames}

-- a tag of a score: its name, and its value without escapes
pub record ScoreTag : Type 0 where
  pub name : List ℕ
  pub value : List ℕ

-- the score of a game: its tags, the position at which it begins, its moves and its result
pub record GameScore : Type 0 where
  pub tags : List ScoreTag
  pub start : Parts
  pub moves : List Move
  pub result : GameResult

-- each byte passes
abbrev pub EachByte : (ℕ → Bool) → List ℕ → Type 0
EachByte test bytes = AllByRecursion (λ b. test b ≡ true) bytes

-- a byte of white space: a space or a line feed
abbrev pub is_white : ℕ → Bool
is_white b = is_space b || b == 10

-- what parts two tokens: white space, of one byte at least
abbrev pub PartsTokens : List ℕ → Type 0
PartsTokens bytes = EachByte is_white bytes × (0 < length bytes)

-- ---- tag pairs (section 8.1)

-- a value within quotes: a backslash stands before each quote and each backslash
unfoldable pub escaped_value : List ℕ → List ℕ
escaped_value [] = []
escaped_value (b ∷ t) = if b == 34 || b == 92 then 92 ∷ b ∷ escaped_value t else b ∷ escaped_value t

-- a tag pair on one line, with any spaces before its name, behind it and before the closing bracket
pub record SpellsTagPair (bytes : List ℕ) (tag : ScoreTag) : Type 0 where
  pub before : List ℕ
  pub between : List ℕ
  pub behind : List ℕ
  pub spaces : EachByte is_space before × EachByte is_space between × EachByte is_space behind
  pub name : EachByte is_name tag.name × (0 < length tag.name)
  pub value : AllByRecursion (λ b. b ≢ 10) tag.value
  pub text : bytes ≡ 91 ∷ (before ++ (tag.name ++ (between ++ 34 ∷ (escaped_value tag.value ++ 34 ∷ (behind ++ 93 ∷ [])))))

-- tag pairs one after another, with any white space behind each
abbrev pub SpellsTags : List ScoreTag → List ℕ → Type 0
SpellsTags [] bytes = bytes ≡ []
SpellsTags (tag ∷ tags) bytes =
    (pair : List ℕ) × (white : List ℕ) × (rest : List ℕ) × SpellsTagPair pair tag × EachByte is_white white × SpellsTags tags rest × (bytes ≡ pair ++ (white ++ rest))

-- of a value 255 bytes are kept
abbrev pub kept_value : ScoreTag → List ℕ
kept_value tag = take 255 tag.value

-- the values that are kept of tags: those of six names, the last one of each
abbrev pub with_value : Option TagName → List ℕ → TagTexts → TagTexts
with_value None value tags = tags
with_value (Some name) value tags = with_tag name value tags

abbrev pub values_kept : TagTexts → List ScoreTag → TagTexts
values_kept kept [] = kept
values_kept kept (tag ∷ tags) = values_kept (with_value (tag_by_name tag.name) (kept_value tag) kept) tags

-- a FEN tag sets the start (section 9.7.2), and other tags leave it
abbrev pub LeadsToStart : Option TagName → List ℕ → Parts → Parts → Type 0
LeadsToStart None value old new = new ≡ old
LeadsToStart (Some Fen) value old new = SpellsPosition value new × IsPosition new
LeadsToStart (Some name) value old new = new ≡ old

abbrev pub TagsLeadToStart : List ScoreTag → Parts → Parts → Type 0
TagsLeadToStart [] old new = new ≡ old
TagsLeadToStart (tag ∷ tags) old new =
    (p : Parts) × LeadsToStart (tag_by_name tag.name) (kept_value tag) old p × TagsLeadToStart tags p new

-- ---- movetext (section 8.2)

-- the number of a move: digits, any periods, any white space, and a byte at least of these two. 0000 is no number
pub record SpellsMoveNumber (bytes : List ℕ) : Type 0 where
  pub digits : List ℕ
  pub periods : List ℕ
  pub white : List ℕ
  pub number : EachByte is_digit digits × (0 < length digits) × (digits ≢ codes "0000")
  pub dots : AllByRecursion (λ b. b ≡ 46) periods
  pub spaces : EachByte is_white white
  pub apart : 0 < length periods + length white
  pub text : bytes ≡ digits ++ (periods ++ white)

-- a byte of a symbol as the standard has it (section 7): a letter, a digit, or one of _ + # = : -
abbrev pub is_score_symbol : ℕ → Bool
is_score_symbol b = is_letter b || is_digit b || b == 95 || b == 43 || b == 35 || b == 61 || b == 58 || b == 45

-- a text that is read as this move, and is one symbol: so is each text of a move without glyphs and without e.p.
pub record SpellsSymbol (p : Parts) (m : Move) (text : List ℕ) : Type 0 where
  pub read : ReadsSan p text m
  pub symbol : EachByte is_score_symbol text

-- moves that are legal in turn, each with its number before it or without, and parted from what follows
abbrev pub SpellsMovetext : Parts → List Move → List ℕ → Type 0
SpellsMovetext p [] bytes = bytes ≡ []
SpellsMovetext p (m ∷ moves) bytes =
    (number : List ℕ) × (text : List ℕ) × (white : List ℕ) × (rest : List ℕ) × (q : Parts) × ((number ≡ []) ⊎ SpellsMoveNumber number) × SpellsSymbol p m text × PartsTokens white × Legal p m q × SpellsMovetext q moves rest × (bytes ≡ number ++ (text ++ (white ++ rest)))

-- the results (section 8.2.6)
abbrev pub result_text : GameResult → List ℕ
result_text WhiteWins = codes "1-0"
result_text BlackWins = codes "0-1"
result_text Draw = codes "1/2-1/2"
result_text Unknown = codes "*"
result_text Missing = []

-- ---- scores

-- a text spells a score, from its first token up to that of the next one: at most 4,096 moves, from the position of the FEN tag or from
-- that of a new game
pub record SpellsScore (bytes : List ℕ) (score : GameScore) : Type 0 where
  pub tags : List ℕ
  pub movetext : List ℕ
  pub white : List ℕ
  pub usual : Parts
  pub is_usual : IsUsualStart usual
  pub start : TagsLeadToStart score.tags usual score.start
  pub few : length score.moves ≤ 4096
  pub ended : score.result ≢ Missing
  pub spells_tags : SpellsTags score.tags tags
  pub spells_moves : SpellsMovetext score.start score.moves movetext
  pub apart : PartsTokens white
  pub text : bytes ≡ tags ++ (movetext ++ (result_text score.result ++ white))

-- the number of the line behind these bytes
abbrev pub line_behind : ℕ → List ℕ → ℕ
line_behind line [] = line
line_behind line (b ∷ t) = line_behind (line_after line b) t

-- what is read of a score, by the line of its first token
abbrev pub score_read : ℕ → GameScore → ReadingTold
score_read line score = GameRead (record {
  line = line;
  tags = values_kept no_tags score.tags;
  start = score.start;
  moves = score.moves;
  result = score.result;
})

-- a reading is of a score whose text begins on this line: there its first tag stands; without a tag the first token is a move
-- or the result, which stands there or, behind a number, further down
pub record IsScoreRead (line : ℕ) (score : GameScore) (reading : ReadingTold) : Type 0 where
  pub at : ℕ
  pub at_tag : score.tags ≢ [] → at ≡ line
  pub is : reading ≡ score_read at score

-- the same of scores one after another, each with its text
abbrev pub AreScoresRead : ℕ → List (List ℕ) → List GameScore → List ReadingTold → Type 0
AreScoresRead line [] [] [] = Unit {0}
AreScoresRead line (text ∷ texts) (score ∷ scores) (reading ∷ readings) =
    IsScoreRead line score reading × AreScoresRead (line_behind line text) texts scores readings
AreScoresRead line texts scores readings = ⊥

-- a line that is read: of at most 65,535 bytes
abbrev pub IsReadLine : List ℕ → Type 0
IsReadLine line = length line ≤ 65535

-- the texts of scores one after another
abbrev pub joined_texts : List (List ℕ) → List ℕ
joined_texts texts = flat_map (λ text. text) texts

-- a file of scores is read as the games of these scores, to its end
abbrev pub ScoresAreReadBack : Type 0
ScoresAreReadBack =
    (texts : List (List ℕ)) (scores : List GameScore) → AllZip SpellsScore texts scores → AllByRecursion IsReadLine (lines_of_text (joined_texts texts)) → (readings : List ReadingTold) × SpellsGames (joined_texts texts) readings × AreScoresRead 1 texts scores readings

-- whatever games are read of such a file, they are those of these scores
abbrev pub OnlyScoresAreRead : Type 0
OnlyScoresAreRead =
    (texts : List (List ℕ)) (scores : List GameScore) → AllZip SpellsScore texts scores → AllByRecursion IsReadLine (lines_of_text (joined_texts texts)) → (readings : List ReadingTold) → SpellsGames (joined_texts texts) readings → AreScoresRead 1 texts scores readings
