-- Export format (PGN standard, sections 8.1, 8.2.1 and 8.2.2.2): the one text that a writer writes of a score, as a computable definition.
use Rattle.std.specs.Prelude.{◌≢◌, ◌+◌, ◌<◌, ◌≤◌, ◌++◌, nat_lt, ℕ, Bool, true, false, List, [], ◌∷◌, length, map, unwrap_or, option_map, codes, if◌then◌else◌}
use Rattle.std.specs.Fmt.{decimal}
use Rattle.std.specs.List.{AllByRecursion, flat_map}
use Rattle.board_core.specs.declared.piece.Side.{Side}
use Rattle.board_core.specs.declared.piece.Side.TheVariants.{White, Black}
use Rattle.board_core.specs.declared.parts.Parts.{Parts}
use Rattle.board_core.specs.declared.moves.Move.{Move}
use Rattle.board_core.specs.Position.{IsPosition}
use Rattle.board_core.specs.ComputedMoves.{position_after}
use Rattle.san_text.specs.Written.{san_of}
use Rattle.pgn_games.specs.declared.game.GameResult.TheVariants.{Missing}
use Rattle.pgn_games.specs.Bytes.{is_name}
use Rattle.pgn_games.specs.Games.{IsUsualStart, ReadingTold, SpellsGames}
use Rattle.pgn_games.specs.Laws.{PlaysInTurn}
use Rattle.pgn_games.specs.Scores.{AreScoresRead, EachByte, GameScore, ScoreTag, SpellsScore, TagsLeadToStart, escaped_value, result_text}

-- a tag pair on a line of its own, with one space between its name and its value
abbrev pub tag_line : ScoreTag → List ℕ
tag_line tag = 91 ∷ (tag.name ++ 32 ∷ 34 ∷ (escaped_value tag.value ++ 34 ∷ 93 ∷ 10 ∷ []))

-- an empty line stands behind the tag pairs, where there are some
abbrev pub tag_section : List ScoreTag → List ℕ
tag_section [] = []
tag_section (tag ∷ tags) = flat_map tag_line (tag ∷ tags) ++ 10 ∷ []

-- the number of a move, in front of each of white's; and with three periods in front of one of black's with which movetext begins
abbrev pub number_words : Bool → Side → ℕ → List (List ℕ)
number_words begins White n = (decimal n ++ codes ".") ∷ []
number_words true Black n = (decimal n ++ codes "...") ∷ []
number_words false Black n = []

-- the numbers and the texts of moves that are legal in turn
unfoldable pub movetext_words : Bool → Parts → List Move → List (List ℕ)
movetext_words begins p [] = []
movetext_words begins p (m ∷ moves) =
    number_words begins p.side p.fullmove ++ (san_of p m ∷ unwrap_or (option_map (λ q. movetext_words false q moves) (position_after p m)) [])

-- words behind so many bytes of a line, on lines of at most 79 bytes, and an empty line behind the last one
unfoldable pub words_on_lines : ℕ → List (List ℕ) → List ℕ
words_on_lines column [] = 10 ∷ 10 ∷ []
words_on_lines column (word ∷ words) =
    if nat_lt (column + length word) 79 then 32 ∷ (word ++ words_on_lines (column + 1 + length word) words) else 10 ∷ (word ++ words_on_lines (length word) words)

abbrev pub lines_of_words : List (List ℕ) → List ℕ
lines_of_words [] = []
lines_of_words (word ∷ words) = word ++ words_on_lines (length word) words

-- the text of a score
unfoldable pub written_score : GameScore → List ℕ
written_score score =
    tag_section score.tags ++ lines_of_words (movetext_words true score.start score.moves ++ result_text score.result ∷ [])

-- a tag that has such a line: its name is of letters, digits and underscores, its value has no line feed, and the line at most 65,536
-- bytes with the line feed behind it
pub record IsWritableTag (tag : ScoreTag) : Type 0 where
  pub name : EachByte is_name tag.name × (0 < length tag.name)
  pub value : AllByRecursion (λ b. b ≢ 10) tag.value
  pub short : length (tag_line tag) ≤ 65536

-- a score that has such a text: moves that are legal in turn, at most 4,096, from the position of the FEN tag or that of a new game, and
-- a result
pub record IsWritable (score : GameScore) : Type 0 where
  pub tags : AllByRecursion IsWritableTag score.tags
  pub usual : Parts
  pub is_usual : IsUsualStart usual
  pub start : TagsLeadToStart score.tags usual score.start
  pub position : IsPosition score.start
  pub moves : (q : Parts) × PlaysInTurn score.start score.moves q
  pub few : length score.moves ≤ 4096
  pub ended : score.result ≢ Missing

-- export format spells the score
abbrev pub ExportSpellsScores : Type 0
ExportSpellsScores = (score : GameScore) → IsWritable score → SpellsScore (written_score score) score

-- a file in export format is read as the games that were written, to its end
abbrev pub ExportIsReadBack : Type 0
ExportIsReadBack =
    (scores : List GameScore) → AllByRecursion IsWritable scores → (readings : List ReadingTold) × SpellsGames (flat_map written_score scores) readings × AreScoresRead 1 (map written_score scores) scores readings

-- whatever games are read of such a file, they are those that were written
abbrev pub OnlyExportIsRead : Type 0
OnlyExportIsRead =
    (scores : List GameScore) → AllByRecursion IsWritable scores → (readings : List ReadingTold) → SpellsGames (flat_map written_score scores) readings → AreScoresRead 1 (map written_score scores) scores readings
