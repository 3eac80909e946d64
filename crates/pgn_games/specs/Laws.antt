-- What holds of the games that are read.
use Rattle.std.specs.Prelude.{◌≡◌, ◌≤◌, ◌↔◌, ℕ, List, [], ◌∷◌, length, Option, Some, None, MatchOption}
use Rattle.board_core.specs.declared.parts.Parts.{Parts}
use Rattle.board_core.specs.declared.moves.Move.{Move}
use Rattle.board_core.specs.Position.{IsPosition}
use Rattle.board_core.specs.Moves.{Legal}
use Rattle.fen_text.specs.Fen.{SpellsPosition}
use Rattle.fen_text.specs.Written.{fen_of}
use Rattle.san_text.specs.San.{ReadsSan}
use Rattle.pgn_games.specs.declared.game.GameResult.{GameResult}
use Rattle.pgn_games.specs.Tags.{no_tags}
use Rattle.pgn_games.specs.Lexemes.{MoveText, Told}
use Rattle.pgn_games.specs.Tokens.{Token, token}
use Rattle.pgn_games.specs.Games.{GameTold, GameRead, ReadingTold, ReadsGame, SpellsGames, usual_start}

-- moves that are legal in turn lead from one position to another
abbrev pub PlaysInTurn : Parts → List Move → Parts → Type 0
PlaysInTurn p [] q = q ≡ p
PlaysInTurn p (m ∷ moves) q = (r : Parts) × Legal p m r × PlaysInTurn r moves q

-- a game begins at the position of its FEN tag, or at the usual one
abbrev pub BeginsAt : Option (List ℕ) → Parts → Type 0
BeginsAt fen start = MatchOption fen (usual_start ≡ fen_of start) (λ value. SpellsPosition value start)

-- a game that is read is one of chess
pub record IsChessGame (game : GameTold) : Type 0 where
  pub start : BeginsAt game.tags.fen game.start
  pub moves : (q : Parts) × PlaysInTurn game.start game.moves q
  pub few : length game.moves ≤ 4096

abbrev pub GamesAreOfChess : Type 0
GamesAreOfChess =
    (tokens behind : List Token) (game : GameTold) → ReadsGame tokens (Some (GameRead game)) behind → IsChessGame game

-- none is told where no token is left, and nowhere else
abbrev pub NoneIsTheEnd : Type 0
NoneIsTheEnd =
    (tokens behind : List Token) (told : Option ReadingTold) → ReadsGame tokens told behind → (told ≡ None) ↔ (tokens ≡ [])

-- tokens are read as one game, and leave the same tokens behind it
abbrev pub OneGameIsRead : Type 0
OneGameIsRead =
    (tokens behind others : List Token) (a b : Option ReadingTold) → ReadsGame tokens a behind → ReadsGame tokens b others → (a ≡ b) × (behind ≡ others)

-- the bytes of a file spell one list of games
abbrev pub OneListIsSpelled : Type 0
OneListIsSpelled = (bytes : List ℕ) (a b : List ReadingTold) → SpellsGames bytes a → SpellsGames bytes b → a ≡ b

-- texts that are read as these moves in turn, each in the position before it
abbrev pub ReadsInTurn : Parts → List (List ℕ) → List Move → Type 0
ReadsInTurn p [] [] = Unit {0}
ReadsInTurn p [] (m ∷ moves) = ⊥
ReadsInTurn p (text ∷ texts) [] = ⊥
ReadsInTurn p (text ∷ texts) (m ∷ moves) =
    (q : Parts) × ReadsSan p text m × Legal p m q × ReadsInTurn q texts moves

-- movetext without variations
abbrev pub movetext : ℕ → List (List ℕ) → List Token → List Token
movetext line [] end = end
movetext line (text ∷ texts) end = token line (MoveText text) ∷ movetext line texts end

-- a game from the usual start without tags is read from the tokens of its moves and its result
abbrev pub MovesAreReadBack : Type 0
MovesAreReadBack =
    (usual : Parts) (line : ℕ) (texts : List (List ℕ)) (moves : List Move) (result : GameResult) (behind : List Token) → usual_start ≡ fen_of usual → IsPosition usual → ReadsInTurn usual texts moves → length moves ≤ 4096 → ReadsGame (movetext line texts (token line (Told result) ∷ behind)) (Some (GameRead (record { line = line; tags = no_tags; start = usual; moves = moves; result = result }))) behind
