-- What is left of an input that is read game by game.
use Rattle.std.specs.Prelude.{◌==◌, ◌++◌, ℕ, List, Option, Some, None, option_map, drop}
use Rattle.pgn_games.specs.declared.cursor.Cursor.{Cursor}
use Rattle.pgn_games.specs.declared.game.Reading.{Reading}
use Rattle.pgn_games.specs.declared.reader.PgnReader.{PgnReader}
use Rattle.pgn_games.specs.Lines.{read_text}
use Rattle.pgn_games.specs.Tokens.{Token, tokens_from}
use Rattle.pgn_games.specs.Games.{ReadsGame}
use Rattle.pgn_games.specs.Shown.{reading_of}
use Rattle.timeline.specs.Outsides.{Outside}

-- a relation of what was known to what is known, where it is known
abbrev pub IfKnown : {A : Type 0} → Option A → Option A → (A → A → Type 0) → Type 0
IfKnown None new P = Unit {0}
IfKnown (Some a) None P = ⊥
IfKnown (Some a) (Some b) P = P a b

-- the tokens of the rest of a line and of the text behind it
abbrev pub tokens_with : Cursor → List ℕ → List Token
tokens_with cursor more = tokens_from 0 cursor.number (cursor.place == 0) (drop cursor.place cursor.line.items ++ more)

-- the tokens that are left, where the bytes are known that are left of the lines
abbrev pub tokens_left : Option (List ℕ) → PgnReader → Option (List Token)
tokens_left left reader = option_map (λ bytes. tokens_with reader.cursor (read_text bytes)) left

-- where the tokens are known that are left of some lines, this is their next game, or there is none, and those behind it are left then
abbrev pub TellsNextGame : {T P F K S L : Type 0} → Outside T P F K S L → L → L → PgnReader → PgnReader → Option Reading → Type 0
TellsNextGame o lines lines' reader reader' told =
    IfKnown (tokens_left (o.lines lines).left reader) (tokens_left (o.lines lines').left reader') (λ tokens behind. ReadsGame tokens (option_map reading_of told) behind)
