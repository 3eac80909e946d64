-- The lexemes of PGN text (PGN standard, sections 5, 7, 8.1 and 8.2). Each begins where the last one ended. What it tells and where it
-- ends goes by its first byte.
use Rattle.std.specs.Prelude.{◌&&◌, ◌+◌, ◌-◌, ◌==◌, not, nat_lt, ℕ, Bool, List, ◌∷◌, length, take, Option, Some, None, if◌then◌else◌, codes, bytes_eq}
use Rattle.std.specs.List.{list_any, position_or_len}
use Rattle.pgn_games.specs.declared.bytes.ByteKind.{ByteKind}
use Rattle.pgn_games.specs.declared.bytes.ByteKind.TheVariants.{Blank, Opens, Closes, Bracket, Semicolon, Star, Dollar, Symbol, Other}
use Rattle.pgn_games.specs.declared.game.GameResult.{GameResult}
use Rattle.pgn_games.specs.declared.game.GameResult.TheVariants.{WhiteWins, BlackWins, Draw, Unknown}
use Rattle.pgn_games.specs.Bytes.{is_blank, is_digit, is_symbol, kind_of, run_len}
use Rattle.pgn_games.specs.Tags.{TagPair, TagAndRest, tag_pair}

-- what a lexeme tells of a game
pub data Telling : Type 0 where
  -- a bracket, in the first column or not, and the tag pair that it opens, where it is well formed
  Tag : Bool → Option TagPair → Telling
  -- a symbol that is no number and no result: the text of a move
  MoveText : List ℕ → Telling
  -- ( and ) of a variation
  Begins : Telling
  Ends : Telling
  -- a result
  Told : GameResult → Telling
  -- what is no token
  Stray : Telling
  -- a comment that never ends
  Endless : Telling
  -- a line of more than 65,535 bytes
  TooLong : Telling

-- a lexeme tells something or nothing, and has so many bytes behind its first one
pub record Lexed : Type 0 where
  pub tells : Option Telling
  pub more : ℕ

abbrev pub lexed : Option Telling → ℕ → Lexed
lexed tells more = record { tells = tells; more = more }

-- the results (section 8.2.6)
abbrev pub result_of : List ℕ → Option GameResult
result_of t =
    if bytes_eq t (codes "1-0") then Some WhiteWins else if bytes_eq t (codes "0-1") then Some BlackWins else if bytes_eq t (codes "1/2-1/2") then Some Draw else None

-- a symbol is a result, or else the text of a move
abbrev pub result_or_move : List ℕ → Option GameResult → Telling
result_or_move t None = MoveText t
result_or_move t (Some result) = Told result

-- digits alone are a move's number; but 0000 is how engines write a null move
abbrev pub is_number : List ℕ → Bool
is_number t = (run_len is_digit t == length t) && not (bytes_eq t (codes "0000"))

-- a move's number tells nothing
abbrev pub symbol_tells : List ℕ → Option Telling
symbol_tells t = if is_number t then None else Some (result_or_move t (result_of t))

-- a tag that isn't well formed goes to the end of its line
abbrev pub lexed_tag : Bool → List ℕ → Option TagAndRest → Lexed
lexed_tag first line None = lexed (Some (Tag first None)) (length line)
lexed_tag first line (Some tag) = lexed (Some (Tag first (Some tag.pair))) (length line - length tag.rest)

-- by its kind, a lexeme that begins with this byte and has the rest of the line behind it
abbrev pub lexed_by : ByteKind → Bool → ℕ → List ℕ → Lexed
lexed_by Blank first b line = lexed None (run_len is_blank line)
lexed_by Symbol first b line =
    lexed (symbol_tells (b ∷ take (run_len is_symbol line) line)) (run_len is_symbol line)
lexed_by Opens first b line = lexed (Some Begins) 0
lexed_by Closes first b line = lexed (Some Ends) 0
lexed_by Bracket first b line = lexed_tag first line (tag_pair line)
lexed_by Semicolon first b line = lexed None (length line)
lexed_by Star first b line = lexed (Some (Told Unknown)) 0
lexed_by Dollar first b line = lexed None (run_len is_digit line)
lexed_by Other first b line = lexed (Some Stray) 0

abbrev pub lexed_in_line : Bool → ℕ → List ℕ → Lexed
lexed_in_line first b line = lexed_by (kind_of b) first b line

-- what is left of the line
abbrev pub rest_of_line : List ℕ → List ℕ
rest_of_line t = take (position_or_len (λ b. b == 10) t) t

-- a comment in braces goes to the first closing brace, over any number of lines; in it a line of more than 65,535 bytes is at fault too
abbrev pub comment_tells : ℕ → List ℕ → Option Telling
comment_tells n t =
    if not (nat_lt n (length t)) then Some Endless else if list_any (λ b. b == 256) (take n t) then Some TooLong else None

abbrev pub lexed_comment : List ℕ → Lexed
lexed_comment t =
    let n = position_or_len (λ b. b == 125) t in lexed (comment_tells n t) (n + 1)

-- the lexeme that begins with this byte, in the first column or not, and has the text behind it
unfoldable pub lexed_at : Bool → ℕ → List ℕ → Lexed
lexed_at first b t =
    if b == 10 then lexed None 0 else if b == 123 then lexed_comment t else if b == 256 then lexed (Some TooLong) 0 else lexed_in_line first b (rest_of_line t)
