-- The bytes of PGN text (PGN standard, section 7).
use Rattle.std.specs.Prelude.{◌==◌, ◌&&◌, ◌||◌, not, nat_le, ℕ, Bool, List, if◌then◌else◌}
use Rattle.std.specs.List.{position_or_len}
use Rattle.pgn_games.specs.declared.bytes.Class.{Class}
use Rattle.pgn_games.specs.declared.bytes.Class.TheVariants.{Space, Name, Digit}
use Rattle.pgn_games.specs.declared.bytes.Class.TheVariants as class
use Rattle.pgn_games.specs.declared.bytes.ByteKind.{ByteKind}
use Rattle.pgn_games.specs.declared.bytes.ByteKind.TheVariants.{Blank, Opens, Closes, Bracket, Semicolon, Star, Dollar, Symbol, Other}

-- 0 to 9
abbrev pub is_digit : ℕ → Bool
is_digit b = nat_le 48 b && nat_le b 57

-- A to Z, a to z
abbrev pub is_letter : ℕ → Bool
is_letter b = (nat_le 65 b && nat_le b 90) || (nat_le 97 b && nat_le b 122)

-- space, tab, vertical tab, form feed, carriage return
abbrev pub is_space : ℕ → Bool
is_space b = b == 32 || b == 9 || b == 11 || b == 12 || b == 13

-- a space, a period, or a glyph ! or ? that stands alone: it tells nothing
abbrev pub is_blank : ℕ → Bool
is_blank b = is_space b || b == 46 || b == 33 || b == 63

-- one of _ + # = : - and, of a result and of a glyph behind a move, / ! ?
abbrev pub is_sign : ℕ → Bool
is_sign b = b == 95 || b == 43 || b == 35 || b == 61 || b == 58 || b == 45 || b == 47 || b == 33 || b == 63

-- a byte of a symbol: a letter, a digit or a sign
abbrev pub is_symbol : ℕ → Bool
is_symbol b = is_letter b || is_digit b || is_sign b

-- a byte of a tag's name: a letter, a digit or an underscore
abbrev pub is_name : ℕ → Bool
is_name b = is_letter b || is_digit b || b == 95

-- the bytes of a class
abbrev pub passes : Class → ℕ → Bool
passes Space b = is_space b
passes Name b = is_name b
passes class.Blank b = is_blank b
passes class.Symbol b = is_symbol b
passes Digit b = is_digit b

-- how many bytes pass at the front of a text
abbrev pub run_len : (ℕ → Bool) → List ℕ → ℕ
run_len pass = position_or_len (λ b. not (pass b))

-- ( ) [ ; * $
abbrev pub kind_of_mark : ℕ → ByteKind
kind_of_mark b =
    if b == 40 then Opens else if b == 41 then Closes else if b == 91 then Bracket else if b == 59 then Semicolon else if b == 42 then Star else if b == 36 then Dollar else Other

-- what begins at a byte, other than a brace and a line feed
abbrev pub kind_of : ℕ → ByteKind
kind_of b = if is_blank b then Blank else if is_symbol b then Symbol else kind_of_mark b
