-- What is asked while a move is written. Only private contracts cite these words.
use Rattle.std.specs.Prelude.{◌≡◌, ◌≤◌, ℕ, length, IsTrue, Bool}
use Rattle.board_core.specs.declared.parts.Parts.{Parts}
use Rattle.board_core.specs.declared.moves.Move.{Move}
use Rattle.board_core.specs.Moves.{IsLegal}
use Rattle.san_text.specs.declared.origin.Among.{Among}
use Rattle.san_text.specs.declared.origin.Among.TheVariants.{Everywhere, OnFile, OnRank}
use Rattle.san_text.specs.declared.told.Told.{Told}
use Rattle.san_text.specs.declared.told.Told.TheVariants.{Castles, Goes}
use Rattle.san_text.specs.Told.{IsBelowEight, told_text}
use Rattle.san_text.specs.Written.{is_rival, anywhere, on_file_of, on_rank_of}

-- a man of the kind can go from here to the square of the move
abbrev pub Rivals : Parts → Move → ℕ → Type 0
Rivals p m s = (n : Move) × IsLegal p n × IsTrue (is_rival p m n) × (n.from ≡ s)

-- whether a square is one of those looked at
abbrev pub is_among : Among → ℕ → ℕ → Bool
is_among Everywhere from = anywhere
is_among OnFile from = on_file_of from
is_among OnRank from = on_rank_of from

-- what is told has a text of seven bytes at most, and files and ranks from 0 to 7
abbrev pub IsWithinSeven : Told → Type 0
IsWithinSeven (Castles wing) = Unit {0}
IsWithinSeven (Goes man) = IsBelowEight man.file × IsBelowEight man.rank × (length (told_text (Goes man)) ≤ 7)
