-- Verdicts by their codes in messages and records, and by name.
use Rattle.std.specs.Prelude.{ℕ, List, codes}
use Rattle.board_core.specs.declared.verdict.Verdict.{Verdict}
use Rattle.board_core.specs.declared.verdict.Verdict.TheVariants.{WhiteMates, BlackMates, Stalemate, TableDraw, TableWhite, TableBlack, Stopped}

abbrev pub verdict_code : Verdict → ℕ
verdict_code WhiteMates = 1
verdict_code BlackMates = 2
verdict_code Stalemate = 3
verdict_code TableDraw = 4
verdict_code TableWhite = 5
verdict_code TableBlack = 6
verdict_code Stopped = 7

-- as it is printed
abbrev pub verdict_name : Verdict → List ℕ
verdict_name WhiteMates = codes "WhiteMates"
verdict_name BlackMates = codes "BlackMates"
verdict_name Stalemate = codes "Stalemate"
verdict_name TableDraw = codes "TableDraw"
verdict_name TableWhite = codes "TableWhite"
verdict_name TableBlack = codes "TableBlack"
verdict_name Stopped = codes "Stopped"
