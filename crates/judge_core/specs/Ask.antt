-- How tables are asked for values (this project's own).
use Rattle.std.specs.Prelude.{◌≡◌, Bool, true, false, List}
use Rattle.board_core.specs.declared.parts.Parts.{Parts}
use Rattle.judge_core.specs.declared.probe_result.ProbeResult.{ProbeResult}
use Rattle.judge_core.specs.declared.root_move.RootMove.{RootMove}
use Rattle.judge_core.specs.Answers.{ListsMoves}
use Rattle.judge_core.specs.Determined.{AreDetermined, IsDeterminedRoot, ListsMovesDetermined}
use Rattle.judge_core.specs.ProbeResult.{IsProbed}
use Rattle.judge_core.specs.Root.{IsRoot}
use Rattle.judge_core.specs.Ruling.{is_out_of_scope}
use Rattle.judge_core.specs.Tables.{Tables}
use Rattle.judge_core.specs.declared.ask.Ask.{Ask}
use Rattle.judge_core.specs.declared.ask.Ask.TheVariants.{Strict, Determined}

-- both values of a position
abbrev pub IsAnswered : Ask → Tables → Parts → ProbeResult → Type 0
IsAnswered Strict = IsProbed
IsAnswered Determined = AreDetermined

-- moves are listed for the values of a position in scope: only then memory for them may be refused
abbrev pub MayLack : Ask → Tables → Parts → Type 0
MayLack Strict tables p = (is_out_of_scope p ≡ false) × ListsMoves tables p
MayLack Determined tables p = (is_out_of_scope p ≡ false) × ListsMovesDetermined tables p

-- its legal moves, the best first
abbrev pub IsRanked : Ask → Tables → Parts → List RootMove → Type 0
IsRanked Strict = IsRoot
IsRanked Determined = IsDeterminedRoot

abbrev pub ask_of : Bool → Ask
ask_of true = Determined
ask_of false = Strict
