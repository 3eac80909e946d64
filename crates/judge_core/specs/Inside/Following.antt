-- What is known of a game that is followed ply by ply.
use Rattle.std.specs.Prelude.{ℕ, ◌≡◌, ◌+◌, List, take, Option, Some, None, Result, IfOk}
use Rattle.board_core.specs.declared.moves.Move.{Move}
use Rattle.judge_core.specs.declared.game.GameOutcome.{GameOutcome}
use Rattle.judge_core.specs.Games.{Rules, IsUnruled, IsOutcome, plies_to}
use Rattle.judge_core.specs.Standings.{Reached, IsAt}
use Rattle.judge_core.specs.Tables.{Tables}

-- the game has ended at this ply or it is played on, and stands so
abbrev pub IsFollowed : Rules → List Move → ℕ → Option GameOutcome → Reached → Type 0
IsFollowed rules moves ply (Some outcome) s = IsOutcome rules moves outcome × IsAt rules (take (plies_to moves outcome) moves) s
IsFollowed rules moves ply None s = IsAt rules (take (ply + 1) moves) s × IsUnruled rules moves (ply + 1)

-- so it is of each game that stands so at this ply and has no earlier verdict, by these tables and this delay
abbrev pub FollowsPly : {E : Type 0} → Tables → ℕ → List Move → ℕ → Reached → Reached → Result (Option GameOutcome) E → Type 0
FollowsPly tables delay moves ply old new r =
    (rules : Rules) → rules.tables ≡ tables → rules.delay ≡ delay → IsAt rules (take ply moves) old → IsUnruled rules moves ply → IfOk r (λ ended. IsFollowed rules moves ply ended new)
