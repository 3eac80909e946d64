-- A game that is judged: its start, its moves, and for how many further plies a verdict by tables must hold (this project's own).
use Rattle.std.specs.Prelude.{ℕ, List}
use Rattle.board_core.specs.declared.moves.Move.{Move}
use Rattle.board_core.specs.declared.parts.Parts.{Parts}
use Rattle.judge_core.specs.Games.{IsOutcome}
use Rattle.judge_core.specs.Tables.{Tables}
use Rattle.judge_core.specs.declared.game.GameOutcome.{GameOutcome}
use Rattle.table_folder.specs.Settled.{IsInPlayBy}

pub record GameAsked : Type 0 where
  pub start : Parts
  pub moves : List Move
  pub delay : ℕ

-- the positions that are needed of it: those in play, up to the first verdict
abbrev pub in_play_of : GameAsked → Tables → Parts → Type 0
in_play_of g = IsInPlayBy g.start g.moves g.delay

-- what it comes to by tables
abbrev pub IsOutcomeOf : GameAsked → Tables → GameOutcome → Type 0
IsOutcomeOf g tables outcome = IsOutcome (record { start = g.start; tables = tables; delay = g.delay }) g.moves outcome
