-- What C is told of many boards.
use Rattle.std.specs.Prelude.{◌<◌, ℕ, List, length, slice_index_or}
use Rattle.judge_core.specs.Tables.{Tables}
use Rattle.probe_api.specs.declared.asking.Question.{Question}
use Rattle.probe_api.specs.declared.board.Board.{Board}
use Rattle.probe_api.specs.declared.reply.Reply.{Reply}
use Rattle.probe_api.specs.Replies.{TellsBoard}

-- each of the first n replies is that of the board in its place
abbrev pub AreTold : Question → Tables → List Board → List Reply → ℕ → Type 0
AreTold question tables boards replies n = (i : ℕ) → i < n → (b : Board) (r : Reply) → TellsBoard question tables (slice_index_or boards i b) (slice_index_or replies i r)

-- each reply is that of the board in its place
pub record TellsBoards (question : Question) (tables : Tables) (boards : List Board) (replies : List Reply) : Type 0 where
  pub each : AreTold question tables boards replies (length boards)
