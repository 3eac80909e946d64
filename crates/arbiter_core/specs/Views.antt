-- What an arbiter is to its callers.
use Rattle.std.specs.Prelude.{◌≡◌, ℕ, ◌+◌, ◌<◌, Bool, Some, None, get_or}
use Rattle.board_core.specs.declared.moves.Move.{Move}
use Rattle.move_msg.specs.declared.record_bytes.Record.{Record}
use Rattle.move_msg.specs.declared.stamp.Stamp.{Stamp}
use Rattle.move_msg.specs.Numbers.{most_moves}
use Rattle.arbiter_core.specs.Recording.{Recorded, ReorderBuffer}
use Rattle.arbiter_core.specs.Answering.{Identity}
use Rattle.arbiter_core.specs.Setups.{SetupView}

pub record View : Type 0 where
  pub setup : SetupView
  pub me : Identity
  pub kept : Recorded
  pub window : ReorderBuffer
  pub is_down : Bool

-- the record as it is spelled, for a game with this stamp and this delay
abbrev pub spelled_as : Stamp → ℕ → Recorded → Record
spelled_as stamp delay kept = record { stamp = stamp; delay = delay; verdict = kept.verdict; moves = kept.moves }

-- no number that waits passes 4095, where at is the number of the first place
abbrev pub IsNear : ReorderBuffer → ℕ → Type 0
IsNear window at = (i : ℕ) (m : Move) → get_or window i None ≡ Some m → at + i < most_moves
