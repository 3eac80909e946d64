-- What stays of a record, and of what an arbiter told (this project's own).
use Rattle.std.specs.Prelude.{◌≡◌, ◌≤◌, ◌++◌, ℕ, List, take, Some}
use Rattle.board_core.specs.declared.moves.Move.{Move as Moves}
use Rattle.board_core.specs.declared.verdict.Verdict.{Verdict as Verdicts}
use Rattle.move_msg.specs.declared.message.Message.{Message}
use Rattle.move_msg.specs.declared.message.Message.TheVariants.{Move, Ack, Verdict, Fetch}
use Rattle.arbiter_core.specs.Opens.{IsResumed}
use Rattle.arbiter_core.specs.Recording.{Recorded, move_count}
use Rattle.arbiter_core.specs.Setups.{rules_at}
use Rattle.arbiter_core.specs.Views.{View}

-- these bytes are a record of the arbiter's game, from which it could run again
abbrev pub IsItsRecord : View → List ℕ → Recorded → Type 0
IsItsRecord v bytes kept = IsResumed (rules_at v.setup) v.me.stamp bytes kept

-- the later record has the moves of the earlier one first; after a verdict there is no other
pub record GoesOn (earlier later : Recorded) : Type 0 where
  pub more : List Moves
  pub moves : later.moves ≡ earlier.moves ++ more
  pub ended : (v : Verdicts) → earlier.verdict ≡ Some v → later ≡ earlier

-- what a message told still holds of a record: as many moves as were acknowledged, the same first ones as when the message was
-- told; and the verdict at its ply
abbrev pub StillHolds : Recorded → Recorded → Message → Type 0
StillHolds then now (Move stamp sender number m) = Unit {0}
StillHolds then now (Ack stamp who n) = (n ≤ move_count now) × (take n now.moves ≡ take n then.moves)
StillHolds then now (Verdict stamp who ply v) = (now.verdict ≡ Some v) × (move_count now ≡ ply)
StillHolds then now (Fetch stamp who number wanted) = Unit {0}
