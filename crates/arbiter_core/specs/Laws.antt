-- Laws over the definitions. The functions of src/laws.rt carry these.
use Rattle.std.specs.Prelude.{◌≡◌, ◌<◌, ◌≤◌, ◌↔◌, ℕ, true, List, length, take, Some, IsSome}
use Rattle.board_core.specs.declared.moves.Move.{Move}
use Rattle.board_core.specs.declared.verdict.Verdict.{Verdict}
use Rattle.move_msg.specs.declared.message.Message.{Message}
use Rattle.move_msg.specs.declared.stamp.Stamp.{Stamp}
use Rattle.judge_core.specs.Games.{Rules, position_after_all, verdict_after, IsUnruled, IsFirst}
use Rattle.arbiter_core.specs.Recording.{Recorded, ReorderBuffer, move_count, reaches, record_at, last_ply}
use Rattle.arbiter_core.specs.Answering.{Puts}
use Rattle.arbiter_core.specs.Setups.{rules_at}
use Rattle.arbiter_core.specs.Views.{View}
use Rattle.arbiter_core.specs.Delivers.{answer_at}
use Rattle.arbiter_core.specs.Opens.{IsResumed}

-- the first k moves are there and legal in turn, and no ply before k has a verdict
pub record IsReached (rules : Rules) (game : List Move) (k : ℕ) : Type 0 where
  pub within : k ≤ length game
  pub legal : IsSome (position_after_all rules.start (take k game))
  pub unruled : IsUnruled rules game k

-- A game reaches a ply exactly where the moves before it are legal in turn and no ply before it has a verdict.
abbrev pub ReachedInWords : Type 0
ReachedInWords = (rules : Rules) (game : List Move) (k : ℕ) → (reaches rules game k ≡ true) ↔ IsReached rules game k

-- The record at a ply that the game reaches has the moves before it, and a verdict exactly where that ply is the first with one.
pub record IsRecordInWords (rules : Rules) (game : List Move) (k : ℕ) (kept : Recorded) : Type 0 where
  pub moves : kept.moves ≡ take k game
  pub verdict : (v : Verdict) → (kept.verdict ≡ Some v) ↔ IsFirst rules game k v

abbrev pub RecordInWords : Type 0
RecordInWords = (rules : Rules) (game : List Move) (k : ℕ) → reaches rules game k ≡ true → IsRecordInWords rules game k (record_at rules game k)

-- the ply is reached, and no later one
pub record IsLastReached (rules : Rules) (game : List Move) (k : ℕ) : Type 0 where
  pub reached : reaches rules game k ≡ true
  pub last : (j : ℕ) → reaches rules game j ≡ true → j ≤ k

-- The last ply that a game reaches is what it is called.
abbrev pub LastPlyInWords : Type 0
LastPlyInWords = (rules : Rules) (game : List Move) → IsLastReached rules game (last_ply rules game)

-- Bytes are resumed as one record.
abbrev pub OneResumed : Type 0
OneResumed = (rules : Rules) (stamp : Stamp) (bytes : List ℕ) (a b : Recorded) → IsResumed rules stamp bytes a → IsResumed rules stamp bytes b → a ≡ b

-- a record is that of its own moves, which the game reaches
pub record IsOwn (rules : Rules) (kept : Recorded) : Type 0 where
  pub ruled : kept.verdict ≡ verdict_after rules kept.moves
  pub reached : reaches rules kept.moves (length kept.moves) ≡ true

-- the next record is its own too, and has more moves
pub record Grows (rules : Rules) (old next : Recorded) : Type 0 where
  pub own : IsOwn rules next
  pub more : move_count old < move_count next

-- A record that is put has more moves than the one before.
abbrev pub PutsGrow : Type 0
PutsGrow = (v : View) (datagram : List ℕ) (next : Recorded) (outputs : List Message) (window : ReorderBuffer) → IsOwn (rules_at v.setup) v.kept
    → answer_at v datagram ≡ Puts next outputs window → Grows (rules_at v.setup) v.kept next
