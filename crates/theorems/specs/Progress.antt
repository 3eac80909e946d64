-- How far two hosts get with a game (this project's own, docs/RULES.md).
--
-- A contract can't promise that a datagram arrives, that memory is given or that a put succeeds. So these are premises, of one answer for each
-- move of the game and of no other act: over a net that delivers in the end, a move that is sent often enough comes to be answered so. All
-- else that a host does may come between: it may close the game and open it again, stop and start, fail at other puts, and answer repeats, later
-- moves that wait, and other games.
use Rattle.std.specs.Prelude.{◌≡◌, ◌≢◌, ◌⊎◌, ◌≤◌, ◌<◌, ◌+◌, ℕ, List, [], ◌∷◌, length, min, slice_get, Option, Some, Ok, Err, IsSome}
use Rattle.board_core.specs.declared.moves.Move.{Move as Moves}
use Rattle.board_core.specs.declared.verdict.Verdict.{Verdict as Verdicts}
use Rattle.judge_core.specs.Games.{IsFirst, position_after_all}
use Rattle.move_msg.specs.Numbers.{most_moves}
use Rattle.move_msg.specs.declared.arbiter_id.ArbiterId.{ArbiterId}
use Rattle.move_msg.specs.declared.arbiter_id.ArbiterId.TheVariants.{A, B}
use Rattle.move_msg.specs.declared.arbiter_id.Sender.{Sender}
use Rattle.move_msg.specs.declared.message.Message.{Message}
use Rattle.move_msg.specs.declared.message.Message.TheVariants.{Ack, Move, Verdict}
use Rattle.arbiter_core.specs.declared.fault.DeliverFault.TheVariants.{KeeperFailed, OutOfMemory}
use Rattle.arbiter_core.specs.Delivers.{Exchange, IsWritten, heard}
use Rattle.arbiter_core.specs.Recording.{last_ply, record_at}
use Rattle.arbiter_server.specs.Acts.{Answers}
use Rattle.arbiter_server.specs.Folders.{Keepers}
use Rattle.relay_world.specs.Worlds.{Judged}
use Rattle.theorems.specs.Nets.{SystemState}
use Rattle.theorems.specs.Interleavings.{AreWoven, Does, HasMoves, HostEvent, Step, deeds_a, deeds_b}

-- ---- what a host gets

-- The arbiter of the game got the move with this number, whoever sent it, and answered: memory wasn't refused for the answer, and a record that was
-- to be put for it was put.
pub record IsTaken {K : Type 0} (game : Judged) (number : ℕ) (stamp : List ℕ) (e : Exchange K) : Type 0 where
  pub own : stamp ≡ game.stamp
  pub sender : Sender
  pub move : Moves
  pub brings : heard game.stamp e.datagram ≡ Ok (Move game.stamp sender number move)
  pub memory : e.told ≢ Err OutOfMemory
  pub kept : e.told ≢ Err KeeperFailed

-- the deed is such an answer
abbrev pub TakesMove : {K : Type 0} → Judged → ℕ → HostEvent K → Type 0
TakesMove game number (Does (Answers stamp e)) = IsTaken game number stamp e
TakesMove game number deed = ⊥

-- The moves from one number up to another one, which is left out, were taken one after the other; anything may have come between.
abbrev pub TakesMoves : {K : Type 0} → Judged → ℕ → ℕ → List (HostEvent K) → Type 0
TakesMoves game from to [] = to ≤ from
TakesMoves game from to (deed ∷ deeds) = (TakesMove game from deed × TakesMoves game (from + 1) to deeds) ⊎ TakesMoves game from to deeds

-- The first moves were, one at least, up to the last ply that the game reaches: to its first verdict, its end or its first illegal move.
abbrev pub TakesAll : {K : Type 0} → Judged → List (HostEvent K) → Type 0
TakesAll game deeds = (n : ℕ) × (0 < n) × (last_ply game.rules game.moves ≤ n) × TakesMoves game 0 n deeds

-- ---- what it tells

-- the moves of the game are legal in turn
abbrev pub AreLegal : Judged → Type 0
AreLegal game = IsSome (position_after_all game.rules.start game.moves)

-- no ply of the game has a verdict
abbrev pub HasNoVerdict : Judged → Type 0
HasNoVerdict game = (ply : ℕ) (v : Verdicts) → IsFirst game.rules game.moves ply v → ⊥

abbrev pub IsAmong : List Message → Message → Type 0
IsAmong log m = (i : ℕ) × (slice_get log i ≡ Some m)

-- This arbiter has sent a report of the whole game: the first verdict; or, of a game that has none, an acknowledgement of all moves.
abbrev pub HasTold : Judged → ArbiterId → List Message → Type 0
HasTold game who log =
    ((ply : ℕ) × ((v : Verdicts) × IsFirst game.rules game.moves ply v × IsAmong log (Verdict game.stamp who ply v)))
    ⊎ (HasNoVerdict game × IsAmong log (Ack game.stamp who (length game.moves)))

-- ---- how far it gets

-- However many first moves were taken, a record of as many is found, or of as many as the game reaches.
abbrev pub GetsOn : {K : Type 0} → Judged → List (HostEvent K) → Option (List ℕ) → Type 0
GetsOn game deeds found = (n : ℕ) → TakesMoves game 0 n deeds → HasMoves game (min n (last_ply game.rules game.moves)) found

-- The record is found of the last ply that the game reaches: that of its first verdict, which it has then, that of its end, or the one before
-- its first illegal move (`LastPlyIsOutcome` of relay_world).
abbrev pub IsWhole : Judged → Option (List ℕ) → Type 0
IsWhole game found = IsWritten game.stamp game.rules.delay (record_at game.rules game.moves (last_ply game.rules game.moves)) found

-- what is found at both, and what both have told
pub record BothGetOn {K L : Type 0} (game : Judged) (deeds_a : List (HostEvent K)) (deeds_b : List (HostEvent L)) (net : SystemState) : Type 0 where
  pub on_a : GetsOn game deeds_a net.a.kept
  pub on_b : GetsOn game deeds_b net.b.kept
  pub whole_a : TakesAll game deeds_a → IsWhole game net.a.kept
  pub whole_b : TakesAll game deeds_b → IsWhole game net.b.kept
  -- it has told of it, where no move of the game is illegal
  pub told_a : AreLegal game → TakesAll game deeds_a → HasTold game A net.log
  pub told_b : AreLegal game → TakesAll game deeds_b → HasTold game B net.log
  -- and it is one record
  pub one : TakesAll game deeds_a → TakesAll game deeds_b → net.a.kept ≡ net.b.kept

-- THE LAW: Wherever two hosts come, as many moves of the game are found at each as it took in order; and where it took all, the whole record, of which it
-- has told; and where both did, one record.
abbrev pub HostsGetOn : {K L : Type 0} → Keepers K → Keepers L → Type 0
HostsGetOn {K = K} {L = L} a b =
    (game : Judged) (steps : List (Step K L)) (net : SystemState) → length game.moves ≤ most_moves → AreWoven a b game steps net
    → BothGetOn game (deeds_a steps) (deeds_b steps) net
