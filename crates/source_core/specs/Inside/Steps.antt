-- One step of a turn and of a run; cited by private functions alone.
use Rattle.std.specs.Prelude.{◌≡◌, ◌⊎◌, ◌&&◌, ◌<◌, ◌≤◌, ℕ, Bool, max, true, false, List, Option, Some, None, is_some}
use Rattle.move_msg.specs.declared.stamp.Stamp.{Stamp}
use Rattle.move_msg.specs.declared.arbiter_id.ArbiterId.{ArbiterId}
use Rattle.source_core.specs.declared.report.Ruling.{Ruling}
use Rattle.source_core.specs.declared.origin.Origin.{Origin}
use Rattle.source_core.specs.declared.origin.Origin.TheVariants.{Any, New}
use Rattle.source_core.specs.declared.origin.Started.{Started}
use Rattle.source_core.specs.declared.known.Reported.{Reported}
use Rattle.source_core.specs.declared.known.Known.{Known}
use Rattle.source_core.specs.declared.known.Standing.{Standing}
use Rattle.source_core.specs.declared.known.Standing.TheVariants as standing
use Rattle.source_core.specs.declared.turn.Next.{Next}
use Rattle.source_core.specs.declared.turn.Next.TheVariants as next
use Rattle.source_core.specs.declared.turn.Turn.{Turn}
use Rattle.source_core.specs.declared.turn.Turn.TheVariants as at_turn
use Rattle.board_core.specs.declared.moves.Move.{Move as Moves}
use Rattle.board_core.specs.declared.parts.Parts.{Parts}
use Rattle.board_core.specs.Moves.{Legal}
use Rattle.move_msg.specs.Numbers.{most_moves}
use Rattle.move_notation.specs.declared.notation.Notation.{Notation}
use Rattle.move_notation.specs.Notations.{Spells}
use Rattle.source_core.specs.declared.lines.End.{End}
use Rattle.source_core.specs.declared.lines.End.TheVariants as at_end
use Rattle.system_io.specs.declared.reading.ReadFault.{ReadFault}
use Rattle.system_io.specs.Ports.{Passing, Came, Quiet, Missed}
use Rattle.source_core.specs.Sendings.{ClosesSo}
use Rattle.source_core.specs.Origins.{IsAddressText, IsOwn}
use Rattle.source_core.specs.Reports.{Knows, IsUnsettled, StandsSo, reported_by}
use Rattle.source_core.specs.Turns.{HasWaited, TurnEndsSo, try_nanos}
use Rattle.std.specs.declared.time.Duration.{Duration}

-- how many nanoseconds a datagram is awaited in a try, by how the move stands
abbrev pub wait_by : Duration → ℕ → Standing → ℕ
wait_by wait index standing.Acked = 2_000_000
wait_by wait index (standing.Ruled r) = try_nanos wait index
wait_by wait index standing.Open = try_nanos wait index

-- by what is known
abbrev pub IsWaitBy : Duration → ℕ → ℕ → Known → ℕ → Type 0
IsWaitBy wait index number known nanos = (s : Standing) × StandsSo known number s × (nanos ≡ wait_by wait index s)

-- what came last, which was awaited so many nanoseconds
abbrev pub IsLast : ℕ → Passing → Next → Type 0
IsLast nanos came next.GoesOn = (bytes : List ℕ) × (came ≡ Came bytes)
IsLast nanos came next.Waited = came ≡ Quiet nanos
IsLast nanos came (next.Clashed c) = (bytes : List ℕ) × (came ≡ Came bytes)
IsLast nanos came next.PortLost = came ≡ Missed

-- both have reported a verdict
abbrev pub is_ruled : Known → Bool
is_ruled known = is_some known.a.ruling && is_some known.b.ruling

-- a try that goes on has waited, unless both have reported a verdict
abbrev pub Waits : List Passing → Known → Next → Type 0
Waits came known next.GoesOn = ⊥
Waits came known next.Waited = HasWaited came ⊎ (is_ruled known ≡ true)
Waits came known (next.Clashed c) = Unit {0}
Waits came known next.PortLost = Unit {0}

-- ---- moves that were sent in no run but this

-- how many moves an arbiter has by what it has reported
abbrev pub ply_of : Option Ruling → ℕ
ply_of None = 0
ply_of (Some r) = r.ply

abbrev pub moves_of : Reported → ℕ
moves_of reported = max reported.count (ply_of reported.ruling)

-- an arbiter has more than were sent
abbrev pub IsBeyond : ℕ → Known → Started → Type 0
IsBeyond sent known s = (who : ArbiterId) × (s.count ≡ moves_of (reported_by known who)) × (sent < s.count) × IsAddressText (reported_by known who).from s.at.bytes

-- neither has more of a new game
abbrev pub IsWithin : Origin → ℕ → Known → Type 0
IsWithin Any sent known = Unit {0}
IsWithin New sent known = (moves_of known.a ≤ sent) × (moves_of known.b ≤ sent)

-- ---- a try

-- how what came ends a turn
abbrev pub loss_by : Next → Option Turn
loss_by next.GoesOn = None
loss_by next.Waited = None
loss_by (next.Clashed c) = Some (at_turn.Clashed c)
loss_by next.PortLost = Some at_turn.PortLost

abbrev pub TryWaits : List Passing → Known → Option Turn → Type 0
TryWaits came known None = HasWaited came ⊎ (is_ruled known ≡ true)
TryWaits came known (Some end) = end ≡ at_turn.Lost → ⊥

abbrev pub TryLearns : Stamp → List Passing → Known → Option Turn → Type 0
TryLearns stamp all known None = Knows stamp all known
TryLearns stamp all known (Some end) = (origin : Origin) (number plies : ℕ) (position : Parts) → TurnEndsSo origin stamp number plies position all known end

-- how a move stands, by all that has passed and by the board: the end of its turn other than a loss, or none where it is unsettled
abbrev pub EndsIf : Origin → ℕ → ℕ → Parts → Known → Option Turn → Type 0
EndsIf origin number plies position known None = (is_ruled known ≡ false) × ((stamp : Stamp) (all : List Passing) → Knows stamp all known → IsUnsettled stamp number all × IsOwn origin stamp plies all)
EndsIf origin number plies position known (Some end) = (end ≡ at_turn.Lost → ⊥) × ((stamp : Stamp) (all : List Passing) → Knows stamp all known → TurnEndsSo origin stamp number plies position all known end)

-- with what a run ends after a turn; none where it goes on
abbrev pub end_by : Turn → Option End
end_by at_turn.Acked = None
end_by (at_turn.Ruled r) = Some (at_end.Ruled r)
end_by (at_turn.Clashed c) = Some (at_end.Clashed c)
end_by (at_turn.Started s) = Some (at_end.Started s)
end_by (at_turn.Belied r) = Some (at_end.Belied r)
end_by at_turn.Lost = Some at_end.Lost
end_by at_turn.PortLost = Some at_end.PortLost

-- a line spells a legal move, after which the position is so, and there is room for it
pub record IsPlayedLine (notation : Notation) (position : Parts) (number : ℕ) (line : List ℕ) (m : Moves) (after : Parts) : Type 0 where
  pub spelled : Spells notation position line m
  pub legal : Legal position m after
  pub room : number < most_moves

-- how a game stands at the input's end, whatever has passed by which so much is known
abbrev pub StandsAtInputEnd : Origin → ℕ → Parts → Known → End → Type 0
StandsAtInputEnd origin number position known end = ((count : ℕ) → end ≡ at_end.Open count → is_ruled known ≡ false) × ((stamp : Stamp) (all : List Passing) → Knows stamp all known → ClosesSo origin stamp number position all end)

-- nothing is the cause of a failed read
abbrev pub no_cause : ReadFault → Type 0
no_cause fault = ⊥
