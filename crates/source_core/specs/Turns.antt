-- One move that is sent until the arbiters have acknowledged it (this project's own).
use Rattle.std.specs.Prelude.{◌≡◌, ◌++◌, ◌*◌, ◌^◌, ◌⊎◌, ℕ, min, List, [], ◌∷◌, length}
use Rattle.std.specs.List.{Contains}
use Rattle.std.specs.Duration.{as_nanos, max_nanos}
use Rattle.std.specs.declared.time.Duration.{Duration}
use Rattle.board_core.specs.declared.moves.Move.{Move as Moves}
use Rattle.board_core.specs.declared.parts.Parts.{Parts}
use Rattle.move_msg.specs.declared.stamp.Stamp.{Stamp}
use Rattle.move_msg.specs.declared.arbiter_id.Sender.TheVariants.{Source}
use Rattle.move_msg.specs.declared.message.Message.{Message}
use Rattle.move_msg.specs.declared.message.Message.TheVariants.{Move}
use Rattle.move_msg.specs.Messages.{SpellsMessage, message_text}
use Rattle.source_core.specs.declared.known.Known.{Known}
use Rattle.source_core.specs.declared.turn.Next.{Next}
use Rattle.source_core.specs.declared.turn.Next.TheVariants as next
use Rattle.source_core.specs.declared.turn.SendConfig.{SendConfig}
use Rattle.source_core.specs.declared.turn.Turn.{Turn}
use Rattle.source_core.specs.declared.turn.Turn.TheVariants as at_turn
use Rattle.system_io.specs.Ports.{Passing, Quiet, Missed}
use Rattle.source_core.specs.declared.origin.Origin.{Origin}
use Rattle.source_core.specs.Origins.{EndsStarted, IsOwn}
use Rattle.source_core.specs.Reports.{Knows, IsAcked, IsClash, IsUnsettled}
use Rattle.source_core.specs.Boards.{IsBelied, IsBelievedRuling}

-- the message by which the source sends the move with this number
abbrev pub move_message : Stamp → ℕ → Moves → Message
move_message stamp number m = Move stamp Source number m

-- that message has a spelling: its number and its word fit
abbrev pub HasSpelling : Stamp → ℕ → Moves → Type 0
HasSpelling stamp number m = SpellsMessage (message_text (move_message stamp number m)) (move_message stamp number m)

-- how many datagrams one try receives at most, 2^64 - 1
abbrev pub most_answers : ℕ
most_answers = 18_446_744_073_709_551_615

-- a try has waited until nothing came in time, or has received as many datagrams as it may
abbrev pub HasWaited : List Passing → Type 0
HasWaited came = ((before : List Passing) × (nanos : ℕ) × (came ≡ before ++ Quiet nanos ∷ [])) ⊎ (length came ≡ most_answers)

-- so has each try but the last: the move isn't sent again before
abbrev pub AllButLastWaited : List (List Passing) → Type 0
AllButLastWaited tries = (earlier later : List (List Passing)) (came next : List Passing) → tries ≡ earlier ++ came ∷ next ∷ later → HasWaited came

-- Each try of a move waits twice as long as the one before it, up to eight times as long as the first; tries are counted from 0.
abbrev pub times_at : ℕ → ℕ
times_at index = 2 ^ min index 3

-- so many nanoseconds a try waits that isn't settled, as far as a duration goes
abbrev pub try_nanos : Duration → ℕ → ℕ
try_nanos wait index = min (as_nanos wait * times_at index) max_nanos

-- how many nanoseconds the next datagram is awaited in a try, by all that has passed
pub data IsWait (terms : SendConfig) (index number : ℕ) (all : List Passing) (nanos : ℕ) : Type 0 where
  -- as long as the try waits
  ForAnswers : (IsAcked terms.stamp number all → ⊥) → nanos ≡ try_nanos terms.wait index → IsWait terms index number all nanos
  -- two milliseconds for the verdicts that may follow: both have acknowledged the move, and neither has reported a verdict
  ForVerdicts : IsAcked terms.stamp number all → nanos ≡ 2_000_000 → IsWait terms index number all nanos

-- Of one try, before which so much has passed: whenever nothing came in time, a datagram was awaited so long.
abbrev pub WaitsSoLong : SendConfig → ℕ → ℕ → List Passing → List Passing → Type 0
WaitsSoLong terms index number before came = (first rest : List Passing) (nanos : ℕ) → came ≡ first ++ Quiet nanos ∷ rest → IsWait terms index number (before ++ first) nanos

-- what is known after something came, or what clashes in it
abbrev pub ComesTo : Stamp → List Passing → Known → Next → Type 0
ComesTo stamp all known next.GoesOn = Knows stamp all known
ComesTo stamp all known next.Waited = Knows stamp all known
ComesTo stamp all known (next.Clashed c) = IsClash stamp c all
ComesTo stamp all known next.PortLost = Contains all Missed

-- whatever was known of what passed before
abbrev pub Learns : Stamp → Known → Known → List Passing → Next → Type 0
Learns stamp old new came then' = (before : List Passing) → Knows stamp before old → ComesTo stamp (before ++ came) new then'

-- How a turn ended, by all that has passed, with so many moves and this position on the board. A report of more moves of a new game comes
-- before all that is known of the move.
abbrev pub TurnEndsSo : Origin → Stamp → ℕ → ℕ → Parts → List Passing → Known → Turn → Type 0
TurnEndsSo origin stamp number plies position all known at_turn.Acked = IsAcked stamp number all × Knows stamp all known × IsOwn origin stamp plies all
TurnEndsSo origin stamp number plies position all known (at_turn.Ruled r) = IsBelievedRuling stamp plies position r all × IsOwn origin stamp plies all
TurnEndsSo origin stamp number plies position all known (at_turn.Clashed c) = IsClash stamp c all
TurnEndsSo origin stamp number plies position all known (at_turn.Started s) = EndsStarted origin stamp plies s all
TurnEndsSo origin stamp number plies position all known (at_turn.Belied r) = IsBelied stamp plies position r all × IsOwn origin stamp plies all
TurnEndsSo origin stamp number plies position all known at_turn.Lost = IsUnsettled stamp number all × Knows stamp all known × IsOwn origin stamp plies all
TurnEndsSo origin stamp number plies position all known at_turn.PortLost = Contains all Missed
