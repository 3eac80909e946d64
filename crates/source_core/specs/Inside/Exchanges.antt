-- One step of a turn, by what happens outside; cited by private functions alone.
use Rattle.std.specs.Prelude.{◌≡◌, ◌++◌, ℕ, List, [], ◌∷◌, Option}
use Rattle.std.specs.List.{AllByRecursion}
use Rattle.move_msg.specs.declared.stamp.Stamp.{Stamp}
use Rattle.system_io.specs.Ports.{Passing}
use Rattle.timeline.specs.Events.{Event}
use Rattle.timeline.specs.Outsides.{Outside, sent_by}
use Rattle.source_core.specs.Heard.{Happened, IsHearing, Moment, heard, moment}
use Rattle.source_core.specs.Inside.Steps.{IsLast, TryLearns, TryWaits, Waits}
use Rattle.source_core.specs.Reports.{Knows}
use Rattle.source_core.specs.Tries.{SendsMove, try_events}
use Rattle.source_core.specs.Turns.{Learns, WaitsSoLong}
use Rattle.source_core.specs.declared.exchange.Exchange.{Exchange}
use Rattle.source_core.specs.declared.exchange.Sent.{Sent}
use Rattle.source_core.specs.declared.exchange.Try.{Try}
use Rattle.source_core.specs.declared.known.Known.{Known}
use Rattle.source_core.specs.declared.turn.Next.{Next}
use Rattle.source_core.specs.declared.turn.SendConfig.{SendConfig}
use Rattle.source_core.specs.declared.turn.Turn.{Turn}

-- one datagram was awaited so long, and one thing was heard
pub record HearsOne (stamp : Stamp) (nanos : ℕ) (old new : Moment) (known known' : Known) (end : Next) : Type 0 where
  pub came : List Event
  pub one : Passing
  pub hearing : AllByRecursion IsHearing came
  pub only : heard came ≡ one ∷ []
  pub happened : Happened old new came
  pub last : IsLast nanos one end
  pub learns : Learns stamp known known' (one ∷ []) end

-- the try with this number has come to its end
pub record EndsTry (terms : SendConfig) (index number : ℕ) (old new : Moment) (known known' : Known) (end : Next) : Type 0 where
  pub came : List Event
  pub hearing : AllByRecursion IsHearing came
  pub happened : Happened old new came
  pub waits : Waits (heard came) known' end
  pub waited : (before : List Passing) → Knows terms.stamp before known → WaitsSoLong terms index number before (heard came)
  pub learns : Learns terms.stamp known known' (heard came) end

-- the try with this number: it has waited, unless both have reported a verdict, or it ends the turn, whichever move it was
pub record TriesOnce (terms : SendConfig) (index number : ℕ) (bytes : List ℕ) (old new : Moment) (known known' : Known) (end : Option Turn) : Type 0 where
  pub came : List Event
  pub hearing : AllByRecursion IsHearing came
  pub happened : Happened old new (try_events old.sender old.to bytes came)
  pub waits : TryWaits (heard came) known' end
  pub waited : (before : List Passing) → Knows terms.stamp before known → WaitsSoLong terms index number before (heard came)
  pub learns : (before : List Passing) → Knows terms.stamp before known → TryLearns terms.stamp (before ++ heard came) known' end

-- ---- so between two moments of an exchange

-- bytes are sent to each recipient
abbrev pub SendsBytes : {T P F K S L : Type 0} → Outside T P F K S L → T → T → Exchange P → Exchange P → List ℕ → Type 0
SendsBytes o old new e e' bytes = Happened (moment o old e.port) (moment o new e'.port) (sent_by (o.port e.port) bytes)

abbrev pub HearsOneAt : {T P F K S L : Type 0} → Outside T P F K S L → T → T → Exchange P → Exchange P → Stamp → ℕ → Next → Type 0
HearsOneAt o old new e e' stamp nanos end = HearsOne stamp nanos (moment o old e.port) (moment o new e'.port) e.known e'.known end

abbrev pub EndsTryAt : {T P F K S L : Type 0} → Outside T P F K S L → T → T → Exchange P → Exchange P → SendConfig → Try → Next → Type 0
EndsTryAt o old new e e' terms at end = EndsTry terms at.index at.number (moment o old e.port) (moment o new e'.port) e.known e'.known end

abbrev pub TriesOnceAt : {T P F K S L : Type 0} → Outside T P F K S L → T → T → Exchange P → Exchange P → SendConfig → Try → List ℕ → Option Turn → Type 0
TriesOnceAt o old new e e' terms at bytes end = TriesOnce terms at.index at.number bytes (moment o old e.port) (moment o new e'.port) e.known e'.known end

-- a move is sent in some tries
abbrev pub SendsMoveAt : {T P F K S L : Type 0} → Outside T P F K S L → T → T → Exchange P → Exchange P → SendConfig → Sent → Turn → Type 0
SendsMoveAt o old new e e' terms sent turn =
    (tries : List (List Event)) × SendsMove terms sent.number sent.m sent.board.plies sent.board.position.now (moment o old e.port) (moment o new e'.port) e.known e'.known turn tries
