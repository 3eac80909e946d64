-- A run of a source: the moves of its input, one after the other, by what happens outside (this project's own).
use Rattle.std.specs.Prelude.{◌≡◌, ◌≤◌, ◌<◌, ◌+◌, ◌-◌, ◌++◌, ◌⊎◌, ℕ, Bool, List, [], ◌∷◌, length, slice_get, take, Option, Some, None, IfSome, IfOk, IsErr, OnErr, Result, Ok, Err}
use Rattle.std.specs.List.{AllByRecursion, Contains}
use Rattle.std.specs.Io.KnownBytes.{IsAtEnd}
use Rattle.std.specs.declared.net.socket_addr.SocketAddr.{SocketAddr}
use Rattle.board_core.specs.declared.moves.Move.{Move as Moves}
use Rattle.board_core.specs.declared.parts.Parts.{Parts}
use Rattle.board_core.specs.Moves.{Legal}
use Rattle.move_msg.specs.declared.stamp.Stamp.{Stamp}
use Rattle.move_msg.specs.Messages.{SpellsMessage, message_text}
use Rattle.move_msg.specs.Numbers.{most_moves}
use Rattle.move_msg.specs.TextLines.{ended}
use Rattle.move_notation.specs.Notations.{Spells}
use Rattle.system_io.specs.declared.output.WriteFault.{WriteFault}
use Rattle.system_io.specs.declared.reading.ReadFault.{ReadFault}
use Rattle.system_io.specs.declared.reading.ReadFault.TheVariants as fault
use Rattle.system_io.specs.declared.recipient.Recipient.{Recipient}
use Rattle.system_io.specs.LineReaders.{ReadsLine}
use Rattle.timeline.specs.Events.{Event, Flushed, LineRead, Refused, Sent, Wrote, sent_to_each}
use Rattle.timeline.specs.Outsides.{Outside, PortState}
use Rattle.timeline.specs.declared.stream.Stream.TheVariants.{Output}
use Rattle.source_core.specs.Heard.{IsHearing, OnlyNotes, heard, sender_after}
use Rattle.source_core.specs.Lines.{acked_words, end_words, ended_by}
use Rattle.source_core.specs.Origins.{IsOwn}
use Rattle.source_core.specs.Reports.{IsAcked, Knows}
use Rattle.source_core.specs.Sendings.{ClosesSo, IsRefusedLine, IsSentLast, causes, last_of}
use Rattle.source_core.specs.Tries.{EachWaits, heard_each, tries_events}
use Rattle.source_core.specs.Turns.{AllButLastWaited, HasSpelling, HasWaited, WaitsSoLong, move_message}
use Rattle.source_core.specs.declared.course.GameToSend.{GameToSend}
use Rattle.source_core.specs.declared.known.Known.{Known}
use Rattle.source_core.specs.declared.lines.End.{End}
use Rattle.source_core.specs.declared.lines.End.TheVariants as at_end
use Rattle.source_core.specs.declared.lines.Ended.{Ended}
use Rattle.source_core.specs.declared.turn.SendConfig.{SendConfig}

-- on which terms the moves of a game are sent, to whom, and who had sent the last datagram before that
pub record SourceTerms : Type 0 where
  pub terms : SendConfig
  pub to : List Recipient
  pub sender : Option SocketAddr

-- at a port
abbrev pub source_terms : SendConfig → PortState → SourceTerms
source_terms terms port = record { terms = terms; to = port.to; sender = port.sender }

-- where a run stands: what is left of the input, the position, the moves that are acknowledged, and all that has happened
pub record RunState : Type 0 where
  pub input : Option (List ℕ)
  pub position : Parts
  pub moves : List Moves
  pub events : List Event

-- the first state of a run
abbrev pub run_from : Option (List ℕ) → Parts → RunState
run_from input start = record { input = input; position = start; moves = []; events = [] }

-- the datagram of a move that follows these moves
abbrev pub datagram_of : SourceTerms → List Moves → Moves → List ℕ
datagram_of g moves m = message_text (move_message g.terms.stamp (length moves) m)

-- a move is sent in these tries, in this state
abbrev pub sends_in : SourceTerms → RunState → Moves → List (List Event) → List Event
sends_in g at m tries = tries_events (sender_after g.sender at.events) g.to (datagram_of g at.moves m) tries

-- a line is written, and goes out
abbrev pub gone_out : List ℕ → List Event
gone_out words = Wrote Output (ended words) ∷ Flushed Output ∷ []

-- ---- a move that is acknowledged

-- a line of the input, its move, the tries of that, and where the run stands after it
pub record MoveTurn : Type 0 where
  pub line : List ℕ
  pub had_come : Bool
  pub move : Moves
  pub tries : List (List Event)
  pub after : RunState

-- the line is read, and its move sent
abbrev pub read_and_sent : SourceTerms → RunState → MoveTurn → List Event
read_and_sent g at t = LineRead (Ok (Some t.line)) t.had_come ∷ sends_in g at t.move t.tries

-- tries of a move, at most so many, each of which waited so long; none is made before the one before it has waited
pub record AreTriesOf (g : SourceTerms) (at : RunState) (tries : List (List Event)) : Type 0 where
  pub few : length tries ≤ g.terms.tries
  pub hearing : AllByRecursion (AllByRecursion IsHearing) tries
  pub again : AllButLastWaited (heard_each tries)
  pub waited : EachWaits g.terms (length at.moves) (heard at.events) tries

-- The next line spells a legal move, which is sent as the move with its number until both have acknowledged it; then a line says how many
-- moves are acknowledged, and goes out.
pub record IsMoveTurn (g : SourceTerms) (at : RunState) (t : MoveTurn) : Type 0 where
  pub read : ReadsLine at.input t.after.input t.line
  pub spelled : Spells g.terms.notation at.position t.line t.move
  pub legal : Legal at.position t.move t.after.position
  pub room : length at.moves < most_moves
  pub spelling : HasSpelling g.terms.stamp (length at.moves) t.move
  pub tries : AreTriesOf g at t.tries
  pub moves : t.after.moves ≡ at.moves ++ t.move ∷ []
  pub events : t.after.events ≡ at.events ++ (read_and_sent g at t ++ gone_out (acked_words (length at.moves + 1)))
  pub acked : IsAcked g.terms.stamp (length at.moves) (heard t.after.events)
  -- of a new game no arbiter has reported a move that this run hasn't sent
  pub own : IsOwn g.terms.origin g.terms.stamp (length at.moves + 1) (heard t.after.events)

-- each turn begins where the one before it left the run
unfoldable pub AreMoveTurns : SourceTerms → RunState → List MoveTurn → RunState → Type 0
AreMoveTurns g old [] new = new ≡ old
AreMoveTurns g old (t ∷ ts) new = IsMoveTurn g old t × AreMoveTurns g t.after ts new

-- ---- the end of a run

-- the last move that is sent, which isn't acknowledged, or on which a verdict came
pub record IsLastSent (g : SourceTerms) (at : RunState) (sent : List Moves) (more : List Event) : Type 0 where
  pub line : List ℕ
  pub had_come : Bool
  pub move : Moves
  pub tries : List (List Event)
  pub input : Option (List ℕ)
  pub after : Parts
  pub read : ReadsLine at.input input line
  pub spelled : Spells g.terms.notation at.position line move
  pub legal : Legal at.position move after
  pub room : length at.moves < most_moves
  pub spelling : HasSpelling g.terms.stamp (length at.moves) move
  pub are : AreTriesOf g at tries
  pub only : sent ≡ move ∷ []
  pub happened : more ≡ LineRead (Ok (Some line)) had_come ∷ sends_in g at move tries

-- it was sent as often as it may be, and each try has waited
abbrev pub IsUsedUp : SourceTerms → List (List Event) → Type 0
IsUsedUp g tries = (length tries ≡ g.terms.tries) × AllByRecursion HasWaited (heard_each tries)

-- the last acknowledged move, if there is one, is sent once more
abbrev pub sent_again : Option SocketAddr → List Recipient → Stamp → ℕ → Option Moves → List Event
sent_again sender to stamp number None = []
sent_again sender to stamp number (Some m) = sent_to_each sender to (message_text (move_message stamp number m))

-- After the input's end the last acknowledged move is sent once more: an arbiter answers it with its count and its verdict, if it has one.
-- Then what comes in time is received, awaited as in the first try of the next move, and nothing more is sent.
pub record ClosesRun (g : SourceTerms) (at : RunState) (more : List Event) (end : End) : Type 0 where
  pub came : List Event
  pub spelling : IfSome (last_of at.moves) (HasSpelling g.terms.stamp (length at.moves - 1))
  pub happened : more ≡ sent_again (sender_after g.sender at.events) g.to g.terms.stamp (length at.moves - 1) (last_of at.moves) ++ came
  pub hearing : AllByRecursion IsHearing came
  pub waits : WaitsSoLong g.terms 0 (length at.moves) (heard at.events) (heard came)
  pub waited : (count : ℕ) → end ≡ at_end.Open count → HasWaited (heard came)
  pub stands : ClosesSo g.terms.origin g.terms.stamp (length at.moves) at.position (heard at.events ++ heard came) end

-- the end of a run whose input can't be read
abbrev pub unread_end : ReadFault → End
unread_end fault.Unreadable = at_end.Unread
unread_end fault.OutOfMemory = at_end.OutOfMemory

-- with what a run ends, and what is sent and happens after the acknowledged moves, up to its last line
pub data EndsRun (cause : ReadFault → Type 0) (g : SourceTerms) (at : RunState) (sent : List Moves) (more : List Event) (end : End) : Type 0 where
  -- no further line can be read
  NoLine : (why : ReadFault) (had_come : Bool) → cause why → end ≡ unread_end why → sent ≡ [] → more ≡ LineRead (Err why) had_come ∷ [] → EndsRun cause g at sent more end
  -- a line is read, and its move isn't sent
  NotSent : (line : List ℕ) (had_come : Bool) (input : Option (List ℕ)) → ReadsLine at.input input line → IsRefusedLine g.terms.notation at.position (length at.moves) line end → sent ≡ [] → more ≡ LineRead (Ok (Some line)) had_come ∷ [] → EndsRun cause g at sent more end
  -- the input has ended
  InputEnds : (had_come : Bool) (rest : List Event) → IsAtEnd at.input → ClosesRun g at rest end → sent ≡ [] → more ≡ LineRead (Ok None) had_come ∷ rest → EndsRun cause g at sent more end
  -- one more move is sent; an arbiter counts as silent only when all tries are used up
  LastSent : (last : IsLastSent g at sent more) → IsSentLast g.terms.origin g.terms.stamp (length at.moves) last.after (heard (at.events ++ more)) end → (end ≡ at_end.Lost → IsUsedUp g last.tries) → EndsRun cause g at sent more end

-- ---- all of it

-- Each datagram that is sent spells a move of this one list with its number: the message that stands at that place of the log with which the
-- worlds of two arbiters begin.
abbrev pub OnlySends : Stamp → List Moves → List Event → Type 0
OnlySends stamp moves events = (to : SocketAddr) (bytes : List ℕ) → Contains events (Sent to bytes) → (n : ℕ) × (m : Moves) × (slice_get moves n ≡ Some m) × SpellsMessage bytes (move_message stamp n m)

-- a line is written, and goes out; or, where the output failed, a front of it was written, or all of it, which can't go out
abbrev pub LineGoesOut : {X : Type 0} → List ℕ → Result X WriteFault → List Event → Type 0
LineGoesOut words (Ok x) events = events ≡ gone_out words
LineGoesOut words (Err fault) events = ((n : ℕ) × (events ≡ Wrote Output (take n (ended words)) ∷ Refused Output ∷ [])) ⊎ (events ≡ Wrote Output (ended words) ∷ Refused Output ∷ [])

-- a run has ended, and this is known then of the arbiters
pub record HasEnded (cause : ReadFault → Type 0) (g : SourceTerms) (at : RunState) (sent : List Moves) (more : List Event) (end : End) (known : Known) : Type 0 where
  pub ends : EndsRun cause g at sent more end
  pub knows : end ≡ at_end.Lost → Knows g.terms.stamp (heard (at.events ++ more)) known

-- These moves are sent: those of some turns, and one more, or none. A line for each of them goes out before the next line of the input is
-- read; where the output fails at a line, nothing is read or heard behind it.
pub data RunsTo (cause : ReadFault → Type 0) (g : SourceTerms) (start : Parts) (input : Option (List ℕ)) (moves : List Moves) (r : Result Ended WriteFault) (events : List Event) : Type 0 where
  -- the run ended, and its line was written, or not
  ToItsEnd : (turns : List MoveTurn) (at : RunState) → AreMoveTurns g (run_from input start) turns at → (sent : List Moves) (more : List Event) (end : End) (known : Known) → HasEnded cause g at sent more end known → (out : List Event) → LineGoesOut (end_words end) r out → IfOk r (λ ended. ended ≡ ended_by end known) → moves ≡ at.moves ++ sent → events ≡ at.events ++ (more ++ out) → RunsTo cause g start input moves r events
  -- the line of a move that was acknowledged was not written
  ToLostLine : (turns : List MoveTurn) (at : RunState) → AreMoveTurns g (run_from input start) turns at → (t : MoveTurn) → IsMoveTurn g at t → (out : List Event) → LineGoesOut (acked_words (length at.moves + 1)) r out → IsErr r → moves ≡ t.after.moves → events ≡ at.events ++ (read_and_sent g at t ++ out) → RunsTo cause g start input moves r events

-- A run, and then maybe notes for whoever runs it, but where the output failed. One number never has two moves, which is what an arbiter's
-- guarantee asks of a source.
pub record SendsGame (cause : ReadFault → Type 0) (g : SourceTerms) (start : Parts) (input : Option (List ℕ)) (r : Result Ended WriteFault) (events : List Event) : Type 0 where
  pub moves : List Moves
  pub run : List Event
  pub notes : List Event
  pub runs : RunsTo cause g start input moves r run
  pub noted : OnlyNotes notes
  pub cut : OnErr r (notes ≡ [])
  pub all : events ≡ run ++ notes
  pub source : OnlySends g.terms.stamp moves events

-- a run that goes on: the moves of some turns were sent, each with its line, and nothing else happened
pub record SendsFirst (g : SourceTerms) (start : Parts) (input : Option (List ℕ)) (events : List Event) : Type 0 where
  pub turns : List MoveTurn
  pub at : RunState
  pub are : AreMoveTurns g (run_from input start) turns at
  pub all : events ≡ at.events
  pub source : OnlySends g.terms.stamp at.moves events

-- These events are all, and it comes to this; or they happen first, and the run goes on. Where the output fails, a front of such events happens.
abbrev pub SendsOn : (ReadFault → Type 0) → SourceTerms → Parts → Option (List ℕ) → List Event → Option Ended → Type 0
SendsOn cause g start input events (Some ended) = SendsGame cause g start input (Ok ended) events
SendsOn cause g start input events None = SendsFirst g start input events

-- the moves of some lines are sent at a port
abbrev pub SendsMoves : {T P F K S L : Type 0} → Outside T P F K S L → GameToSend → L → P → Result Ended WriteFault → List Event → Type 0
SendsMoves o game lines port result = SendsGame (causes (o.lines lines).fails (o.lines lines).takes_memory) (source_terms game.terms (o.port port)) game.start (o.lines lines).left result
