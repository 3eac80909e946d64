-- One move that is sent until the arbiters have acknowledged it, by what happens outside (this project's own).
use Rattle.std.specs.Prelude.{◌≡◌, ◌≤◌, ◌++◌, ℕ, List, [], ◌∷◌, Option, length, map}
use Rattle.std.specs.List.{AllByRecursion, flat_map}
use Rattle.std.specs.declared.net.socket_addr.SocketAddr.{SocketAddr}
use Rattle.board_core.specs.declared.moves.Move.{Move as Moves}
use Rattle.board_core.specs.declared.parts.Parts.{Parts}
use Rattle.move_msg.specs.Messages.{message_text}
use Rattle.system_io.specs.Ports.{Passing}
use Rattle.system_io.specs.declared.recipient.Recipient.{Recipient}
use Rattle.timeline.specs.Events.{Event, sent_to_each}
use Rattle.source_core.specs.Heard.{Happened, IsHearing, Moment, heard, sender_after}
use Rattle.source_core.specs.Reports.{Knows}
use Rattle.source_core.specs.Turns.{AllButLastWaited, HasSpelling, HasWaited, TurnEndsSo, WaitsSoLong, move_message}
use Rattle.source_core.specs.declared.known.Known.{Known}
use Rattle.source_core.specs.declared.turn.SendConfig.{SendConfig}
use Rattle.source_core.specs.declared.turn.Turn.{Turn}
use Rattle.source_core.specs.declared.turn.Turn.TheVariants as at_turn

-- one try: the datagram of the move is sent to each recipient, and then this came
abbrev pub try_events : Option SocketAddr → List Recipient → List ℕ → List Event → List Event
try_events sender to bytes came = sent_to_each sender to bytes ++ came

-- tries, one after the other: where a recipient is whoever sent the last datagram, each try goes to who that is by then
abbrev pub tries_events : Option SocketAddr → List Recipient → List ℕ → List (List Event) → List Event
tries_events sender to bytes [] = []
tries_events sender to bytes (came ∷ tries) = try_events sender to bytes came ++ tries_events (sender_after sender (try_events sender to bytes came)) to bytes tries

-- what was heard in each of them
abbrev pub heard_each : List (List Event) → List (List Passing)
heard_each tries = map heard tries

-- and in all of them
abbrev pub heard_all : List (List Event) → List Passing
heard_all tries = flat_map heard tries

-- In each of the tries of a move, before which so much was heard: whenever nothing came in time, a datagram was awaited as long as the terms
-- say for that try.
abbrev pub EachWaits : SendConfig → ℕ → List Passing → List (List Event) → Type 0
EachWaits terms number before tries =
    (earlier later : List (List Event)) (came : List Event) → tries ≡ earlier ++ came ∷ later → WaitsSoLong terms (length earlier) number (before ++ heard_all earlier) (heard came)

-- A turn: the one move is sent in some tries, at most so many, each of which waited so long. An arbiter counts as silent only when all are
-- used up.
pub record SendsMove (terms : SendConfig) (number : ℕ) (m : Moves) (plies : ℕ) (position : Parts) (old new : Moment) (known known' : Known) (end : Turn) (tries : List (List Event)) : Type 0 where
  pub spelling : HasSpelling terms.stamp number m
  pub few : length tries ≤ terms.tries
  pub hearing : AllByRecursion (AllByRecursion IsHearing) tries
  pub again : AllButLastWaited (heard_each tries)
  pub waited : (before : List Passing) → Knows terms.stamp before known → EachWaits terms number before tries
  pub lost : end ≡ at_turn.Lost → (length tries ≡ terms.tries) × AllByRecursion HasWaited (heard_each tries)
  pub happened : Happened old new (tries_events old.sender old.to (message_text (move_message terms.stamp number m)) tries)
  pub ends : (before : List Passing) → Knows terms.stamp before known → TurnEndsSo terms.origin terms.stamp number plies position (before ++ heard_all tries) known' end
