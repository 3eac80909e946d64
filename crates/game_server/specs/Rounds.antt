-- Datagrams that are answered together at a server of games, over one timeline (this project's own).
use Rattle.std.specs.Prelude.{◌≡◌, ◌<◌, ◌≤◌, ◌++◌, ℕ, Bool, true, false, List, [], ◌∷◌, length, map, Option, Result, Ok, Err}
use Rattle.std.specs.List.{AllByRecursion, flat_map}
use Rattle.std.specs.declared.net.socket_addr.SocketAddr.{SocketAddr}
use Rattle.arbiter_server.specs.declared.fault.OpenGameError.TheVariants as unopened
use Rattle.arbiter_server.specs.declared.fault.Uncommitted.{Uncommitted}
use Rattle.arbiter_server.specs.declared.fault.Uncommitted.TheVariants as uncommitted
use Rattle.arbiter_server.specs.declared.line.Line.{Line}
use Rattle.arbiter_server.specs.declared.line.Line.TheVariants as line
use Rattle.system_io.specs.declared.recipient.Recipient.{Recipient}
use Rattle.timeline.specs.Events.{Event, Came, Missed, Quiet}
use Rattle.timeline.specs.Outsides.{Outside}
use Rattle.game_folder.specs.Holdings.{CommitsGames, GamesFacts}
use Rattle.game_server.specs.Datagrams.{HearsDatagram}
use Rattle.game_server.specs.Sending.{AllSpelled, address, sent}
use Rattle.game_server.specs.Seats.{SameSeats}
use Rattle.game_server.specs.declared.seat.Reply.{Reply}
use Rattle.game_server.specs.declared.server.Server.{Server}

-- a datagram came from this sender, these events were made of it, and this is the reply
pub record Heard : Type 0 where
  pub from : Option SocketAddr
  pub datagram : List ℕ
  pub events : List Event
  pub reply : Reply

abbrev pub heard_events : Heard → List Event
heard_events h = Came h.from h.datagram ∷ h.events

-- datagrams are heard in turn
unfoldable pub HearsAll : {T P F K S L G : Type 0} → Outside T P F K S L → GamesFacts G → Server G F → List Heard → Server G F → Type 0
HearsAll o facts old [] new = new ≡ old
HearsAll {F} {G} o facts old (h ∷ hs) new = (mid : Server G F) × HearsDatagram o facts old mid h.datagram h.reply h.events × HearsAll o facts mid hs new

-- what ends the receives of a round: there are as many datagrams as may be answered together; no more have come; or a receive failed
pub data RoundEnd : Type 0 where
  IsFull : RoundEnd
  NoMore : RoundEnd
  ReceiveFails : RoundEnd

-- at most so many are taken, and a round is full where there are so many, and only then
pub record TakesUpTo (room : ℕ) (heard : List Heard) (end : RoundEnd) : Type 0 where
  pub few : length heard ≤ room
  pub full : length heard ≡ room → end ≡ IsFull
  pub only : end ≡ IsFull → length heard ≡ room

abbrev pub end_events : RoundEnd → List Event
end_events IsFull = []
end_events NoMore = Quiet 0 ∷ []
end_events ReceiveFails = Missed ∷ []

-- datagrams that were heard, and by which events what their games noted was committed, or not
pub record Round : Type 0 where
  pub heard : List Heard
  pub end : RoundEnd
  pub commits : List Event
  pub committed : Result (Unit {0}) Uncommitted

-- each message of the replies goes to each recipient, where that is the sender to whom its datagram came from
abbrev pub reply_sent : List Recipient → Heard → List Event
reply_sent to h = sent (address h.from to) h.reply.outputs.items

-- only what is committed is announced
abbrev pub round_sent : List Recipient → List Heard → Result (Unit {0}) Uncommitted → List Event
round_sent to heard (Ok x) = flat_map (reply_sent to) heard
round_sent to heard (Err why) = []

abbrev pub round_events : List Recipient → Round → List Event
round_events to r = (flat_map heard_events r.heard ++ end_events r.end) ++ (r.commits ++ round_sent to r.heard r.committed)

-- the line of a datagram whose answer is withheld
abbrev pub withheld_line : Line → Line
withheld_line (line.Answered stamp report) = line.Unopened stamp unopened.OutOfMemory
withheld_line (line.Unopened stamp why) = line.Unopened stamp unopened.OutOfMemory
withheld_line (line.Unread fault) = line.Unread fault
withheld_line line.PortLost = line.PortLost
withheld_line line.StoreLost = line.StoreLost
withheld_line line.MemoryLost = line.MemoryLost

-- its lines: one for each datagram; or why no more can be committed
abbrev pub lines_of : List Heard → Result (Unit {0}) Uncommitted → List Line
lines_of heard (Ok x) = map (λ h. h.reply.line) heard
lines_of heard (Err uncommitted.OutOfMemory) = map (λ h. withheld_line h.reply.line) heard
lines_of heard (Err uncommitted.StoreLost) = line.StoreLost ∷ []
lines_of heard (Err uncommitted.NotNoted) = line.MemoryLost ∷ []

-- no more can be committed
abbrev pub is_loss : Result (Unit {0}) Uncommitted → Bool
is_loss (Ok x) = false
is_loss (Err uncommitted.OutOfMemory) = false
is_loss (Err uncommitted.StoreLost) = true
is_loss (Err uncommitted.NotNoted) = true

-- what is sent has an encoding
abbrev pub IsSpelled : List Heard → Result (Unit {0}) Uncommitted → Type 0
IsSpelled heard (Ok x) = AllByRecursion (λ h. AllSpelled h.reply.outputs.items) heard
IsSpelled heard (Err why) = Unit {0}

-- There is at least one datagram. Each is heard in turn; then what was noted is committed, or not.
pub record IsRound {T P F K S L G : Type 0} (o : Outside T P F K S L) (facts : GamesFacts G) (old : Server G F) (r : Round) (new : Server G F) : Type 0 where
  pub mid : Server G F
  pub heard : HearsAll o facts old r.heard mid
  pub some : 0 < length r.heard
  pub commits : CommitsGames facts mid.shared.games new.shared.games r.committed r.commits
  pub same : SameSeats mid new
  pub spelled : IsSpelled r.heard r.committed
