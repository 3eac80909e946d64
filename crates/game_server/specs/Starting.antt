-- A game that is opened before any message of it came, and its request for moves, over one timeline (this project's own).
use Rattle.std.specs.Prelude.{◌≡◌, ℕ, List, Option, Some, None, Result, Ok, Err, IsSome, OnOk}
use Rattle.arbiter_core.specs.Resting.{awake}
use Rattle.arbiter_server.specs.declared.datagram_report.DatagramReport.{DatagramReport}
use Rattle.arbiter_server.specs.declared.datagram_report.DatagramReport.TheVariants.{KeeperLost, PortLost, Recorded, Refused}
use Rattle.arbiter_server.specs.declared.fault.OpenGameError.{OpenGameError}
use Rattle.arbiter_server.specs.declared.fault.OpenGameError.TheVariants as unopened
use Rattle.arbiter_server.specs.declared.line.Line.{Line}
use Rattle.arbiter_server.specs.declared.line.Line.TheVariants as line
use Rattle.judge_core.specs.Tables.{Holding}
use Rattle.move_msg.specs.Messages.{message_text}
use Rattle.move_msg.specs.Numbers.{most_wanted}
use Rattle.move_msg.specs.declared.arbiter_id.ArbiterId.TheVariants.{A}
use Rattle.move_msg.specs.declared.message.Message.{Message}
use Rattle.move_msg.specs.declared.message.Message.TheVariants.{Fetch}
use Rattle.move_msg.specs.declared.stamp.Stamp.{Stamp}
use Rattle.timeline.specs.Events.{Event}
use Rattle.timeline.specs.Outsides.{Adds, AddsSome, Outside}
use Rattle.game_folder.specs.Holdings.{GamesFacts}
use Rattle.game_server.specs.Datagrams.{HearsDatagram}
use Rattle.game_server.specs.Seats.{open_at}
use Rattle.game_server.specs.Sending.{address_of, request, request_sent}
use Rattle.game_server.specs.declared.seat.Reply.{Reply}
use Rattle.game_server.specs.declared.seat.Seat.{Seat}
use Rattle.game_server.specs.declared.server.Server.{Server}

-- a request for the game's first moves
abbrev pub opener : Stamp → Message
opener stamp = Fetch stamp A 0 most_wanted

-- why a line says that a game isn't open, if it does
abbrev pub opened_as : DatagramReport → Result (Unit {0}) OpenGameError
opened_as KeeperLost = Err unopened.Keeper
opened_as PortLost = Ok tt
opened_as (Refused fault) = Ok tt
opened_as (Recorded count verdict) = Ok tt

abbrev pub opened_by : Line → Result (Unit {0}) OpenGameError
opened_by (line.Answered stamp report) = opened_as report
opened_by (line.Unopened stamp why) = Err why
opened_by (line.Unread fault) = Ok tt
opened_by line.PortLost = Ok tt
opened_by line.StoreLost = Ok tt
opened_by line.MemoryLost = Ok tt

-- a game is opened as for such a request, whose reply goes to nobody, and is open then; or it isn't, for this reason
pub record OpensUnasked {T P F K S L G : Type 0} (o : Outside T P F K S L) (facts : GamesFacts G) (old new : Server G F) (stamp : Stamp) (result : Result (Unit {0}) OpenGameError) (events : List Event) : Type 0 where
  pub reply : Reply
  pub hears : HearsDatagram o facts old new (message_text (opener stamp)) reply events
  pub told : result ≡ opened_by reply.line
  pub is_open : OnOk result (IsSome (open_at new stamp))

-- so it is from one moment to another
abbrev pub OpensIn : {T P F K S L G : Type 0} → Outside T P F K S L → GamesFacts G → Server G F → Server G F → Stamp → T → T → Result (Unit {0}) OpenGameError → Type 0
OpensIn o facts old new stamp t t' result = AddsSome o t t' (OpensUnasked o facts old new stamp result)

-- the request for moves of a game that is open, if it has one
abbrev pub request_of : {F : Type 0} → Holding → Option (Seat F) → Option Message
request_of set None = None
request_of set (Some seat) = request (awake seat.state set)

abbrev pub request_at : {G F : Type 0} → Server G F → List ℕ → Option Message
request_at server stamp = request_of server.shared.tables (open_at server stamp)

-- it goes to each recipient of a port, from one moment to another
abbrev pub AsksIn : {T P F K S L G : Type 0} → Outside T P F K S L → P → Server G F → List ℕ → T → T → Type 0
AsksIn o port server stamp t t' = Adds o t t' (request_sent (address_of (o.port port)) (request_at server stamp))
