-- Parts of a round; cited by private clauses alone.
use Rattle.std.specs.Prelude.{◌≡◌, ◌<◌, ◌++◌, ℕ, Bool, true, false, List, [], ◌∷◌, cond, length, map, take, Option, Some, None, Result, Ok, Err, OnOk}
use Rattle.std.specs.List.{AllByRecursion, flat_map}
use Rattle.std.specs.declared.net.socket_addr.SocketAddr.{SocketAddr}
use Rattle.arbiter_server.specs.Games.{CommonView}
use Rattle.arbiter_server.specs.declared.line.Line.{Line}
use Rattle.system_io.specs.declared.output.WriteFault.{WriteFault}
use Rattle.system_io.specs.declared.port.PortFault.{PortFault}
use Rattle.system_io.specs.declared.recipient.Recipient.{Recipient}
use Rattle.timeline.specs.Events.{Event, Came, Missed, Quiet, is_done}
use Rattle.timeline.specs.Outsides.{Adds, AddsSome, Outside}
use Rattle.game_folder.specs.Holdings.{GamesFacts}
use Rattle.game_server.specs.Datagrams.{HearsDatagram}
use Rattle.game_server.specs.Printing.{KnowsLines, TextEnd, WritesLines, after_lines, form_in, is_out, text_events, written_text}
use Rattle.game_server.specs.Rounds.{Heard, HearsAll, ReceiveFails, RoundEnd, TakesUpTo, end_events, heard_events, withheld_line}
use Rattle.game_server.specs.Runs.{IsTurn, IsWithin, Turn, came_in, deed_lines, ends_run, turn_events}
use Rattle.game_server.specs.Inside.HeldReplies.{RepliesView}
use Rattle.game_server.specs.Seats.{IsNewServer}
use Rattle.game_server.specs.Sending.{AllSpelled, address, sent}
use Rattle.game_server.specs.declared.lines.Lines.{Lines}
use Rattle.game_server.specs.declared.replies.Held.{Held}
use Rattle.game_server.specs.declared.running.AfterRound.{AfterRound}
use Rattle.game_server.specs.declared.running.AfterRound.TheVariants.{GoesOn, Stops}
use Rattle.game_server.specs.declared.running.PortServer.{PortServer}
use Rattle.game_server.specs.declared.server.Server.{Server}
use Rattle.move_msg.specs.TextLines.{ended}
use Rattle.arbiter_server.specs.Told.{line_words}

-- ---- lines

-- this is written of a line after these texts, and the line is remembered
pub record PicksText (before : List (List ℕ)) (old new : Lines) (line : Line) (text : Option (List ℕ)) : Type 0 where
  pub is : text ≡ written_text (form_in old) before line
  pub after : KnowsLines new (ended (line_words line) ∷ before)
  pub same : form_in new ≡ form_in old

-- a text went out, or the output failed
abbrev pub IsTextEnd : Bool → List ℕ → List Event → Type 0
IsTextEnd done text events = (e : TextEnd) × (events ≡ text_events text e) × (is_out e ≡ done)

-- lines are written after these texts
pub record WritesAll {T P F K S L : Type 0} (o : Outside T P F K S L) (before : List (List ℕ)) (old new : Lines) (all : List Line) (t t' : T) (result : Result (Unit {0}) WriteFault) : Type 0 where
  pub made : AddsSome o t t' (WritesLines (form_in old) before all (is_done result))
  pub after : OnOk result (KnowsLines new (after_lines before all))
  pub same : form_in new ≡ form_in old

-- the line of a datagram, whose answer is sent or withheld
abbrev pub held_line : Bool → Held → Line
held_line is_sent h = cond is_sent h.reply.line (withheld_line h.reply.line)

abbrev pub held_lines : Bool → List Held → List Line
held_lines is_sent held = map (held_line is_sent) held

-- ---- what is sent

abbrev pub held_sent : List Recipient → Held → List Event
held_sent to h = sent (address h.sender to) h.reply.outputs.items

abbrev pub all_sent : List Recipient → List Held → List Event
all_sent to held = flat_map (held_sent to) held

abbrev pub AreSpelled : List Held → Type 0
AreSpelled held = AllByRecursion (λ h. AllSpelled h.reply.outputs.items) held

-- ---- what is gathered

-- the event of a receive
abbrev pub received : Result (Option ℕ) PortFault → Option SocketAddr → List ℕ → Event
received (Ok (Some n)) from buffer = Came from (take n buffer)
received (Ok None) from buffer = Quiet 0
received (Err fault) from buffer = Missed

abbrev pub ReceivesNext : {T P F K S L : Type 0} → Outside T P F K S L → P → List ℕ → Result (Option ℕ) PortFault → T → T → Type 0
ReceivesNext o port buffer result t t' = Adds o t t' (received result (o.port port).sender buffer ∷ [])

-- a datagram is heard, and its reply is held behind these
pub record HearsOne {T P F K S L G : Type 0} (o : Outside T P F K S L) (facts : GamesFacts G) (old new : Server G F) (datagram : List ℕ) (sender : Option SocketAddr) (was now : RepliesView) (events : List Event) : Type 0 where
  pub held : Held
  pub hears : HearsDatagram o facts old new datagram held.reply events
  pub from : held.sender ≡ sender
  pub holds : now ≡ record was { held = was.held ++ held ∷ [] }

abbrev pub HearsOneIn : {T P F K S L G : Type 0} → Outside T P F K S L → GamesFacts G → Server G F → Server G F → List ℕ → Option SocketAddr → RepliesView → RepliesView → T → T → Type 0
HearsOneIn o facts old new datagram sender was now t t' = AddsSome o t t' (HearsOne o facts old new datagram sender was now)

-- what is held of a datagram that was heard
abbrev pub AreHeld : List Heard → List Held → Type 0
AreHeld [] [] = Unit {0}
AreHeld [] (x ∷ held) = ⊥
AreHeld (h ∷ heard) [] = ⊥
AreHeld (h ∷ heard) (x ∷ held) = (h.reply ≡ x.reply) × (h.from ≡ x.sender) × AreHeld heard held

-- some came, for which there was room; or none did, since a receive failed
abbrev pub IsGathered : Bool → ℕ → List Heard → RoundEnd → Type 0
IsGathered true most heard end = (0 < length heard) × TakesUpTo most heard end
IsGathered false most heard end = (heard ≡ []) × (end ≡ ReceiveFails)

pub record Gathers {T P F K S L G : Type 0} (o : Outside T P F K S L) (facts : GamesFacts G) (most : ℕ) (old new : Server G F) (held : List Held) (came : Bool) (events : List Event) : Type 0 where
  pub heard : List Heard
  pub end : RoundEnd
  pub hears : HearsAll o facts old heard new
  pub are_held : AreHeld heard held
  pub is : IsGathered came most heard end
  pub events_are : events ≡ flat_map heard_events heard ++ end_events end

pub record GathersFrom {T P F K S L G : Type 0} (o : Outside T P F K S L) (facts : GamesFacts G) (most : ℕ) (old new : Server G F) (was now : RepliesView) (t t' : T) (came : Bool) : Type 0 where
  pub made : AddsSome o t t' (Gathers o facts most old new now.held came)
  pub most_is : now.most ≡ was.most

-- ---- a turn

-- the last line of a run is written
pub record EndsTurn {T P F K S L : Type 0} (o : Outside T P F K S L) (before : List (List ℕ)) (old new : Lines) (line : Line) (t t' : T) (result : Result AfterRound WriteFault) : Type 0 where
  pub made : AddsSome o t t' (WritesLines (form_in old) before (line ∷ []) (is_done result))
  pub stops : OnOk result (result ≡ Ok Stops)
  pub same : form_in new ≡ form_in old

-- replies are sent or withheld, and then their lines are written
pub record ConcludesRound {T P F K S L : Type 0} (o : Outside T P F K S L) (before : List (List ℕ)) (to : List Recipient) (is_sent : Bool) (held : List Held) (old new : Lines) (t t' : T) (result : Result AfterRound WriteFault) : Type 0 where
  pub spelled : is_sent ≡ true → AreSpelled held
  pub made : AddsSome o t t' (λ events. (lines : List Event) × (events ≡ cond is_sent (all_sent to held) [] ++ lines) × WritesLines (form_in old) before (held_lines is_sent held) (is_done result) lines)
  pub after : OnOk result (KnowsLines new (after_lines before (held_lines is_sent held)))
  pub same : form_in new ≡ form_in old
  pub goes : OnOk result (result ≡ Ok (GoesOn (length held)))

-- whether the run goes on behind a turn
abbrev pub IsAfter : Turn → Result AfterRound WriteFault → Type 0
IsAfter t (Ok (GoesOn n)) = (ends_run t.deed ≡ false) × (t.is_out ≡ true) × (n ≡ came_in t.deed)
IsAfter t (Ok Stops) = (ends_run t.deed ≡ true) × (t.is_out ≡ true)
IsAfter t (Err fault) = t.is_out ≡ false

pub record TakesTurn {T P F K S L G : Type 0} (o : Outside T P F K S L) (facts : GamesFacts G) (before : List (List ℕ)) (most : ℕ) (old new : PortServer G F) (port : P) (t t' : T) (result : Result AfterRound WriteFault) : Type 0 where
  pub turn : Turn
  pub is : IsTurn o facts (form_in old.lines) before old.server turn new.server
  pub within : IsWithin most turn.deed
  pub goes : IsAfter turn result
  pub happens : Adds o t t' (turn_events (o.port port).to turn)
  pub after : result ≡ Ok (GoesOn (came_in turn.deed)) → KnowsLines new.lines (after_lines before (deed_lines turn.deed))
  pub same : form_in new.lines ≡ form_in old.lines

pub record IsNewPortServer {G F : Type 0} (common : CommonView) (games : G) (lines : Lines) (at : PortServer G F) : Type 0 where
  pub server : IsNewServer common games at.server
  pub most : at.replies.most ≡ common.together
  pub lines_are : at.lines ≡ lines

-- ---- behind the texts that are known

abbrev pub PrintsIn : {T P F K S L : Type 0} → Outside T P F K S L → Lines → Lines → List Line → T → T → Result (Unit {0}) WriteFault → Type 0
PrintsIn o old new all t t' result = (before : List (List ℕ)) → KnowsLines old before → WritesAll o before old new all t t' result

abbrev pub EndsIn : {T P F K S L : Type 0} → Outside T P F K S L → Lines → Lines → Line → T → T → Result AfterRound WriteFault → Type 0
EndsIn o old new line t t' result = (before : List (List ℕ)) → KnowsLines old before → EndsTurn o before old new line t t' result

abbrev pub ConcludesIn : {T P F K S L : Type 0} → Outside T P F K S L → P → Bool → List Held → Lines → Lines → T → T → Result AfterRound WriteFault → Type 0
ConcludesIn o port is_sent held old new t t' result = (before : List (List ℕ)) → KnowsLines old before → ConcludesRound o before (o.port port).to is_sent held old new t t' result

abbrev pub TurnsIn : {T P F K S L G : Type 0} → Outside T P F K S L → GamesFacts G → ℕ → PortServer G F → PortServer G F → P → T → T → Result AfterRound WriteFault → Type 0
TurnsIn o facts most old new port t t' result = (before : List (List ℕ)) → KnowsLines old.lines before → TakesTurn o facts before most old new port t t' result
