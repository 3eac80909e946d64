-- A game that is opened unasked before a run (this project's own).
use Rattle.std.specs.Prelude.{◌≡◌, List, [], ◌∷◌, length, None, Result}
use Rattle.arbiter_server.specs.declared.fault.OpenGameError.{OpenGameError}
use Rattle.move_msg.specs.Messages.{message_text}
use Rattle.move_msg.specs.declared.stamp.Stamp.{Stamp}
use Rattle.timeline.specs.Events.{Event}
use Rattle.timeline.specs.Outsides.{Outside}
use Rattle.game_folder.specs.Holdings.{GamesFacts}
use Rattle.game_server.specs.Rounds.{Heard}
use Rattle.game_server.specs.Starting.{OpensUnasked, opener}
use Rattle.game_server.specs.declared.seat.Reply.{Reply}
use Rattle.game_server.specs.declared.server.Server.{Server}

-- it is as a datagram that was heard, from nobody
abbrev pub opened_as : Stamp → List Event → Reply → Heard
opened_as stamp events reply = record { from = None; datagram = message_text (opener stamp); events = events; reply = reply }

-- A run begins with this server, which was another one: nothing was opened since, or one game was, unasked.
pub data Begins {T P F K S L G : Type 0} (o : Outside T P F K S L) (facts : GamesFacts G) (first : Server G F) (unasked : List Heard) (old : Server G F) : Type 0 where
  WithNone : old ≡ first → unasked ≡ [] → Begins o facts first unasked old
  WithOne : (stamp : Stamp) (result : Result (Unit {0}) OpenGameError) (events : List Event) → length stamp ≡ 16
      → (u : OpensUnasked o facts first old stamp result events) → unasked ≡ opened_as stamp events u.reply ∷ [] → Begins o facts first unasked old
