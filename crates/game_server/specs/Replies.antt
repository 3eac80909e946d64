-- What a datagram is answered at a server of many games (this project's own).
use Rattle.std.specs.Prelude.{◌≡◌, true, List}
use Rattle.std.specs.List.{AllByRecursion}
use Rattle.arbiter_server.specs.Told.{line_words}
use Rattle.arbiter_server.specs.declared.datagram_report.DatagramReport.{DatagramReport}
use Rattle.arbiter_server.specs.declared.datagram_report.DatagramReport.TheVariants.{KeeperLost}
use Rattle.arbiter_server.specs.declared.line.Line.{Line}
use Rattle.arbiter_server.specs.declared.line.Line.TheVariants as line
use Rattle.move_msg.specs.declared.message.Message.{Message}
use Rattle.timeline.specs.Events.{Event}
use Rattle.game_server.specs.Fates.{Answered, Fate, Unopened, Unread, fate_line, fate_outputs, is_lost_at}
use Rattle.game_folder.specs.Holdings.{GamesFacts, known}
use Rattle.game_server.specs.Backed.{IsBacked}
use Rattle.game_server.specs.declared.seat.Reply.{Reply}

-- the line says this fate: of a game that is closed since its record wasn't kept, that it is lost
abbrev pub IsLineOf : Fate → Line → Type 0
IsLineOf (Unread fault) l = l ≡ line.Unread fault
IsLineOf (Unopened stamp why) l = l ≡ line.Unopened stamp why
IsLineOf (Answered stamp e is_kept) l = (report : DatagramReport) × (l ≡ line.Answered stamp report) × (is_lost_at e is_kept ≡ true → report ≡ KeeperLost)

-- the messages and the line are those of this fate
pub record IsReply (reply : Reply) (fate : Fate) : Type 0 where
  pub outputs : reply.outputs.items ≡ fate_outputs fate
  pub line : line_words reply.line ≡ fate_line fate
  pub told : IsLineOf fate reply.line

-- what messages say of records is known
abbrev pub AreBacked : {G : Type 0} → GamesFacts G → G → List Event → List Message → Type 0
AreBacked facts g before outputs = AllByRecursion (IsBacked (known facts g before)) outputs
