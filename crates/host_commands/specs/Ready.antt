-- The line that tells the address of a port (this project's own).
use Rattle.std.specs.Prelude.{◌≡◌, ℕ, Bool, true, false, List, [], Option, Some, None, Result, Ok, Err}
use Rattle.std.specs.declared.net.socket_addr.SocketAddr.{SocketAddr}
use Rattle.answer_parts.specs.Lines.{ready_words}
use Rattle.arbiter_server.specs.ServedLines.{refused_port}
use Rattle.line_teller.specs.ToldLines.{refused_memory}
use Rattle.move_msg.specs.TextLines.{ended}
use Rattle.timeline.specs.Events.{Event}
use Rattle.host_commands.specs.Steps.{AndThen, AllOpen, Step}

-- the line, with its line feed; or the address isn't known, or memory for the line was refused
pub data IsReadyLine (own : Option SocketAddr) (result : Result (List ℕ) (List ℕ)) (events : List Event) : Type 0 where
  LineIs : (at : SocketAddr) → own ≡ Some at → result ≡ Ok (ended (ready_words at)) → events ≡ [] → IsReadyLine own result events
  NoAddress : own ≡ None → result ≡ Err refused_port → events ≡ [] → IsReadyLine own result events
  NoRoomForLine : result ≡ Err refused_memory → events ≡ [] → IsReadyLine own result events

-- the same where it is wanted, and none where it isn't
abbrev pub MakesLineIf : Bool → Option SocketAddr → Step (Option (List ℕ))
MakesLineIf false own = AllOpen None
MakesLineIf true own = AndThen (IsReadyLine own) (λ line. AllOpen (Some line))
