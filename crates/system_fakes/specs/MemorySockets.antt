-- The calls of a socket in memory (this project's own).
use Rattle.std.specs.Prelude.{List, Option, Some, None, cond, map}
use Rattle.system_fakes.specs.declared.memory_socket.MadeSocketCall.{MadeSocketCall}
use Rattle.system_fakes.specs.declared.memory_socket.MadeSocketCall.TheVariants as made
use Rattle.system_fakes.specs.declared.memory_socket.MemorySocket.{MemorySocket}
use Rattle.system_io.specs.Sockets.{SocketCall, Arrived, NoneCame, Sent}

abbrev pub socket_call_of : MadeSocketCall → SocketCall
socket_call_of (made.Arrived from bytes) = Arrived from bytes.items
socket_call_of made.NoneCame = NoneCame
socket_call_of (made.Sent to bytes) = Sent to bytes.items

-- the calls that were made, where memory for them was never refused
abbrev pub socket_calls_made : MemorySocket → Option (List SocketCall)
socket_calls_made s = cond s.is_whole (Some (map socket_call_of s.made.items)) None
