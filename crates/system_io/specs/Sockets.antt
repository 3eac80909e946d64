-- The calls of a socket for datagrams, in the order made (this project's own).
use Rattle.std.specs.Prelude.{ℕ, List, take, Result, Ok, Err}
use Rattle.std.specs.declared.net.socket_addr.SocketAddr.{SocketAddr}

pub data SocketCall : Type 0 where
  -- a datagram was received from this address; these are its first 64 bytes
  Arrived : (from : SocketAddr) (bytes : List ℕ) → SocketCall
  -- a receive gave no datagram
  NoneCame : SocketCall
  -- these bytes were given to the system for this address, whether or not it took them
  Sent : (to : SocketAddr) (bytes : List ℕ) → SocketCall

-- the call that was made to receive, by its answer
abbrev pub receive_call : {E : Type 0} → Result (ℕ × SocketAddr) E → List ℕ → SocketCall
receive_call (Ok came) buffer = Arrived came.1 (take came.0 buffer)
receive_call (Err e) buffer = NoneCame
