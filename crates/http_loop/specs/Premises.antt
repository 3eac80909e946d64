-- What is trusted of the system's sockets, of which the standard library claims nothing.
use Rattle.std.specs.Prelude.{Option, None}
use Rattle.http_loop.specs.Streams.{Streams}

-- STREAMS: both ends of a stream that is accepted are those of one connection of TCP, which came at the address, and end with it; reads
-- of one end give the bytes that the peer sent, in order, and what is written to the other goes to this peer, in order; what is reported
-- as ready under a key is a stream that was accepted under it, open or closed, or nothing
abbrev pub system_streams : Option Streams
system_streams = None
