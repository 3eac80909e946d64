-- The limits of a server, and how it begins (this project's own).
use Rattle.std.specs.Prelude.{◌≡◌, ℕ, List, [], Option}
use Rattle.std.specs.Duration.{as_nanos}
use Rattle.http_loop.specs.declared.server.Limits.{Limits}
use Rattle.http_loop.specs.declared.server.Server.{Server}
use Rattle.http_loop.specs.Servers.{HasServed, limits_of, listener_of}
use Rattle.http_loop.specs.Streams.{HasNoOpen, Streams, closed_of}

-- How many connections there are; how long each may take for a request and its answer, and how often they are looked through, in
-- nanoseconds; how many bytes a head and a body have; and how many may wait to be sent where the next request is answered.
pub record HasLimits (limits : Limits) : Type 0 where
  pub connections : limits.connections ≡ 512
  pub exchange : as_nanos limits.exchange ≡ 10_000_000_000
  pub sweep : as_nanos limits.sweep ≡ 1_000_000_000
  pub head : limits.config.limits.max_head_len ≡ 16_384
  pub body : limits.config.max_body_len ≡ 16_384
  pub waiting : limits.config.max_pending ≡ 0

-- a server with these limits, of which no stream was served yet; so it is if none is open
pub record IsOpened {C L R W : Type 0} (streams : L → Option Streams) (remaining : R → Option (List ℕ)) (contents : W → Option (List ℕ)) (server : Server C L R W) : Type 0 where
  pub limits : HasLimits (limits_of server)
  pub fresh : HasNoOpen (streams (listener_of server)) → HasServed streams remaining contents [] (closed_of (streams (listener_of server))) server
