-- What a clause reads of a server.
use Rattle.std.specs.Prelude.{◌≡◌, ◌≤◌, ℕ, All, IsFalse, List, [], ◌++◌, Option}
use Rattle.std.specs.Duration.{as_nanos}
use Rattle.std.specs.Time.{instant_nanos}
use Rattle.std.specs.VecDeque.{deque_items}
use Rattle.std.specs.declared.time.Instant.{Instant}
use Rattle.slab.specs.Slab.{slab_len}
use Rattle.http.specs.declared.request.Request.{Request}
use Rattle.http_server.specs.Exchange.{Call, Chain}
use Rattle.http_server.specs.declared.response.Response.{Response}
use Rattle.http_server.specs.declared.state.Config.{Config}
use Rattle.http_loop.specs.declared.server.Limits.{Limits}
use Rattle.http_loop.specs.declared.server.Server.{Server}
use Rattle.http_loop.specs.Serving.{IsServing}
use Rattle.http_loop.specs.Streams.{Closed, HasNoOpen, Streams, closed_of}
use Rattle.http_loop.specs.Times.{has_passed, lingers_too_long}
use Rattle.http_loop.specs.Turns.{AreQueued}

module _ {C L R W : Type 0} where
  abbrev pub listener_of : Server C L R W → L
  listener_of server = server.listener

  abbrev pub limits_of : Server C L R W → Limits
  limits_of server = server.limits

  -- how many connections there are
  abbrev pub count_of : Server C L R W → ℕ
  count_of server = slab_len server.peers

  -- The limits are the same, and where there were no more connections than they say, there are no more now.
  pub record KeepsLimits (old new : Server C L R W) : Type 0 where
    pub same : limits_of new ≡ limits_of old
    pub few : count_of old ≤ (limits_of old).connections → count_of new ≤ (limits_of old).connections

  -- the limits of each connection
  abbrev pub config_of : Server C L R W → Config
  config_of server = server.limits.config

  -- the keys of the connections that may go on, the one first that has waited longest
  abbrev pub queue_of : Server C L R W → List ℕ
  queue_of server = deque_items server.going

  -- when late connections were looked for last
  abbrev pub swept_at : Server C L R W → Instant
  swept_at server = server.swept

  -- late connections were looked for no longer ago than the limits say
  abbrev pub IsSwept : Server C L R W → Type 0
  IsSwept server = IsFalse (has_passed server.swept server.now (as_nanos (limits_of server).sweep))

  -- Each connection that may go on is queued, once, and all others rest; and at the last look no stream lingered for more than two seconds.
  pub record IsInOrder (lingering : L → List Instant) (server : Server C L R W) : Type 0 where
    pub queued : AreQueued server.peers (queue_of server)
    pub swept : instant_nanos server.swept ≤ instant_nanos server.now
    pub in_time : All (λ closed. IsFalse (lingers_too_long server.swept closed)) (lingering server.listener)

  -- if so it was, so it is
  abbrev pub KeepsOrder : (L → List Instant) → Server C L R W → Server C L R W → Type 0
  KeepsOrder lingering old new = IsInOrder lingering old → IsInOrder lingering new

  module _ (streams : L → Option Streams) (remaining : R → Option (List ℕ)) (contents : W → Option (List ℕ)) where
    -- All streams of the listener that are open, or were closed since these, have been served with these calls.
    abbrev pub HasServed : List Call → List Closed → Server C L R W → Type 0
    HasServed calls before server = IsServing remaining contents server.limits.config calls before (streams server.listener) server.peers

    -- a server whose listener had no open stream has served all that were closed since
    abbrev pub BeginsServed : L → Server C L R W → Type 0
    BeginsServed listener server = HasNoOpen (streams listener) → HasServed [] (closed_of (streams listener)) server

    -- if so it was, so it is
    abbrev pub ServesStill : Server C L R W → Server C L R W → Type 0
    ServesStill old new = (calls : List Call) (before : List Closed) → HasServed calls before old → HasServed calls before new

    -- The service was called so from one of its states to the other, and what had been served still is, with these calls.
    abbrev pub ServesCalls : {S : Type 0} → (S → Request (List ℕ) → Response → S → Type 0) → S → S
        → Server C L R W → Server C L R W → Type 0
    ServesCalls answers before after old new =
        (more : List Call) × Chain answers before more after
        × ((calls : List Call) (closed : List Closed) → HasServed calls closed old → HasServed (calls ++ more) closed new)

    -- no stream is open any more
    abbrev pub ClosesAll : Server C L R W → Server C L R W → Type 0
    ClosesAll old new = (calls : List Call) (before : List Closed) → HasServed calls before old → HasNoOpen (streams new.listener)
