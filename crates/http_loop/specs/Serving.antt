-- What passes over the streams of a listener, whose connections are served in turn.
use Rattle.std.specs.Prelude.{◌≡◌, ℕ, List, ◌++◌, Option, Some, None, All, Contains}
use Rattle.std.specs.Io.KnownBytes.{Appends, Consumes}
use Rattle.slab.specs.Slab.{Slab, get, slab_len}
use Rattle.http.specs.declared.request.Request.{Request}
use Rattle.http_server.specs.Connection.{config_of, history}
use Rattle.http_server.specs.Exchange.{Call, Chain}
use Rattle.http_server.specs.History.{History, IsServed}
use Rattle.http_server.specs.declared.response.Response.{Response}
use Rattle.http_server.specs.declared.state.Config.{Config}
use Rattle.http_loop.specs.declared.peer.Peer.{Peer}
use Rattle.http_loop.specs.Streams.{Closed, Stream, Streams}

-- What the stream gave is what one connection received, and what it got is what that one sent: the answers to the requests in it, in
-- their order (`IsServed`). Each of its calls is among these.
pub record IsServedOver (config : Config) (calls : List Call) (came left : Stream) : Type 0 where
  pub history : History
  pub served : ∥ IsServed config history ∥₁
  pub received : Consumes came.gives left.gives history.received
  pub sent : Appends came.got left.got history.sent
  pub among : All (Contains calls) history.calls

-- so it is of each of these streams
abbrev pub AreServed : Config → List Call → List Closed → Type 0
AreServed config calls streams = All (λ c. IsServedOver config calls c.came c.left) streams

module _ {R W : Type 0} where
  -- its ends and its connection are the same, and whether it may go on
  pub record IsTheSame (old new : Peer R W) : Type 0 where
    pub reader : new.reader ≡ old.reader
    pub writer : new.writer ≡ old.writer
    pub connection : new.connection ≡ old.connection
    pub goes_on : new.goes_on ≡ old.goes_on

  abbrev pub HaveSame : Option (Peer R W) → Option (Peer R W) → Type 0
  HaveSame None None = Unit {0}
  HaveSame None (Some new) = ⊥
  HaveSame (Some old) None = ⊥
  HaveSame (Some old) (Some new) = IsTheSame old new

  -- under each key stands the same, and there are as many
  pub record HaveSameEnds (old new : Slab (Peer R W)) : Type 0 where
    pub each : (key : ℕ) → HaveSame (get old key) (get new key)
    pub count : slab_len new ≡ slab_len old

module _ {R W : Type 0} (remaining : R → Option (List ℕ)) (contents : W → Option (List ℕ)) where
  -- a peer whose stream came so: what passed over the stream is what passed through its connection
  pub record IsPeerOf (config : Config) (calls : List Call) (came : Stream) (peer : Peer R W) : Type 0 where
    pub limits : config_of peer.connection ≡ config
    pub received : Consumes came.gives (remaining peer.reader) (history peer.connection).received
    pub sent : Appends came.got (contents peer.writer) (history peer.connection).sent
    pub among : All (Contains calls) (history peer.connection).calls

  -- there is a peer just where a stream is open, and it is the one of this stream
  abbrev pub Serves : Config → List Call → Option Stream → Option (Peer R W) → Type 0
  Serves config calls None None = Unit {0}
  Serves config calls None (Some peer) = ⊥
  Serves config calls (Some came) None = ⊥
  Serves config calls (Some came) (Some peer) = IsPeerOf config calls came peer

  -- Each open stream has its peer, and all streams are served that were closed since these.
  pub record AllServed (config : Config) (calls : List Call) (before : List Closed) (known : Streams) (peers : Slab (Peer R W)) : Type 0 where
    pub opened : (key : ℕ) → Serves config calls (known.opened key) (get peers key)
    pub since : List Closed
    pub closed : known.closed ≡ before ++ since
    pub served : AreServed config calls since

  abbrev pub IsServing : Config → List Call → List Closed → Option Streams → Slab (Peer R W) → Type 0
  IsServing config calls before None peers = Unit {0}
  IsServing config calls before (Some known) peers = AllServed config calls before known peers

  -- after this step all streams are served that were, and each is
  abbrev pub StillServes : Config → Option Streams → Slab (Peer R W) → Option Streams → Slab (Peer R W) → Type 0
  StillServes config known peers known' peers' =
      (calls : List Call) (before : List Closed) → IsServing config calls before known peers → IsServing config calls before known' peers'

  -- so it is after the service was called, and these calls lead from one of its states to the other
  abbrev pub ServesOn : {S : Type 0} → (S → Request (List ℕ) → Response → S → Type 0) → S → S
      → Config → Option Streams → Slab (Peer R W) → Option Streams → Slab (Peer R W) → Type 0
  ServesOn answers old new config known peers known' peers' =
      (more : List Call) × Chain answers old more new
      × ((calls : List Call) (before : List Closed) → IsServing config calls before known peers → IsServing config (calls ++ more) before known' peers')

module _ {L R W : Type 0} (streams : L → Option Streams) (remaining : R → Option (List ℕ)) (contents : W → Option (List ℕ)) where
  -- the streams of a listener are served still, after a step of it and its connections
  abbrev pub StayServed : Config → L → Slab (Peer R W) → L → Slab (Peer R W) → Type 0
  StayServed config old peers new peers' = StillServes remaining contents config (streams old) peers (streams new) peers'

  -- so it is whatever the limits of the connections are
  abbrev pub AllStayServed : L → Slab (Peer R W) → L → Slab (Peer R W) → Type 0
  AllStayServed old peers new peers' = (config : Config) → StayServed config old peers new peers'

  -- so it is after the service was called, and the calls lead from one of its states to the other
  abbrev pub ServedBy : {S : Type 0} → (S → Request (List ℕ) → Response → S → Type 0) → S → S
      → L → Slab (Peer R W) → L → Slab (Peer R W) → Type 0
  ServedBy answers before after old peers new peers' =
      (config : Config) → ServesOn remaining contents answers before after config (streams old) peers (streams new) peers'
