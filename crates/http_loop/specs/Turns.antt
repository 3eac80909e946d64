-- Whose turn it is: the connections that may go on, in a queue.
use Rattle.std.specs.Prelude.{◌≡◌, ◌≢◌, ◌⊎◌, ◌<◌, ◌==◌, ℕ, Bool, true, false, List, ◌++◌, length, drop, count_by}
use Rattle.std.specs.Prelude.{Option, Some, None, IfSome, IsFalse, IsTrue, if◌then◌else◌}
use Rattle.std.specs.declared.time.Instant.{Instant}
use Rattle.std.specs.Io.KnownBytes.{Appends, Consumes}
use Rattle.slab.specs.Slab.{Slab, get}
use Rattle.http_server.specs.Connection.{config_of, history}
use Rattle.http_server.specs.History.{History, Rests}
use Rattle.http_loop.specs.declared.peer.Fate.{Fate}
use Rattle.http_loop.specs.declared.peer.Fate.TheVariants.{Ends, GoesOn, Waits}
use Rattle.http_loop.specs.declared.peer.Peer.{Peer}

-- a connection received what its reader gave between these
abbrev pub Receives : Option (List ℕ) → Option (List ℕ) → History → History → Type 0
Receives before after old new = (more : List ℕ) × Consumes before after more × (new.received ≡ old.received ++ more)

-- its writer got what it handed out
abbrev pub HandsOut : Option (List ℕ) → Option (List ℕ) → History → History → Type 0
HandsOut before after old new = (more : List ℕ) × Appends before after more × (new.sent ≡ old.sent ++ more)

-- something was sent
abbrev pub SendsSome : History → History → Type 0
SendsSome old new = length old.sent < length new.sent

-- whether a connection may go on at once after its turn
abbrev pub may_go_on : Fate → Bool
may_go_on Waits = false
may_go_on GoesOn = true
may_go_on Ends = false

-- how often a key stands in a queue
abbrev pub times_queued : ℕ → List ℕ → ℕ
times_queued key queue = count_by (λ k. k == key) queue

-- the first has left the queue, and others may have come behind those that were in it
abbrev pub MovesUp : List ℕ → List ℕ → Type 0
MovesUp old new = (more : List ℕ) × (new ≡ drop 1 old ++ more)

-- others may have come behind those that were in the queue
abbrev pub GrowsBehind : List ℕ → List ℕ → Type 0
GrowsBehind old new = (more : List ℕ) × (new ≡ old ++ more)

module _ {R W : Type 0} where
  -- Its time is counted on, or from now on: so only where something was sent, or it had waited for a first byte.
  pub record KeepsTime (now : Instant) (old new : Peer R W) : Type 0 where
    pub either : (new.since ≡ old.since) ⊎ (new.since ≡ now)
    pub on : IsFalse old.is_idle → (history new.connection).sent ≡ (history old.connection).sent → new.since ≡ old.since

  -- it waits for a first byte only where something was sent, or where it did before and nothing came
  pub record StaysIdle (old new : Peer R W) : Type 0 where
    pub only : IsTrue new.is_idle → SendsSome (history old.connection) (history new.connection)
        ⊎ (IsTrue old.is_idle × ((history new.connection).received ≡ (history old.connection).received))

  -- whether there is a connection, and it may go on
  abbrev pub is_going : Option (Peer R W) → Bool
  is_going None = false
  is_going (Some peer) = peer.goes_on

  -- how often its key is to stand in the queue
  abbrev pub places_due : Option (Peer R W) → ℕ
  places_due peer = if is_going peer then 1 else 0

  -- A connection that can't go on has answered each whole request that it received, unless bytes wait to be sent.
  abbrev pub GoesOnOrRests : Peer R W → Type 0
  GoesOnOrRests peer = IsFalse peer.goes_on → Rests (config_of peer.connection) (history peer.connection)

  -- Each connection that may go on is in the queue, once; there is none else in it, and all others rest.
  pub record AreQueued (peers : Slab (Peer R W)) (queue : List ℕ) : Type 0 where
    pub places : (key : ℕ) → times_queued key queue ≡ places_due (get peers key)
    pub rests : (key : ℕ) → IfSome (get peers key) GoesOnOrRests

  -- so it is but for one key, which isn't in the queue
  pub record AreOthersQueued (key : ℕ) (peers : Slab (Peer R W)) (queue : List ℕ) : Type 0 where
    pub places : (other : ℕ) → other ≢ key → times_queued other queue ≡ places_due (get peers other)
    pub none : times_queued key queue ≡ 0
    pub rests : (other : ℕ) → other ≢ key → IfSome (get peers other) GoesOnOrRests

  -- where the connections were in such a queue, they are
  abbrev pub StayQueued : Slab (Peer R W) → Slab (Peer R W) → Type 0
  StayQueued old new = (queue : List ℕ) → AreQueued old queue → AreQueued new queue
