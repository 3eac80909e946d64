-- Which connections have taken too long, and which has waited longest.
use Rattle.std.specs.Prelude.{◌≡◌, ◌⊎◌, ◌<◌, ◌≤◌, ℕ, Bool, false, ◌&&◌, not, Option, Some, None, IfSome, if◌then◌else◌}
use Rattle.std.specs.Duration.{as_nanos}
use Rattle.std.specs.declared.time.Duration.{Duration}
use Rattle.std.specs.Time.{instant_nanos}
use Rattle.std.specs.declared.time.Instant.{Instant}
use Rattle.slab.specs.Slab.{SameValues, Slab, Updates, get}
use Rattle.http_loop.specs.declared.peer.Peer.{Peer}
use Rattle.http_loop.specs.Times.{has_passed}

-- the first point in time is there, and earlier than the other, if there is one
abbrev pub IsEarlier : Option Instant → Option Instant → Type 0
IsEarlier None other = ⊥
IsEarlier (Some one) None = Unit {0}
IsEarlier (Some one) (Some other) = instant_nanos one < instant_nanos other

-- there is no second one, or the first is there and no later
abbrev pub IsNotAfter : Option Instant → Option Instant → Type 0
IsNotAfter one None = Unit {0}
IsNotAfter None (Some other) = ⊥
IsNotAfter (Some one) (Some other) = instant_nanos one ≤ instant_nanos other

-- of two keys that of the one that has waited longer, or the first, each with since when it has
abbrev pub IsLonger : ℕ × Option Instant → ℕ × Option Instant → ℕ × Option Instant → Type 0
IsLonger one other result = ((result ≡ other) × IsEarlier other.1 one.1) ⊎ ((result ≡ one) × IsNotAfter one.1 other.1)

module _ {R W : Type 0} where
  -- whether there is a connection that has taken longer than this, and doesn't wait for a turn
  abbrev pub is_late : Instant → Duration → Option (Peer R W) → Bool
  is_late now exchange None = false
  is_late now exchange (Some peer) = not peer.goes_on && has_passed peer.since now (as_nanos exchange)

  -- what stays of it once the late are closed
  abbrev pub unless_late : Instant → Duration → Option (Peer R W) → Option (Peer R W)
  unless_late now exchange peer = if is_late now exchange peer then None else peer

  -- the late connections were closed, and no other
  abbrev pub ClosesLate : Instant → Duration → Slab (Peer R W) → Slab (Peer R W) → Type 0
  ClosesLate now exchange old new = (key : ℕ) → get new key ≡ unless_late now exchange (get old key)

  -- the time of each connection is counted from now on
  abbrev pub AreAnew : Instant → Slab (Peer R W) → Type 0
  AreAnew now peers = (key : ℕ) → IfSome (get peers key) (λ peer. peer.since ≡ now)

  -- since when a connection has waited, if there is one that doesn't wait for a turn
  abbrev pub waits_since : Option (Peer R W) → Option Instant
  waits_since None = None
  waits_since (Some peer) = if peer.goes_on then None else Some peer.since

  -- none has waited longer than the one under this key
  abbrev pub WaitsLongest : Slab (Peer R W) → ℕ → Type 0
  WaitsLongest peers key =
      IfSome (waits_since (get peers key)) (λ since. (other : ℕ) → IsNotAfter (Some since) (waits_since (get peers other)))

  -- One more connection came, under a key that was free. No other was closed, or the one that has waited longest.
  abbrev pub ComesFor : Slab (Peer R W) → Slab (Peer R W) → Type 0
  ComesFor old new =
      (key : ℕ) × (peer : Peer R W) × (all : Slab (Peer R W)) × (get old key ≡ None) × Updates old all key (Some peer)
      × (SameValues all new ⊎ ((longest : ℕ) × WaitsLongest all longest × Updates all new longest None))
