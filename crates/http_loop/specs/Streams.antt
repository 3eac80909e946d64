-- What is known of a listener: the streams that it accepted, each under its key.
use Rattle.std.specs.Prelude.{◌≡◌, ◌≢◌, ℕ, List, [], ◌∷◌, ◌++◌, Option, Some, None}

-- what a stream has still to give, and what it has got, where that is known
pub record Stream : Type 0 where
  pub gives : Option (List ℕ)
  pub got : Option (List ℕ)

-- a stream by its two ends
abbrev pub stream_of : {R W : Type 0} → (R → Option (List ℕ)) → (W → Option (List ℕ)) → R → W → Stream
stream_of remaining contents reader writer = record { gives = remaining reader; got = contents writer }

-- a stream that was closed: as it came, and as it was left
pub record Closed : Type 0 where
  pub came : Stream
  pub left : Stream

-- the open stream under each key, as it came; and those that were closed, in order
pub record Streams : Type 0 where
  pub opened : ℕ → Option Stream
  pub closed : List Closed

-- Of what follows each is said where the streams are known before and after; a listener may lose its knowledge, and never gains any.

-- no stream has come or was closed
pub record AreTheSame (old new : Streams) : Type 0 where
  pub opened : (key : ℕ) → new.opened key ≡ old.opened key
  pub closed : new.closed ≡ old.closed

abbrev pub Stays : Option Streams → Option Streams → Type 0
Stays old None = Unit {0}
Stays None (Some new) = ⊥
Stays (Some old) (Some new) = AreTheSame old new

-- no stream is open
abbrev pub HasNoOpen : Option Streams → Type 0
HasNoOpen None = Unit {0}
HasNoOpen (Some known) = (key : ℕ) → known.opened key ≡ None

-- a stream has come under the key, under which none was open
pub record Comes (old new : Streams) (key : ℕ) (came : Stream) : Type 0 where
  pub here : new.opened key ≡ Some came
  pub others : (other : ℕ) → other ≢ key → new.opened other ≡ old.opened other
  pub closed : new.closed ≡ old.closed

abbrev pub Opens : Option Streams → Option Streams → ℕ → Stream → Type 0
Opens old None key came = Unit {0}
Opens None (Some new) key came = ⊥
Opens (Some old) (Some new) key came = old.opened key ≡ None → Comes old new key came

-- the stream that had come so under the key was closed, and left so
pub record Goes (old new : Streams) (key : ℕ) (came left : Stream) : Type 0 where
  pub here : new.opened key ≡ None
  pub others : (other : ℕ) → other ≢ key → new.opened other ≡ old.opened other
  pub closed : new.closed ≡ old.closed ++ record { came = came; left = left } ∷ []

abbrev pub Closes : Option Streams → Option Streams → ℕ → Stream → Type 0
Closes old None key left = Unit {0}
Closes None (Some new) key left = ⊥
Closes (Some old) (Some new) key left = (came : Stream) → old.opened key ≡ Some came → Goes old new key came left

-- the streams that were closed
abbrev pub closed_of : Option Streams → List Closed
closed_of None = []
closed_of (Some known) = known.closed
