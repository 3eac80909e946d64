-- The traffic at a port (this project's own).
use Rattle.std.specs.Prelude.{◌≡◌, ◌++◌, ◌≤◌, ℕ, zero, suc, List, [], ◌∷◌, Option, replicate}
pub use Rattle.system_io.specs.Histories.{Passes}

pub data Passing : Type 0 where
  -- a datagram came; these are its first 64 bytes
  Came : (bytes : List ℕ) → Passing
  -- nothing came in time, of a wait of so many nanoseconds
  Quiet : (nanos : ℕ) → Passing
  -- no datagram could be received
  Missed : Passing
  -- a datagram was given to the system for the address at this place, whether or not it went out
  Handed : (to : ℕ) (bytes : List ℕ) → Passing

-- what a sealed port passes on for a datagram without a right tag
abbrev pub no_tag : List ℕ
no_tag = replicate 64 0

-- the facts of a port: its traffic so far, in order, none where it isn't recorded; the count of its failures; the number of
-- addresses to which it sends
pub record PortFacts : Type 0 where
  pub passed : Option (List Passing)
  pub faults : ℕ
  pub addresses : ℕ

-- a datagram is given to the system for each of so many addresses, once and in their order
unfoldable pub to_each : ℕ → List ℕ → List Passing
to_each zero bytes = []
to_each (suc n) bytes = to_each n bytes ++ Handed n bytes ∷ []

-- this passed; the addresses are the same, and the count of failures didn't fall
pub record Passed (old new : PortFacts) (more : List Passing) : Type 0 where
  pub passes : Passes old.passed new.passed more
  pub addresses : new.addresses ≡ old.addresses
  pub count : old.faults ≤ new.faults
