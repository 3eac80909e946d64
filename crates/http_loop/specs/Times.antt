-- How long ago something was, and how long a stream lingers that was closed.
use Rattle.std.specs.Prelude.{◌≡◌, ◌⊎◌, ◌-◌, ℕ, Bool, List, All, Contains, nat_lt}
use Rattle.std.specs.Time.{instant_nanos}
use Rattle.std.specs.declared.time.Instant.{Instant}

-- points in time
abbrev pub Moments : Type 0
Moments = List Instant

-- whether more nanoseconds than these lie between two points in time
abbrev pub has_passed : Instant → Instant → ℕ → Bool
has_passed since now nanos = nat_lt nanos (instant_nanos now - instant_nanos since)

-- for how long a stream lingers that was closed: two seconds
abbrev pub linger_nanos : ℕ
linger_nanos = 2_000_000_000

-- whether a stream that was closed then has lingered for longer
abbrev pub lingers_too_long : Instant → Instant → Bool
lingers_too_long now closed = has_passed closed now linger_nanos

-- each of these lingered before
abbrev pub Remain : Moments → Moments → Type 0
Remain old new = All (Contains old) new

-- each of these lingered before, or was closed now
abbrev pub LingerFrom : Instant → Moments → Moments → Type 0
LingerFrom now old new = All (λ closed. Contains old closed ⊎ (closed ≡ now)) new
