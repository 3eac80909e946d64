-- Times of a clock.
use Rattle.std.specs.Prelude.{ℕ, Option, option_map}
use Rattle.std.specs.Time.{instant_nanos}
use Rattle.std.specs.declared.time.Instant.{Instant}

-- in nanoseconds since the clock's start
abbrev pub nanos : Option Instant → Option ℕ
nanos time = option_map instant_nanos time
