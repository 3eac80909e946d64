-- Counts of failures (this project's own).
use Rattle.std.specs.Prelude.{◌≡◌, ◌<◌, ◌^◌, ◌-◌, ◌⊎◌, ℕ, Result, Ok, Err}

-- the count rose, or stands at its greatest value, where it stays
abbrev pub Risen : ℕ → ℕ → Type 0
Risen before now = (before < now) ⊎ (now ≡ 2 ^ 64 - 1)

-- a call that failed was counted, and one that was good was not
abbrev pub Counts : {T E : Type 0} → Result T E → ℕ → ℕ → Type 0
Counts (Ok x) before now = now ≡ before
Counts (Err e) before now = Risen before now
