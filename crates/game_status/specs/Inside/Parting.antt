-- Two records that part at a ply; cited by private functions alone.
use Rattle.std.specs.Prelude.{◌≡◌, ◌≤◌, ◌<◌, ◌+◌, ℕ, max, min}
use Rattle.game_status.specs.declared.comparing.Compared.{Compared}
use Rattle.game_status.specs.declared.comparing.Compared.TheVariants.{Agree, Behind, Unopened, Differ}

-- after the last move of the shorter one, or not
abbrev pub IsApart : ℕ → ℕ → ℕ → Compared → Type 0
IsApart ply count other Agree = ⊥
IsApart ply count other (Behind more) = (min count other < ply) × (max count other ≡ min count other + more)
IsApart ply count other Unopened = ⊥
IsApart ply count other (Differ at) = (at ≡ ply) × (ply ≤ min count other)
