-- Where the search for a code's length begins, by the first six of its bits.
use Rattle.std.specs.Prelude.{◌≡◌, ℕ, ◌+◌, ◌-◌, ◌*◌, ◌^◌, ◌<◌, ◌≤◌, List, length, slice_index, map}

-- the last of the first numbers is 0: any bits begin with a code of the greatest length, but for its symbol
abbrev pub EndsAtZero : List ℕ → Type 0
EndsAtZero firsts = slice_index firsts (length firsts - 1) ≡ 0

-- 32 bits whose first six are this number are below the first number of each length before the place
pub record IsHint (firsts : List ℕ) (prefix place : ℕ) : Type 0 where
  pub known : place < length firsts
  pub above : (j : ℕ) → j < place → (prefix + 1) * 2 ^ 26 ≤ slice_index firsts j

-- the first 64 bytes are the hints for all numbers of six bits
pub record AreHints (firsts bytes : List ℕ) : Type 0 where
  pub all : 64 ≤ length bytes
  pub each : (prefix : ℕ) → prefix < 64 → IsHint firsts prefix (slice_index bytes prefix)

-- the first place whose first number is not greater than these 32 bits
pub record IsFirstReached (firsts : List ℕ) (front place : ℕ) : Type 0 where
  pub known : place < length firsts
  pub missed : (j : ℕ) → j < place → front < slice_index firsts j
  pub reached : slice_index firsts place ≤ front

abbrev pub less_one : List ℕ → List ℕ
less_one counts = map (λ n. n - 1) counts
