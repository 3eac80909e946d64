-- Numbers as text.
use Rattle.std.specs.Prelude.{◌≡◌, ◌≤◌, ℕ, List}
use Rattle.std.specs.Fmt.{decimal}

-- a number in decimal digits, with no needless zero, and at most so great
pub record SpellsNumber (most : ℕ) (t : List ℕ) (n : ℕ) : Type 0 where
  pub small : n ≤ most
  pub text : t ≡ decimal n
