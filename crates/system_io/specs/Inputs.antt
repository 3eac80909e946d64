-- An input that ends (this project's own).
use Rattle.std.specs.Prelude.{◌≡◌, ℕ, Bool, List}

-- what is known of an input
pub record InputFacts : Type 1 where
  -- whether its bytes are stated
  pub is_told : Bool
  -- it has these bytes
  pub gives : List ℕ → Type 0
  -- it can't be read to its end, or has more than 2^30 bytes
  pub fails : Type 0
  -- reading it may take memory, which may be refused
  pub takes_memory : Type 0

-- it has one list of bytes, where it doesn't fail
pub record GivesOne (input : InputFacts) : Type 0 where
  pub bytes : (a b : List ℕ) → input.gives a → input.gives b → a ≡ b
  pub given : (bytes : List ℕ) → input.gives bytes → input.fails → ⊥
