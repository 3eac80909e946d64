-- What a host knows of the place of its games (this project's own).
use Rattle.std.specs.Prelude.{ℕ, List}
use Rattle.arbiter_core.specs.Keeping.{KeeperFacts}
use Rattle.arbiter_server.specs.declared.fault.OpenGameError.{OpenGameError}
use Rattle.arbiter_server.specs.declared.games.GameConfig.{GameConfig}

-- what is known of one folder, where it is, and what its keepers tell of themselves
pub record Keepers (K : Type 0) : Type 1 where
  pub facts : KeeperFacts K
  pub tells : List ℕ → GameConfig → Type 0
  -- it lacks the game, or withholds its keeper
  pub refuses : List ℕ → OpenGameError → Type 0
  -- it withholds its keeper
  pub withholds : List ℕ → OpenGameError → Type 0
  pub is_of : List ℕ → K → Type 0
  pub follows : K → K → Type 0
  -- what its games keep may not be committed
  pub may_fail : Type 0
