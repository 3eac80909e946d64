-- The replies of a round, while they are held.
use Rattle.std.specs.Prelude.{ℕ, List}
use Rattle.game_server.specs.declared.replies.Held.{Held}

pub record RepliesView : Type 0 where
  pub held : List Held
  pub most : ℕ
