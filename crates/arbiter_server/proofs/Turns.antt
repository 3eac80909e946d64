-- An arbiter, and the same one later.
use Rattle.std.proofs.Common.{◌≡◌, refl}
use Rattle.arbiter_core.specs.Views.{View}
use Rattle.arbiter_server.specs.Lives.{GoesOn}
use Rattle.arbiter_server.proofs.Telling.{still_on}

-- the same arbiter, later
pub record GoesFrom (a b : View) : Type 0 where
  pub setup : b.setup ≡ a.setup
  pub me : b.me ≡ a.me
  pub goes_on : GoesOn a.kept b.kept

pub goes_nowhere : (a : View) → GoesFrom a a
goes_nowhere a = record { setup = refl; me = refl; goes_on = still_on a.kept }
