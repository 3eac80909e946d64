-- What stands behind a colon; cited by private functions alone.
use Rattle.std.specs.Prelude.{◌≡◌, ◌≤◌, ◌++◌, ℕ, List, [], ◌∷◌, length}
use Rattle.fen_text.specs.Cuts.{cut_at}

-- the last of the parts between colons
pub record IsBehindColon (text rest : List ℕ) : Type 0 where
  pub within : length rest ≤ length text
  pub front : List (List ℕ)
  pub parts : cut_at 58 text ≡ front ++ rest ∷ []
