-- Where a name stands among rising ones; cited by private functions alone.
use Rattle.std.specs.Prelude.{◌≡◌, ◌<◌, ◌≤◌, ◌⊎◌, ℕ, List, length, get_or}
use Rattle.std.specs.List.{Contains}
use Rattle.task_files.specs.FileNames.{AreRisingNames, IsNameBefore}

-- the names before the place come before the name, and it comes before the one at the place
pub record IsNamePlace (names : List (List ℕ)) (name : List ℕ) (place : ℕ) : Type 0 where
  pub within : place ≤ length names
  pub before : (k : ℕ) → k < place → IsNameBefore (get_or names k name) name
  pub after : place < length names → IsNameBefore name (get_or names place name)

-- the names with one more are rising
pub record AddsName (old : List (List ℕ)) (name : List ℕ) (new : List (List ℕ)) : Type 0 where
  pub rising : AreRisingNames new
  pub here : Contains new name
  pub kept : (other : List ℕ) → Contains old other → Contains new other
  pub only : (other : List ℕ) → Contains new other → Contains old other ⊎ (name ≡ other)
