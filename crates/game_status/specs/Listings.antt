-- The stamps whose files a folder lists (this project's own).
use Rattle.std.specs.Prelude.{◌⊎◌, ◌++◌, ℕ, List, codes}
use Rattle.std.specs.List.{Contains}
use Rattle.hex.specs.Hex.{encode_lower}
use Rattle.move_msg.specs.Stamps.{IsStamp}

-- the name of the file of a stamp: the stamp in lower-case hexadecimal digits, and an ending
abbrev pub stamp_file_name : List ℕ → List ℕ → List ℕ
stamp_file_name stamp ending = encode_lower stamp ++ ending

-- the stamps are those of before and those whose files with this ending have the names
pub record AddsStamps (names : List (List ℕ)) (ending : List ℕ) (old new : List (List ℕ)) : Type 0 where
  pub kept : (stamp : List ℕ) → Contains old stamp → Contains new stamp
  pub all : (stamp : List ℕ) → IsStamp stamp → Contains names (stamp_file_name stamp ending) → Contains new stamp
  pub only : (stamp : List ℕ) → Contains new stamp → Contains old stamp ⊎ (IsStamp stamp × Contains names (stamp_file_name stamp ending))

-- these are the stamps whose files with this ending have the names
pub record AreStampsIn (names : List (List ℕ)) (ending : List ℕ) (stamps : List (List ℕ)) : Type 0 where
  pub all : (stamp : List ℕ) → IsStamp stamp → Contains names (stamp_file_name stamp ending) → Contains stamps stamp
  pub only : (stamp : List ℕ) → Contains stamps stamp → IsStamp stamp × Contains names (stamp_file_name stamp ending)

-- the ending of a game's file, and that of its record
abbrev pub game_ending : List ℕ
game_ending = codes ".game"

abbrev pub kept_ending : List ℕ
kept_ending = codes ".kept"
