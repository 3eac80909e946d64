-- Paths of games' files: a game's stamp is the name of its file (this project's own).
use Rattle.std.specs.Prelude.{◌≡◌, ◌⊎◌, ◌++◌, ℕ, List, [], ◌∷◌, codes}
use Rattle.hex.specs.Hex.{encode_lower}
use Rattle.move_msg.specs.Stamps.{IsStamp}

-- the text is the stamp in 32 lower-case hexadecimal digits
abbrev pub SpellsStamp : List ℕ → List ℕ → Type 0
SpellsStamp text stamp = IsStamp stamp × (text ≡ encode_lower stamp)

-- nothing, or the path of a folder with a slash
abbrev pub IsFolderFront : List ℕ → Type 0
IsFolderFront front = (front ≡ []) ⊎ ((folder : List ℕ) × (front ≡ folder ++ 47 ∷ []))

-- the file of the path is that of the game with this stamp: the last name of the path is the stamp in 32 lower-case hexadecimal digits
-- and `.game`
pub record NamesGame (path stamp : List ℕ) : Type 0 where
  pub front : List ℕ
  pub folder : IsFolderFront front
  pub size : IsStamp stamp
  pub is : path ≡ front ++ encode_lower stamp ++ codes ".game"
