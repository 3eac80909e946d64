-- What is made of the files of a folder, one by one (this project's own).
use Rattle.std.specs.Prelude.{List, [], ◌∷◌}
use Rattle.move_msg.specs.Files.{File}

-- each of these is made of the file at its place
abbrev pub AreMadeOf : {L : Type 0} → (L → File → Type 0) → List L → List File → Type 0
AreMadeOf IsMadeOf [] [] = Unit {0}
AreMadeOf IsMadeOf [] (f ∷ files) = ⊥
AreMadeOf IsMadeOf (look ∷ looks) [] = ⊥
AreMadeOf IsMadeOf (look ∷ looks) (f ∷ files) = IsMadeOf look f × AreMadeOf IsMadeOf looks files
