-- Files that are read one by one, and what is made of each.
use Rattle.std.proofs.Common.{◌+◌, ◌++◌, List, [], ◌∷◌}
use Rattle.move_msg.specs.Files.{File}
use Rattle.task_files.specs.Made.{AreMadeOf}

-- ---- one more

pub made_more : {L : Type 0} (P : L → File → Type 0) (looks : List L) (files : List File) (look : L) (f : File) → AreMadeOf P looks files → P look f → AreMadeOf P (looks ++ look ∷ []) (files ++ f ∷ [])
made_more P [] [] look f h p = (p, tt)
made_more P [] (g ∷ files) look f h p = absurd h
made_more P (l ∷ looks) [] look f h p = absurd h
made_more P (l ∷ looks) (g ∷ files) look f h p = (h.0, made_more P looks files look f h.1 p)

-- ---- all of them
