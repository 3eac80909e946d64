-- What is known of a store's records when its folder was opened, or wasn't.
pub use Rattle.game_reports.proofs.StoreLaws.{text_read}
use Rattle.std.proofs.Common.{◌≡◌, List, ℕ, refl}
use Rattle.std.specs.Prelude.{Result}
use Rattle.timeline.specs.Outsides.{AddsSome, Outside}
use Rattle.answer_commands.specs.StoreReads.{Asks, Known, known_by}
use Rattle.game_reports.specs.StoreReads.{OpenedFolder, Opens}

pub asked : {T P F K S L : Type 0} (o : Outside T P F K S L) (a b : T) (folder : List ℕ) (result : Result OpenedFolder (List ℕ)) (after : Known) → after ≡ known_by result → AddsSome o a b (Opens o folder result) → AddsSome o a b (Asks o folder after)
asked o a b folder result after is p = (p.0, p.1, record { result = result; opens = p.2; known = is })
