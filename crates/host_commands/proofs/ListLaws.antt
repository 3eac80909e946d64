-- Folders that are listed.
use Rattle.std.proofs.Common.{◌∷◌, ◌++◌, [], ℕ, List, refl}
use Rattle.std.specs.Prelude.{Ok, Err}
use Rattle.arbiter_server.specs.ServedLines.{refused_store}
use Rattle.command_line.specs.declared.words.numbers.StoreForm.{StoreForm}
use Rattle.host_commands.specs.Listings.{Clashes, IsBarred, ListsGames, clash_line}
use Rattle.host_commands.specs.Notes.{MayNote}
use Rattle.timeline.proofs.EventLaws.{adds_more}
use Rattle.timeline.specs.Events.{FolderListed}
use Rattle.timeline.specs.Outsides.{Adds, AddsSome, Outside}

-- something bars it, which may have been noted
pub barred_so : {T P F K S L : Type 0} (o : Outside T P F K S L) (folder : List ℕ) (where_kept : StoreForm) (a b c : T) (names : List (List ℕ)) (what : List ℕ) → o.disk.lists folder names → Clashes where_kept names what
    → Adds o a b (FolderListed folder (Ok names) ∷ []) → AddsSome o b c (MayNote (clash_line folder what)) → AddsSome o a c (ListsGames o.disk folder where_kept (Err refused_store))
barred_so o folder where_kept a b c names what listed clash p q = (FolderListed folder (Ok names) ∷ [] ++ q.0, adds_more o a b c (FolderListed folder (Ok names) ∷ []) q.0 p q.1, IsBarred what (record { names = names; lists = listed; clash = clash; notes = record { noting = q.0; notes = q.2; all = refl } }) refl)
