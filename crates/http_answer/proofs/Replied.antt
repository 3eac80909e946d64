-- What all calls of a connection have in common, where each leaves the folders as they were.
use Rattle.std.proofs.Common.{◌≡◌, ℕ, List, [], ◌∷◌, Option, All, refl, subst}
use Rattle.std.proofs.lemmas.List.Elements.{All-nil, All-cons}
use Rattle.http_server.specs.Exchange.{Call, Chain}
use Rattle.table_folder.specs.Folders.{FolderOn}
use Rattle.table_folder.specs.declared.files.SystemFiles.{SystemFiles}
use Rattle.timeline.specs.Outsides.{Outside}
use Rattle.http_answer.specs.Games.{GamesByClock, IsServedCall, Responds, places_of}

-- every call of a chain is answered by the folders at its start
pub calls_answered : {G C T P F K S L R : Type 0} (outside : G → Outside T P F K S L) (says : C → Option ℕ → Type 0) (tables : R → FolderOn (SystemFiles G)) (games : R → Option (GamesByClock G C)) (calls : List Call) (old new : R)
    → Chain (λ was request response now. Responds outside says (tables was) (games was) request response (tables now) (games now)) old calls new
    → All (IsServedCall outside says (tables old) (places_of (games old))) calls
calls_answered outside says tables games [] old new x = All-nil (IsServedCall outside says (tables old) (places_of (games old)))
calls_answered outside says tables games (c ∷ calls) old new x =
    All-cons (IsServedCall outside says (tables old) (places_of (games old))) c calls (record { old = games old; new = games x.0; same = refl; answered = x.1.answered })
    (subst (λ t. All (IsServedCall outside says t (places_of (games old))) calls) x.1.tables_stay
    (subst (λ g. All (IsServedCall outside says (tables x.0) g) calls) x.1.games_stay (calls_answered outside says tables games calls x.0 new x.2)))
