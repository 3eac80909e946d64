-- The store of a folder is opened, and what stays is noted.
use Rattle.std.proofs.Common.{◌≡◌, ◌++◌, ◌∷◌, ◌∙◌, [], ℕ, List, append_assoc, ap, refl, sym}
use Rattle.std.specs.Global.{Global}
use Rattle.std.specs.Prelude.{Result, Ok, Err, IfOk, String, string_bytes}
use Rattle.arbiter_server.specs.GameFolders.{kept_path}
use Rattle.host_commands.specs.Imports.{IsLeftLine, LeftNotNoted, LeftNoted, NotesAllLeft, NotesLeft}
use Rattle.host_commands.specs.Notes.{noted_if}
use Rattle.timeline.proofs.EventLaws.{adds_more, adds_none}
use Rattle.timeline.specs.Events.{Event, Noted}
use Rattle.timeline.specs.Outsides.{Adds, AddsSome, Outside}

no_more : (e : List Event) → e ++ [] ≡ e
no_more [] = refl
no_more (x ∷ e) = ap (λ (l : List Event). x ∷ l) (no_more e)

module _ {T P F K S L : Type 0} (o : Outside T P F K S L) (folder : List ℕ) where
  pub left_noted : {E : Type 0} (path : List ℕ) (a b : T) (line : Result (String Global) E) → IfOk line (λ l. IsLeftLine path (string_bytes l)) → Adds o a b (noted_if line) → AddsSome o a b (NotesLeft path)
  left_noted path a b (Ok l) is p = (Noted (string_bytes l) ∷ [], p, LeftNoted (string_bytes l) is refl)
  left_noted path a b (Err e) is p = ([], p, LeftNotNoted refl)

  pub none_left : (a : T) → AddsSome o a a (NotesAllLeft folder [])
  unfolding NotesAllLeft
  none_left a = ([], adds_none o a, refl)

  -- and one more
  left_more : (stamps : List (List ℕ)) (stamp : List ℕ) (x y : List Event) → NotesAllLeft folder stamps x → NotesLeft (kept_path folder stamp) y → NotesAllLeft folder (stamps ++ stamp ∷ []) (x ++ y)
  unfolding NotesAllLeft
  left_more [] stamp x y all one = (y, [], one, refl, ap (λ (e : List Event). e ++ y) all ∙ sym (no_more y))
  left_more (s ∷ stamps) stamp x y all one = (all.0, all.1 ++ y, all.2, left_more stamps stamp all.1 y all.3 one, ap (λ (e : List Event). e ++ y) all.4 ∙ append_assoc all.0 all.1 y)

  pub one_left : (stamps : List (List ℕ)) (stamp : List ℕ) (a b c : T) → AddsSome o a b (NotesAllLeft folder stamps) → AddsSome o b c (NotesLeft (kept_path folder stamp)) → AddsSome o a c (NotesAllLeft folder (stamps ++ stamp ∷ []))
  one_left stamps stamp a b c p q = (p.0 ++ q.0, adds_more o a b c p.0 q.0 p.1 q.1, left_more stamps stamp p.0 q.0 p.2 q.2)
