-- Notes, one after another.
use Rattle.std.proofs.Common.{List, [], ◌∷◌, ℕ}
use Rattle.timeline.proofs.EventLaws.{adds_both, adds_none}
use Rattle.timeline.specs.Events.{Noted}
use Rattle.timeline.specs.Outsides.{Adds, AddsSome, Outside}
use Rattle.source_core.specs.Heard.{IsNote, OnlyNotes}
use Rattle.source_core.proofs.HeardLaws.{all_join}

pub notes_none : {T P F K S L : Type 0} (o : Outside T P F K S L) (a : T) → AddsSome o a a OnlyNotes
notes_none o a = ([], adds_none o a, tt)

pub notes_one : {T P F K S L : Type 0} (o : Outside T P F K S L) (a b : T) (line : List ℕ) → Adds o a b (Noted line ∷ []) → AddsSome o a b OnlyNotes
notes_one o a b line p = (Noted line ∷ [], p, (tt, tt))

pub notes_more : {T P F K S L : Type 0} (o : Outside T P F K S L) (a b c : T) → AddsSome o a b OnlyNotes → AddsSome o b c OnlyNotes → AddsSome o a c OnlyNotes
notes_more o a b c p q = adds_both o a b c OnlyNotes OnlyNotes OnlyNotes (λ x y h k. all_join IsNote x y h k) p q
