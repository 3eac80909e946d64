-- Events, one after another.
use Rattle.std.proofs.Common.{◌++◌, ◌∷◌, [], ℕ, List, refl}
use Rattle.std.specs.Prelude.{Result, Ok, Err, take}
use Rattle.system_io.proofs.HistoryLaws.{Passes-nil, Passes-trans}
use Rattle.timeline.specs.Events.{Event, IsWritten, Refused, Wrote}
use Rattle.timeline.specs.Outsides.{Adds, AddsSome, Outside}
use Rattle.timeline.specs.declared.stream.Stream.{Stream}

-- nothing came
pub adds_none : {T P F K S L : Type 0} (o : Outside T P F K S L) (a : T) → Adds o a a []
adds_none o a = Passes-nil (o.events a)

-- some events, and then others
pub adds_more : {T P F K S L : Type 0} (o : Outside T P F K S L) (a b c : T) (x y : List Event) → Adds o a b x → Adds o b c y → Adds o a c (x ++ y)
adds_more o a b c x y p q = Passes-trans (o.events a) (o.events b) (o.events c) x y p q

-- some events, and then others of which something is so
pub adds_then : {T P F K S L : Type 0} (o : Outside T P F K S L) (a b c : T) (first : List Event) (A B : List Event → Type 0) → ((more : List Event) → A more → B (first ++ more))
    → Adds o a b first → AddsSome o b c A → AddsSome o a c B
adds_then o a b c first A B step p q = (first ++ q.0, adds_more o a b c first q.0 p q.1, step q.0 q.2)

-- some events of which something is so, and then some of which something else is
pub adds_both : {T P F K S L : Type 0} (o : Outside T P F K S L) (a b c : T) (A B C : List Event → Type 0) → ((x y : List Event) → A x → B y → C (x ++ y))
    → AddsSome o a b A → AddsSome o b c B → AddsSome o a c C
adds_both o a b c A B C step p q = (p.0 ++ q.0, adds_more o a b c p.0 q.0 p.1 q.1, step p.0 q.0 p.2 q.2)

-- what is so of some events is so of them under another name
pub adds_so : {T P F K S L : Type 0} (o : Outside T P F K S L) (a b : T) (A B : List Event → Type 0) → ((more : List Event) → A more → B more) → AddsSome o a b A → AddsSome o a b B
adds_so o a b A B step p = (p.0, p.1, step p.0 p.2)

-- there are events by which bytes are written, whatever came of it
pub written_somehow : {A E : Type 0} (to : Stream) (bytes : List ℕ) (r : Result A E) → (more : List Event) × Unit {0} × IsWritten to bytes r more
written_somehow to bytes (Ok x) = (Wrote to bytes ∷ [], tt, refl)
written_somehow to bytes (Err e) = (Wrote to (take 0 bytes) ∷ Refused to ∷ [], tt, (0, refl))
