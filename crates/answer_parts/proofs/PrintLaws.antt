-- What is written, one thing after another, and what a refused write leaves.
use Rattle.std.proofs.Common.{◌≡◌, ◌∙◌, ◌++◌, ◌∷◌, ◌+◌, ◌<◌, ◌≤◌, [], ℕ, List, Option, Some, append_assoc, ap, drop, drop-cons, get_or, inl, inr, length, map, refl, subst, suc, sym, take, take-append-drop}
use Rattle.std.proofs.lemmas.List.{map-append, take_all, take_more}
use Rattle.std.specs.Prelude.{Result, Ok, Err}
use Rattle.system_io.specs.declared.output.WriteFault.{WriteFault}
use Rattle.timeline.proofs.EventLaws.{adds_more}
use Rattle.timeline.specs.Events.{Event, Flushed, Refused, Wrote}
use Rattle.timeline.specs.Outsides.{Adds, AddsSome, Outside}
use Rattle.timeline.specs.declared.stream.Stream.TheVariants.{Output}
use Rattle.answer_parts.specs.Lines.{words_of}
use Rattle.answer_parts.specs.Printing.{AtFlush, AtWrite, IsCutIn, OutputFails, Performs, Prints, printed}
use Rattle.answer_parts.specs.declared.answers.lines.Line.{Line}
use Rattle.move_msg.specs.TextLines.{ended}

abbrev line_written : List ℕ → Event
line_written line = Wrote Output (ended line)

abbrev pub Doing : Type 0 → Type 1
Doing X = List Event → Option X → Type 0

-- these bytes were written; a front of them was, and no more
abbrev pub Whole : List ℕ → List Event → Type 0
Whole bytes events = events ≡ Wrote Output bytes ∷ []

abbrev pub Front : List ℕ → List Event → Type 0
Front bytes events = (n : ℕ) × (events ≡ Wrote Output (take n bytes) ∷ Refused Output ∷ [])

-- ---- a write that was refused

-- with events before it
pub cut_behind : (first all events : List Event) → IsCutIn all events → IsCutIn (first ++ all) (first ++ events)
cut_behind first all events (AtWrite before bytes after wanted count written) =
    AtWrite (first ++ before) bytes after (ap (λ (l : List Event). first ++ l) wanted ∙ sym (append_assoc first before (Wrote Output bytes ∷ after))) count
    (ap (λ (l : List Event). first ++ l) written ∙ sym (append_assoc first before (Wrote Output (take count bytes) ∷ Refused Output ∷ [])))
cut_behind first all events (AtFlush before after wanted left) =
    AtFlush (first ++ before) after (ap (λ (l : List Event). first ++ l) wanted ∙ sym (append_assoc first before (Flushed Output ∷ after)))
    (ap (λ (l : List Event). first ++ l) left ∙ sym (append_assoc first before (Refused Output ∷ [])))

pub fails_at : {T P F K S L : Type 0} (o : Outside T P F K S L) (t : T) → (o.output t Output).refuses → OutputFails o
fails_at o t h = record { at = t; so = inl h }

pub stuck_at : {T P F K S L : Type 0} (o : Outside T P F K S L) (t : T) → (o.output t Output).stuck → OutputFails o
stuck_at o t h = record { at = t; so = inr h }

-- ---- what is done, one thing after another

-- events, and then what is done after them
pub then_does : {T P F K S L X : Type 0} (o : Outside T P F K S L) (a b c : T) (first : List Event) (A B : Doing X) (r : Result X WriteFault) → ((events : List Event) (is : Option X) → A events is → B (first ++ events) is)
    → Adds o a b first → AddsSome o b c (Performs A r) → AddsSome o a c (Performs B r)
then_does o a b c first A B (Ok x) step p q = (first ++ q.0, adds_more o a b c first q.0 p q.1, step q.0 (Some x) q.2)
then_does o a b c first A B (Err e) step p q =
    let all = q.2.0 in
    (first ++ q.0, adds_more o a b c first q.0 p q.1, (first ++ all, q.2.1, step all q.2.1 q.2.2, cut_behind first all q.0 q.2.3))

-- the same under another name
pub does_so : {T P F K S L X : Type 0} (o : Outside T P F K S L) (a b : T) (A B : Doing X) (r : Result X WriteFault) → ((events : List Event) (is : Option X) → A events is → B events is)
    → AddsSome o a b (Performs A r) → AddsSome o a b (Performs B r)
does_so o a b A B (Ok x) step q = (q.0, q.1, step q.0 (Some x) q.2)
does_so o a b A B (Err e) step q = (q.0, q.1, (q.2.0, q.2.1, step q.2.0 q.2.1 q.2.2, q.2.3))

-- what is so of these lines and this status is so of what prints them
pub prints_so : {X : Type 0} (B : Doing X) (first : List Event) (lines : List (List ℕ)) (x : X) → B (first ++ printed lines) (Some x) → (events : List Event) (is : Option X) → Prints lines x events is → B (first ++ events) is
prints_so {X} B first lines x h events is p = subst (λ (e : List Event). B (first ++ e) is) (sym p.0) (subst (λ (s : Option X). B (first ++ printed lines) s) (sym p.1) h)

-- events, and then lines
pub then_prints : {T P F K S L X : Type 0} (o : Outside T P F K S L) (a b c : T) (first : List Event) (B : Doing X) (lines : List (List ℕ)) (x : X) (r : Result X WriteFault) → B (first ++ printed lines) (Some x)
    → Adds o a b first → AddsSome o b c (Performs (Prints lines x) r) → AddsSome o a c (Performs B r)
then_prints o a b c first B lines x r h = then_does o a b c first (Prints lines x) B r (prints_so B first lines x h)

-- lines, with another value of it
pub prints_whole : {T P F K S L X Y : Type 0} (o : Outside T P F K S L) (a b : T) (lines : List (List ℕ)) (x is : X) (y : Y) → AddsSome o a b (Performs (Prints lines x) (Ok is)) → AddsSome o a b (Performs (Prints lines y) (Ok y))
prints_whole o a b lines x is y q = (q.0, q.1, (q.2.0, refl))

pub prints_front : {T P F K S L X Y : Type 0} (o : Outside T P F K S L) (a b : T) (lines : List (List ℕ)) (x : X) (y : Y) (f g : WriteFault) → AddsSome o a b (Performs (Prints lines x) (Err f)) → AddsSome o a b (Performs (Prints lines y) (Err g))
prints_front o a b lines x y f g q = (q.0, q.1, (q.2.0, Some y, (q.2.2.0, refl), q.2.3))

-- ---- one write

pub writes_one : {T P F K S L X : Type 0} (o : Outside T P F K S L) (a b : T) (bytes : List ℕ) (B : Doing X) (x : X) → B (Wrote Output bytes ∷ []) (Some x)
    → AddsSome o a b (Whole bytes) → AddsSome o a b (Performs B (Ok x))
writes_one {X = X} o a b bytes B x h q = (q.0, q.1, subst (λ (e : List Event). B e (Some x)) (sym q.2) h)

pub cuts_one : {T P F K S L X : Type 0} (o : Outside T P F K S L) (a b : T) (bytes : List ℕ) (f : WriteFault) (B : Doing X) (x : X) → B (Wrote Output bytes ∷ []) (Some x)
    → AddsSome o a b (Front bytes) → AddsSome o a b (Performs B (Err f))
cuts_one o a b bytes f B x h q = (q.0, q.1, (Wrote Output bytes ∷ [], Some x, h, AtWrite [] bytes [] refl q.2.0 q.2.1))

-- ---- lines

-- some lines, and one more
pub lines_more : {T P F K S L : Type 0} (o : Outside T P F K S L) (a b c : T) (front : List (List ℕ)) (line : List ℕ) → Adds o a b (printed front) → AddsSome o b c (Whole (ended line))
    → Adds o a c (printed (front ++ line ∷ []))
lines_more o a b c front line p q =
    subst (λ (e : List Event). Adds o a c e) (ap (λ (e : List Event). printed front ++ e) q.2 ∙ sym (map-append line_written front (line ∷ []))) (adds_more o a b c (printed front) q.0 p q.1)

-- some lines, and one that was refused
pub lines_cut : {T P F K S L : Type 0} (o : Outside T P F K S L) (a b c : T) (front : List (List ℕ)) (line : List ℕ) (rest : List (List ℕ)) → Adds o a b (printed front) → AddsSome o b c (Front (ended line))
    → AddsSome o a c (IsCutIn (printed (front ++ line ∷ rest)))
lines_cut o a b c front line rest p q = (
  printed front ++ q.0,
  adds_more o a b c (printed front) q.0 p q.1,
  AtWrite (printed front) (ended line) (printed rest) (map-append line_written front (line ∷ rest)) q.2.0 (ap (λ (e : List Event). printed front ++ e) q.2.1),
)

-- the words of some lines and of one more
pub words_more : (lines : List Line) (i : ℕ) (d : Line) → i < length lines → d ≡ get_or lines i d → map words_of (take (i + 1) lines) ≡ map words_of (take i lines) ++ words_of d ∷ []
words_more lines i d lt is =
    ap (map words_of) (take_more lines i d lt ∙ ap (λ (l : Line). take i lines ++ l ∷ []) (sym is)) ∙ map-append words_of (take i lines) (d ∷ [])

pub words_parted : (lines : List Line) (i : ℕ) (d : Line) → i < length lines → d ≡ get_or lines i d → map words_of lines ≡ map words_of (take i lines) ++ words_of d ∷ map words_of (drop (suc i) lines)
words_parted lines i d lt is =
    ap (map words_of) (sym (take-append-drop i lines) ∙ ap (λ (l : List Line). take i lines ++ l) (drop-cons lines i d lt ∙ ap (λ (l : Line). l ∷ drop (suc i) lines) (sym is)))
    ∙ map-append words_of (take i lines) (d ∷ drop (suc i) lines)

-- one more of some lines was written
pub line_printed : {T P F K S L : Type 0} (o : Outside T P F K S L) (a b c : T) (lines : List Line) (i : ℕ) (d : Line) (words : List ℕ) → words ≡ words_of d → i < length lines → d ≡ get_or lines i d → Adds o a b (printed (map words_of (take i lines))) → AddsSome o b c (Whole (ended words))
    → Adds o a c (printed (map words_of (take (i + 1) lines)))
line_printed o a b c lines i d words same lt is p q =
    subst (λ (ls : List (List ℕ)). Adds o a c (printed ls)) (sym (words_more lines i d lt is)) (lines_more o a b c (map words_of (take i lines)) (words_of d) p (subst (λ (w : List ℕ). AddsSome o b c (Whole (ended w))) same q))

-- the next of some lines was refused
pub line_refused : {T P F K S L : Type 0} (o : Outside T P F K S L) (a b c : T) (lines : List Line) (i : ℕ) (d : Line) (words : List ℕ) → words ≡ words_of d → i < length lines → d ≡ get_or lines i d → Adds o a b (printed (map words_of (take i lines))) → AddsSome o b c (Front (ended words))
    → AddsSome o a c (IsCutIn (printed (map words_of lines)))
line_refused o a b c lines i d words same lt is p q =
    subst (λ (ls : List (List ℕ)). AddsSome o a c (IsCutIn (printed ls))) (sym (words_parted lines i d lt is))
    (lines_cut o a b c (map words_of (take i lines)) (words_of d) (map words_of (drop (suc i) lines)) p (subst (λ (w : List ℕ). AddsSome o b c (Front (ended w))) same q))

-- all of them were
pub all_printed : {T P F K S L : Type 0} (o : Outside T P F K S L) (a b : T) (lines : List Line) (i : ℕ) → length lines ≤ i → Adds o a b (printed (map words_of (take i lines))) → AddsSome o a b (λ events. events ≡ printed (map words_of lines))
all_printed o a b lines i all p = (printed (map words_of lines), subst (λ (ls : List Line). Adds o a b (printed (map words_of ls))) (take_all i lines all) p, refl)

-- lines that were all written, or not, with a status
pub printed_with : {T P F K S L X : Type 0} (o : Outside T P F K S L) (a b : T) (lines : List (List ℕ)) (status : X) → AddsSome o a b (λ events. events ≡ printed lines) → AddsSome o a b (Performs (Prints lines status) (Ok status))
printed_with o a b lines status q = (q.0, q.1, (q.2, refl))

pub cut_with : {T P F K S L X : Type 0} (o : Outside T P F K S L) (a b : T) (lines : List (List ℕ)) (status : X) (f : WriteFault) → AddsSome o a b (IsCutIn (printed lines)) → AddsSome o a b (Performs (Prints lines status) (Err f))
cut_with o a b lines status f q = (q.0, q.1, (printed lines, Some status, (refl, refl), q.2))
