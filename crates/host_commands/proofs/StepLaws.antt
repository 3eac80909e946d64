-- One step after another.
use Rattle.std.proofs.Common.{◌≡◌, ◌∙◌, ◌∷◌, ◌++◌, [], ℕ, List, Option, Some, None, ap, refl, subst, sym}
use Rattle.std.specs.Prelude.{Result, Ok, Err, IfOk, String, string_bytes}
use Rattle.std.specs.Global.{Global}
use Rattle.answer_parts.proofs.PrintLaws.{does_so, then_does, then_prints}
use Rattle.answer_parts.specs.Printing.{AtFlush, AtWrite, IsCutIn, Performs, Prints}
use Rattle.host_commands.specs.Inside.Parts.{GoesOut, GoesOutIf}
use Rattle.host_commands.specs.Notes.{IsNoted, MayNote, NotNoted, noted_if}
use Rattle.host_commands.specs.Steps.{AfterLine, AfterText, AndThen, BothDone, Doing, FirstIsRefused, GoesOn, AllOpen, IsRefused, Step, TextFirst, ThenOrRefused, ThenRest, gone_out}
use Rattle.system_io.specs.declared.output.WriteFault.{WriteFault}
use Rattle.timeline.proofs.EventLaws.{adds_more, adds_none}
use Rattle.timeline.specs.Events.{Event, Flushed, IsWritten, Noted, Refused, Wrote, by_result}
use Rattle.timeline.specs.Outsides.{Adds, AddsSome, Outside}
use Rattle.timeline.specs.declared.stream.Stream.TheVariants.{Output}

-- of no events there is no front
not_none : (before : List Event) (e : Event) (after : List Event) → [] ≡ before ++ e ∷ after → ⊥
not_none [] e after wrong = absurd (cc)
not_none (x ∷ before) e after wrong = absurd (cc)

no_cut : (all events : List Event) → all ≡ [] → IsCutIn all events → ⊥
no_cut all events none (AtWrite before bytes after wanted count written) = not_none before _ after (sym none ∙ wanted)
no_cut all events none (AtFlush before after wanted left) = not_none before _ after (sym none ∙ wanted)

module _ {T P F K S L : Type 0} (o : Outside T P F K S L) where
  -- a start goes on
  pub both : {A B : Type 0} (a b c : T) (First : Step A) (Next : A → Step B) (x : A) (r : Result B (List ℕ)) → AddsSome o a b (First (Ok x)) → AddsSome o b c (Next x r) → AddsSome o a c (AndThen First Next r)
  both a b c First Next x r p q = (p.0 ++ q.0, adds_more o a b c p.0 q.0 p.1 q.1, BothDone x p.0 q.0 p.2 q.2 refl)

  pub both_so : {A B : Type 0} (a b : T) (First : Step A) (Next : A → Step B) (x : A) (r : Result B (List ℕ)) → First (Ok x) [] → AddsSome o a b (Next x r) → AddsSome o a b (AndThen First Next r)
  both_so a b First Next x r first q = (q.0, q.1, BothDone x [] q.0 first q.2 refl)

  -- or it is refused
  pub alone : {A B : Type 0} (a b : T) (First : Step A) (Next : A → Step B) (words : List ℕ) → AddsSome o a b (First (Err words)) → AddsSome o a b (AndThen First Next (Err words))
  alone a b First Next words p = (p.0, p.1, FirstIsRefused words p.2 refl)

  pub alone_so : {A B : Type 0} (a : T) (First : Step A) (Next : A → Step B) (words : List ℕ) → First (Err words) [] → AddsSome o a a (AndThen First Next (Err words))
  alone_so a First Next words first = ([], adds_none o a, FirstIsRefused words first refl)

  pub given : {A : Type 0} (a : T) (x y : A) → x ≡ y → AddsSome o a a (AllOpen y (Ok x))
  given a x y is = ([], adds_none o a, (ap Ok is, refl))

  pub goes_on : {A : Type 0} (a b c : T) (First : Step A) (Rest : A → Doing) (x : A) (r : Result ℕ WriteFault) → AddsSome o a b (First (Ok x)) → AddsSome o b c (Performs (Rest x) r) → AddsSome o a c (Performs (ThenOrRefused First Rest) r)
  goes_on a b c First Rest x r p q = then_does o a b c p.0 (Rest x) (ThenOrRefused First Rest) r (λ events status h. GoesOn x p.0 events p.2 h refl) p.1 q

  pub is_refused : {A : Type 0} (a b c : T) (First : Step A) (Rest : A → Doing) (words : List ℕ) (r : Result ℕ WriteFault) → AddsSome o a b (First (Err words)) → AddsSome o b c (Performs (Prints (words ∷ []) 1) r) → AddsSome o a c (Performs (ThenOrRefused First Rest) r)
  is_refused a b c First Rest words r p q = then_prints o a b c p.0 (ThenOrRefused First Rest) (words ∷ []) 1 r (IsRefused words p.0 p.2 refl refl) p.1 q

  -- where nothing happens for the first one
  pub goes_on_so : {A : Type 0} (a b : T) (First : Step A) (Rest : A → Doing) (x : A) (r : Result ℕ WriteFault) → First (Ok x) [] → AddsSome o a b (Performs (Rest x) r) → AddsSome o a b (Performs (ThenOrRefused First Rest) r)
  goes_on_so a b First Rest x r first q = does_so o a b (Rest x) (ThenOrRefused First Rest) r (λ events status h. GoesOn x [] events first h refl) q

  pub is_refused_so : {A : Type 0} (a b : T) (First : Step A) (Rest : A → Doing) (words : List ℕ) (r : Result ℕ WriteFault) → First (Err words) [] → AddsSome o a b (Performs (Prints (words ∷ []) 1) r) → AddsSome o a b (Performs (ThenOrRefused First Rest) r)
  is_refused_so a b First Rest words r first q = does_so o a b (Prints (words ∷ []) 1) (ThenOrRefused First Rest) r (λ events status h. IsRefused words [] first h.0 h.1) q

  -- a text went out, or that failed
  pub after_text : (a b c : T) (text : List ℕ) (Rest : Doing) (x : Unit {0}) (r : Result ℕ WriteFault) → AddsSome o a b (Performs (GoesOut text) (Ok x)) → AddsSome o b c (Performs Rest r) → AddsSome o a c (Performs (AfterText text Rest) r)
  after_text a b c text Rest x r p q = then_does o a b c p.0 Rest (AfterText text Rest) r (λ events status h. ThenRest events h (ap (λ (l : List Event). l ++ events) p.2.0)) p.1 q

  pub text_lost : (a b : T) (text : List ℕ) (Rest : Doing) (fault : WriteFault) → AddsSome o a b (Performs (GoesOut text) (Err fault)) → AddsSome o a b (Performs (AfterText text Rest) (Err fault))
  text_lost a b text Rest fault p = (p.0, p.1, (p.2.0, None, TextFirst p.2.2.0 refl, p.2.3))

  -- the same where there is one
  pub after_line : (a b c : T) (line : Option (List ℕ)) (Rest : Doing) (x : Unit {0}) (r : Result ℕ WriteFault) → AddsSome o a b (Performs (GoesOutIf line) (Ok x)) → AddsSome o b c (Performs Rest r) → AddsSome o a c (Performs (AfterLine line Rest) r)
  after_line a b c None Rest x r p q = then_does o a b c p.0 Rest Rest r (λ events status h. subst (λ (l : List Event). Rest (l ++ events) status) (sym p.2.0) h) p.1 q
  after_line a b c (Some text) Rest x r p q = after_text a b c text Rest x r p q

  pub line_lost : (a b : T) (line : Option (List ℕ)) (Rest : Doing) (fault : WriteFault) → AddsSome o a b (Performs (GoesOutIf line) (Err fault)) → AddsSome o a b (Performs (AfterLine line Rest) (Err fault))
  line_lost a b None Rest fault p = absurd (no_cut p.2.0 p.0 p.2.2.0 p.2.3)
  line_lost a b (Some text) Rest fault p = text_lost a b text Rest fault p

  -- a line with these words is noted, if it could be made
  pub may_note : {E : Type 0} (a b : T) (words : List ℕ) (line : Result (String Global) E) → IfOk line (λ l. string_bytes l ≡ words) → Adds o a b (noted_if line) → AddsSome o a b (MayNote words)
  may_note a b words (Ok l) is p = (Noted (string_bytes l) ∷ [], p, IsNoted (ap (λ (w : List ℕ). Noted w ∷ []) is))
  may_note a b words (Err e) is p = ([], p, NotNoted refl)

  -- a text was written, and went out or didn't
  pub text_written : (a b c : T) (text : List ℕ) (x : Unit {0}) (r : Result (Unit {0}) WriteFault) → AddsSome o a b (IsWritten {E = WriteFault} Output text (Ok x)) → Adds o b c (by_result r (λ _. Flushed Output) (Refused Output) ∷ []) → AddsSome o a c (Performs (GoesOut text) r)
  text_written a b c text x (Ok y) p q = (Wrote Output text ∷ Flushed Output ∷ [], adds_more o a b c (Wrote Output text ∷ []) (Flushed Output ∷ []) (subst (Adds o a b) p.2 p.1) q, (refl, refl))
  text_written a b c text x (Err fault) p q = (
    Wrote Output text ∷ Refused Output ∷ [],
    adds_more o a b c (Wrote Output text ∷ []) (Refused Output ∷ []) (subst (Adds o a b) p.2 p.1) q,
    (gone_out text, Some tt, (refl, refl), AtFlush (Wrote Output text ∷ []) [] refl refl),
  )

  pub text_refused : (a b : T) (text : List ℕ) (fault : WriteFault) → AddsSome o a b (IsWritten {A = Unit {0}} Output text (Err fault)) → AddsSome o a b (Performs (GoesOut text) (Err fault))
  text_refused a b text fault p = (p.0, p.1, (gone_out text, Some tt, (refl, refl), AtWrite [] text (Flushed Output ∷ []) refl p.2.0 p.2.1))
