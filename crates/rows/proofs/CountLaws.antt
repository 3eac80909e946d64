-- A line that is answered by a count.
use Rattle.std.proofs.Common.{◌≡◌, ◌∷◌, [], ℕ, Bool, true, List, append-nil, length, refl}
use Rattle.std.specs.Fmt.{decimal}
use Rattle.std.specs.Prelude.{Ok, Err}
use Rattle.line_events.proofs.WritingLaws.{told_at_once}
use Rattle.line_events.specs.LineEvents.{AnswersLine}
use Rattle.line_events.specs.Writing.{at_once}
use Rattle.line_teller.specs.ToldLines.{LineTold}
use Rattle.line_teller.specs.declared.told_lines.TellFault.TheVariants as tell
use Rattle.move_msg.specs.TextLines.{ended}
use Rattle.answer_parts.specs.Printing.{AtWrite}
use Rattle.system_io.specs.declared.output.WriteFault.{WriteFault}
use Rattle.timeline.specs.Events.{IsWritten, Wrote}
use Rattle.timeline.specs.Outsides.{AddsSome, Outside}
use Rattle.timeline.specs.declared.stream.Stream.TheVariants.{Output}

abbrev pub IsCount : List ℕ → LineTold → Type 0
IsCount = λ (line : List ℕ) (told : LineTold). told.words ≡ decimal (length line)

module _ {T P F K S L : Type 0} (o : Outside T P F K S L) (b c : T) (line : List ℕ) where
  pub counted : (words : List ℕ) (done : Bool) (x : Unit {0}) → words ≡ decimal (length line) → AddsSome o b c (IsWritten {A = Unit {0}} {E = WriteFault} Output (ended words) (Ok x)) → AddsSome o b c (AnswersLine (at_once IsCount (λ _. Unit {0})) tt tt line (Ok done))
  counted words done x is q =
      told_at_once o IsCount (λ _. Unit {0}) b c line (ended words) words done (Ok done) is refl (q.0, q.1, (record { pieces = ended words ∷ []; whole = append-nil (ended words); written = q.2 }, refl))

  pub cut_count : (words : List ℕ) (f : WriteFault) → words ≡ decimal (length line) → AddsSome o b c (IsWritten {A = Unit {0}} {E = WriteFault} Output (ended words) (Err f)) → AddsSome o b c (AnswersLine (at_once IsCount (λ _. Unit {0})) tt tt line (Err tell.Io))
  cut_count words f is q =
      told_at_once o IsCount (λ _. Unit {0}) b c line (ended words) words true (Err tell.Io) is refl (
        q.0,
        q.1,
        (Wrote Output (ended words) ∷ [], record { pieces = ended words ∷ []; whole = append-nil (ended words); written = refl }, AtWrite [] (ended words) [] refl q.2.0 q.2.1),
      )
