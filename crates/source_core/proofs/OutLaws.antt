-- A line that is written, and goes out, as events.
use Rattle.std.proofs.Common.{◌++◌, ◌∷◌, [], ℕ, List, ap, inl, inr}
use Rattle.std.specs.Prelude.{Result, Ok, Err}
use Rattle.line_teller.specs.ToldLines.{HasFailed}
use Rattle.move_msg.specs.TextLines.{ended}
use Rattle.system_io.specs.declared.output.WriteFault.{WriteFault}
use Rattle.timeline.proofs.EventLaws.{adds_more}
use Rattle.timeline.specs.Events.{Event, Flushed, IsWritten, Refused, by_result}
use Rattle.timeline.specs.Outsides.{Adds, AddsSome, Outside}
use Rattle.timeline.specs.declared.stream.Stream.TheVariants.{Output}
use Rattle.source_core.specs.Runs.{LineGoesOut}

module _ {T P F K S L : Type 0} (o : Outside T P F K S L) (a b c : T) (words : List ℕ) where
  -- it was written whole
  pub line_written : (r : Result (Unit {0}) WriteFault) → AddsSome o a b (IsWritten {A = Unit {0}} {E = WriteFault} Output (ended words) (Ok tt)) → Adds o b c (by_result r (λ _. Flushed Output) (Refused Output) ∷ []) → AddsSome o a c (LineGoesOut words r)
  line_written (Ok x) p q = (p.0 ++ Flushed Output ∷ [], adds_more o a b c p.0 (Flushed Output ∷ []) p.1 q, ap (λ (l : List Event). l ++ Flushed Output ∷ []) p.2)
  line_written (Err fault) p q = (p.0 ++ Refused Output ∷ [], adds_more o a b c p.0 (Refused Output ∷ []) p.1 q, inr (ap (λ (l : List Event). l ++ Refused Output ∷ []) p.2))

  -- it wasn't
  pub line_cut : (f g : WriteFault) → AddsSome o a b (IsWritten {A = Unit {0}} Output (ended words) (Err f)) → AddsSome o a b (LineGoesOut {X = Unit {0}} words (Err g))
  line_cut f g p = (p.0, p.1, inl p.2)

pub refuses_at : {T P F K S L : Type 0} (o : Outside T P F K S L) (t : T) → (o.output t Output).refuses → HasFailed (λ x. o.output x Output)
refuses_at o t h = record { at = t; so = inl h }

pub stuck_at : {T P F K S L : Type 0} (o : Outside T P F K S L) (t : T) → (o.output t Output).stuck → HasFailed (λ x. o.output x Output)
stuck_at o t h = record { at = t; so = inr h }
