-- Words of refusals, and answers that an empty line follows.
use Rattle.std.proofs.Common.{◌≡◌, ◌∙◌, ◌++◌, ◌∷◌, ◌==◌, [], ℕ, Bool, List, Some, Ok, Err, ap, append_assoc, map, refl, subst, sym, take}
use Rattle.std.proofs.lemmas.Grind.{flat_map-append}
use Rattle.std.proofs.lemmas.List.{map-append}
use Rattle.std.specs.List.{flat_map}
use Rattle.answer_parts.proofs.PrintLaws.{Front, Whole, cut_behind}
use Rattle.answer_parts.specs.Lines.{refusal_words}
use Rattle.answer_parts.specs.Printing.{AtFlush, AtWrite, IsCutIn, Performs, PrintsReply, WritesText}
use Rattle.answer_parts.specs.Reply.{Reply}
use Rattle.answer_parts.specs.declared.answers.refusals.Refusal.{Refusal}
use Rattle.answer_parts.specs.declared.answers.refusals.Refusal.TheVariants as refusal
use Rattle.line_events.specs.Writing.{WritesAnswer}
use Rattle.line_teller.specs.declared.told_lines.TellFault.TheVariants as tell
use Rattle.move_msg.specs.TextLines.{ended}
use Rattle.move_msg.specs.declared.told.Manifest.{Manifest}
use Rattle.system_io.specs.declared.output.WriteFault.{WriteFault}
use Rattle.timeline.proofs.EventLaws.{adds_more}
use Rattle.timeline.specs.Events.{Event, Wrote}
use Rattle.timeline.specs.Outsides.{Adds, AddsSome, Outside}
use Rattle.timeline.specs.declared.stream.Stream.TheVariants.{Output}
use Rattle.table_commands.specs.Root.{refused_words}

-- ---- a refusal that is none of a table's file is in the same words as a line and as JSON

pub other_words : (json : Bool) (refused : Refusal) → ((name : _) (fault : _) → refused ≡ refusal.File name fault → ⊥) → refused_words json refused ≡ refusal_words refused
other_words json (refusal.Fen fault) not = refl
other_words json (refusal.Manifest line) not = refl
other_words json (refusal.File name file) not = absurd (not name file refl)
other_words json (refusal.Message number fault) not = refl
other_words json (refusal.Line line) not = refl
other_words json (refusal.Entry line fault) not = refl
other_words json (refusal.Move place) not = refl
other_words json (refusal.Record fault) not = refl
other_words json refusal.Port not = refl
other_words json refusal.Keeper not = refl
other_words json refusal.Exists not = refl
other_words json refusal.InUse not = refl
other_words json refusal.Store not = refl
other_words json refusal.Files not = refl
other_words json refusal.SharedKey not = refl
other_words json (refusal.Key line) not = refl
other_words json refusal.Memory not = refl

-- ---- an answer, and an empty line

-- a front of some events is one of them with others behind
cut_before : (all more events : List Event) → IsCutIn all events → IsCutIn (all ++ more) events
cut_before all more events (AtWrite before bytes after wanted count written) = AtWrite before bytes (after ++ more) (ap (λ (l : List Event). l ++ more) wanted ∙ append_assoc before (Wrote Output bytes ∷ after) more) count written
cut_before all more events (AtFlush before after wanted left) = AtFlush before (after ++ more) (ap (λ (l : List Event). l ++ more) wanted ∙ append_assoc before (_ ∷ after) more) left

abbrev feed : List Event
feed = Wrote Output (10 ∷ []) ∷ []

with_feed : (text : List ℕ) (events : List Event) → WritesText text events → WritesText (ended text) (events ++ feed)
with_feed text events w = record {
  pieces = w.pieces ++ (10 ∷ []) ∷ [];
  whole = flat_map-append (λ (piece : List ℕ). piece) w.pieces ((10 ∷ []) ∷ []) ∙ ap (λ (t : List ℕ). t ++ 10 ∷ []) w.whole;
  written = ap (λ (e : List Event). e ++ feed) w.written ∙ sym (map-append (Wrote Output) w.pieces ((10 ∷ []) ∷ []));
}

is_some : (a b : ℕ) → Some a ≡ Some b → a ≡ b
is_some a b e = cc

module _ {T P F O S L : Type 0} (o : Outside T P F O S L) (reply : Reply) (a b : T) where
  -- the answer is cut
  pub cut_answer : (f : WriteFault) → AddsSome o a b (Performs (PrintsReply reply) (Err f)) → AddsSome o a b (WritesAnswer (ended reply.text) (reply.status == 0) (Err tell.Io))
  cut_answer f p = (p.0, p.1, (p.2.0 ++ feed, with_feed reply.text p.2.0 p.2.2.0, cut_before p.2.0 feed p.0 p.2.3))

  module _ (c : T) (status : ℕ) (p : AddsSome o a b (Performs (PrintsReply reply) (Ok status))) where
    -- both are written, or the empty line is cut
    pub with_empty_line : AddsSome o b c (Whole (10 ∷ [])) → AddsSome o a c (WritesAnswer (ended reply.text) (reply.status == 0) (Ok (status == 0)))
    with_empty_line q = (
      p.0 ++ q.0,
      adds_more o a b c p.0 q.0 p.1 q.1,
      (subst (λ (e : List Event). WritesText (ended reply.text) (p.0 ++ e)) (sym q.2) (with_feed reply.text p.0 p.2.0), ap (λ (s : ℕ). s == 0) (is_some status reply.status p.2.1)),
    )

    pub cut_empty_line : AddsSome o b c (Front (10 ∷ [])) → AddsSome o a c (WritesAnswer (ended reply.text) (reply.status == 0) (Err tell.Io))
    cut_empty_line q = (
      p.0 ++ q.0,
      adds_more o a b c p.0 q.0 p.1 q.1,
      (p.0 ++ feed, with_feed reply.text p.0 p.2.0, cut_behind p.0 feed q.0 (AtWrite [] (10 ∷ []) [] refl q.2.0 q.2.1)),
    )
