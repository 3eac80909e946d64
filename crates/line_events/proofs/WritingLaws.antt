-- Answers that are written at once, and what is done by what was read first.
use Rattle.std.proofs.Common.{◌≡◌, ◌==◌, ◌∙◌, ◌++◌, ◌∷◌, [], ℕ, Bool, List, Option, Some, ap, refl, subst, sym}
use Rattle.std.specs.List.{flat_map}
use Rattle.std.specs.Prelude.{Result, Ok, Err}
use Rattle.line_teller.specs.ToldLines.{LineTold, cut_words}
use Rattle.line_teller.specs.declared.told_lines.TellFault.{TellFault}
use Rattle.line_teller.specs.declared.told_lines.TellFault.TheVariants as tell
use Rattle.move_msg.specs.TextLines.{ended}
use Rattle.system_io.specs.declared.output.WriteFault.{WriteFault}
use Rattle.system_io.specs.declared.reading.ReadFault.{ReadFault}
use Rattle.task_files.specs.InputReads.{Reading}
use Rattle.timeline.proofs.EventLaws.{adds_more, adds_none}
use Rattle.timeline.specs.Events.{Event}
use Rattle.timeline.specs.Outsides.{Adds, AddsSome, Outside}
use Rattle.answer_parts.proofs.PrintLaws.{cut_behind, then_does, then_prints}
use Rattle.line_events.specs.LineEvents.{Answering, AnswersLine, Told, written}
use Rattle.answer_parts.specs.Reply.{Reply}
use Rattle.answer_parts.specs.Printing.{IsCutIn, Performs, Prints, PrintsReply}
use Rattle.line_events.specs.Writing.{DoesBy, IsDone, IsUnread, WritesAnswer, at_once}

some_is : (a b : ℕ) → Some a ≡ Some b → a ≡ b
some_is a b e = cc

module _ {T P F O S L : Type 0} (o : Outside T P F O S L) where
  -- a reply was written, or a front of it
  pub reply_written : (b c : T) (reply : Reply) (status : ℕ) → AddsSome o b c (Performs (PrintsReply reply) (Ok status)) → AddsSome o b c (WritesAnswer reply.text (reply.status == 0) (Ok (status == 0)))
  reply_written b c reply status q = (q.0, q.1, (q.2.0, ap (λ (s : ℕ). s == 0) (some_is status reply.status q.2.1)))

  pub reply_cut : (b c : T) (reply : Reply) (f : WriteFault) → AddsSome o b c (Performs (PrintsReply reply) (Err f)) → AddsSome o b c (WritesAnswer reply.text (reply.status == 0) (Err tell.Io))
  reply_cut b c reply f q = (q.0, q.1, (q.2.0, q.2.2.0, q.2.3))

  module _ {K : Type 0} (a : Answering K) (k next : K) (line : List ℕ) where
    -- something was read for a line, and then the answer was written, or a front of it
    pub answer_written : (b c d : T) (text : List ℕ) (done : Bool) (reading : List Event) (r : Result Bool TellFault) → ((told : Told) → flat_map (λ (piece : List ℕ). piece) told.pieces ≡ text → told.done ≡ done → a.Tells k next line told reading)
        → Adds o b c reading → AddsSome o c d (WritesAnswer text done r) → AddsSome o b d (AnswersLine a k next line r)
    answer_written b c d text done reading (Ok is) tells p q = (
      reading ++ q.0,
      adds_more o b c d reading q.0 p q.1,
      (reading, q.2.0.pieces, tells (record { pieces = q.2.0.pieces; done = is }) q.2.0.whole q.2.1, ap (λ (e : List Event). reading ++ e) q.2.0.written),
    )
    answer_written b c d text done reading (Err tell.OutOfMemory) tells p q = absurd q.2
    answer_written b c d text done reading (Err tell.Io) tells p q =
        let (all, whole, cut) = q.2 in (
          reading ++ q.0,
          adds_more o b c d reading q.0 p q.1,
          (
            reading,
            record { pieces = whole.pieces; done = done },
            tells (record { pieces = whole.pieces; done = done }) whole.whole refl,
            cut_behind reading (written whole.pieces) q.0 (subst (λ (e : List Event). IsCutIn e q.0) whole.written cut),
          ),
        )

    -- something was read, and memory was refused
    pub no_room_for : (b c : T) (reading : List Event) → a.TakesMemory k line reading → Adds o b c reading → AddsSome o b c (AnswersLine a k next line (Err tell.OutOfMemory))
    no_room_for b c reading takes p = (reading, p, takes)

  module _ (Tells : List ℕ → LineTold → Type 0) (Takes : List ℕ → Type 0) where
    -- a line was told at once
    pub told_at_once : (b c : T) (line text words : List ℕ) (done : Bool) (r : Result Bool TellFault) → Tells line (record { words = words; done = done }) → text ≡ ended words → AddsSome o b c (WritesAnswer text done r) → AddsSome o b c (AnswersLine (at_once Tells Takes) tt tt line r)
    told_at_once b c line text words done r told is q =
        answer_written (at_once Tells Takes) tt tt line b b c text done [] r (λ t whole same. ((words, subst (λ (d : Bool). Tells line (record { words = words; done = d })) (sym same) told, whole ∙ is), refl)) (adds_none o b) q

    -- memory was refused to its answer
    pub no_room_at_once : (b : T) (line : List ℕ) → Takes line → AddsSome o b b (AnswersLine (at_once Tells Takes) tt tt line (Err tell.OutOfMemory))
    no_room_at_once b line takes = no_room_for (at_once Tells Takes) tt tt line b b [] (takes, refl) (adds_none o b)

  module _ {A : Type 0} (Reads : Reading A) (Does : A → List Event → Option ℕ → Type 0) where
    -- something was read, and then this was done by it
    pub done_by_it : (b c d : T) (a : A) (r : Result ℕ WriteFault) → AddsSome o b c (Reads (Ok a)) → AddsSome o c d (Performs (Does a) r) → AddsSome o b d (Performs (DoesBy Reads Does) r)
    done_by_it b c d a r p q = then_does o b c d p.0 (Does a) (DoesBy Reads Does) r (λ events status h. IsDone a p.0 events p.2 h refl) p.1 q

    -- or it couldn't be read
    pub unread_first : (b c d : T) (fault : ReadFault) (r : Result ℕ WriteFault) → AddsSome o b c (Reads (Err fault)) → AddsSome o c d (Performs (Prints (cut_words fault ∷ []) 1) r) → AddsSome o b d (Performs (DoesBy Reads Does) r)
    unread_first b c d fault r p q = then_prints o b c d p.0 (DoesBy Reads Does) (cut_words fault ∷ []) 1 r (IsUnread fault p.0 p.2 refl refl) p.1 q
