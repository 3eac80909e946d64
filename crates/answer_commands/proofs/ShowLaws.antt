-- A stream that is shown message by message.
use Rattle.std.proofs.Common.{◌≡◌, ◌∙◌, ◌+◌, ◌≤◌, ◌++◌, ◌∷◌, [], ℕ, List, Option, Some, None, ap, ap₂, arith, codes, length, map, refl, subst, sym}
use Rattle.std.proofs.lemmas.List.{length-append, map-append}
use Rattle.std.specs.Prelude.{Result, Ok, Err}
use Rattle.answer_parts.specs.Lines.{refused_message}
use Rattle.move_msg.specs.MessageWords.{message_words}
use Rattle.move_msg.specs.Messages.{SpellsMessage, message_fault_name}
use Rattle.move_msg.specs.Streams.{AfterMessage, AtFault, BeginsBy, Cut, End, EndsSo}
use Rattle.move_msg.specs.TextLines.{ended}
use Rattle.move_msg.specs.declared.message.Message.{Message}
use Rattle.move_msg.specs.declared.message.MessageFault.{MessageFault}
use Rattle.system_io.specs.declared.output.WriteFault.{WriteFault}
use Rattle.timeline.proofs.EventLaws.{adds_none}
use Rattle.system_io.specs.Inputs.{InputFacts}
use Rattle.timeline.specs.Events.{Event, InputRead, Wrote}
use Rattle.timeline.specs.Outsides.{Adds, AddsSome, Outside}
use Rattle.timeline.specs.declared.stream.Stream.TheVariants.{Output}
use Rattle.answer_commands.specs.Inside.Streaming.{ShowsAll, ShowsFirst, ShowsStream}
use Rattle.answer_parts.specs.Printing.{IsCutIn, Performs, Prints, printed}
use Rattle.answer_commands.specs.Inputs.{IsInput}
use Rattle.answer_commands.specs.Show.{ShownAll, ShownFirst, ShowsMessages, shown_lines, shown_status}
use Rattle.answer_parts.proofs.PrintLaws.{Front, Whole, lines_cut, lines_more, then_prints}

-- the lines of some messages were written, and the rest of the stream is left
pub record HasShown {T P F K S L : Type 0} (o : Outside T P F K S L) (stream rest : List ℕ) (old new : T) (number : ℕ) : Type 0 where
  pub done : List Message
  pub begins : BeginsBy stream done rest
  pub next : number ≡ length done + 1
  pub bound : number + length rest ≤ length stream + 1
  pub written : Adds o old new (printed (map message_words done))

pub nothing_shown : {T P F K S L : Type 0} (o : Outside T P F K S L) (stream : List ℕ) (old : T) → HasShown o stream stream old old 1
nothing_shown o stream old = record { done = []; begins = refl; next = refl; bound = omega arith; written = adds_none o old }

begins_more : (t : List ℕ) (ms : List Message) (rest text tail : List ℕ) (m : Message) → BeginsBy t ms rest → rest ≡ text ++ tail → SpellsMessage text m → BeginsBy t (ms ++ m ∷ []) tail
begins_more t [] rest text tail m h e s = (text, tail, h ∙ e, s, refl)
begins_more t (n ∷ ns) rest text tail m h e s = (h.0, h.1, h.2, h.3, begins_more h.1 ns rest text tail m h.4 e s)

pub shorter : (rest tail text : List ℕ) → length text ≡ 27 → rest ≡ text ++ tail → length rest ≡ 27 + length tail
shorter rest tail text whole e = let all : length rest ≡ length text + length tail = ap length e ∙ length-append text tail in omega arith

-- one message more
pub shows_more : {T P F K S L : Type 0} (o : Outside T P F K S L) (stream rest tail text : List ℕ) (m : Message) (a b c : T) (number : ℕ) → HasShown o stream rest a b number → length text ≡ 27 → rest ≡ text ++ tail → SpellsMessage text m → AddsSome o b c (Whole (ended (message_words m)))
    → HasShown o stream tail a c (number + 1)
shows_more o stream rest tail text m a b c number h whole e s line =
    let len = shorter rest tail text whole e in
    let bound = h.bound in
    let next = h.next in
    record {
      done = h.done ++ m ∷ [];
      begins = begins_more stream h.done rest text tail m h.begins e s;
      next = omega (arith, length-append h.done (m ∷ []));
      bound = omega arith;
      written = subst (λ (lines : List (List ℕ)). Adds o a c (printed lines)) (sym (map-append message_words h.done (m ∷ []))) (lines_more o a b c (map message_words h.done) (message_words m) h.written line);
    }

-- the line of a message was refused
pub shown_front : {T P F K S L : Type 0} (o : Outside T P F K S L) (stream rest tail text : List ℕ) (m : Message) (f : WriteFault) (a b c : T) (number : ℕ) → HasShown o stream rest a b number → rest ≡ text ++ tail → SpellsMessage text m → AddsSome o b c (Front (ended (message_words m)))
    → AddsSome o a c (Performs (ShowsStream stream) (Err f))
shown_front o stream rest tail text m f a b c number h is s line =
    let cut = lines_cut o a b c (map message_words h.done) (message_words m) [] h.written line in
    let all : List (List ℕ) = map message_words (h.done ++ m ∷ []) in (
      cut.0,
      cut.1,
      (
        printed all,
        None,
        ShowsFirst (h.done ++ m ∷ []) tail (begins_more stream h.done rest text tail m h.begins is s) refl refl,
        subst (λ (lines : List (List ℕ)). IsCutIn (printed lines) cut.0) (sym (map-append message_words h.done (m ∷ []))) cut.2,
      ),
    )

-- the stream ends after a message
pub shown_whole : {T P F K S L : Type 0} (o : Outside T P F K S L) (stream rest : List ℕ) (a b : T) (number : ℕ) → HasShown o stream rest a b number → EndsSo rest AfterMessage → AddsSome o a b (Performs (ShowsStream stream) (Ok 0))
shown_whole o stream rest a b number h end = (printed (map message_words h.done), h.written, ShowsAll h.done AfterMessage (record { rest = rest; messages = h.begins; ending = end }) refl refl)

-- or with a refusal
refused_so : {T P F K S L : Type 0} (o : Outside T P F K S L) (stream rest : List ℕ) (a b c : T) (number : ℕ) (r : Result ℕ WriteFault) (end : End) (name named : List ℕ) → (h : HasShown o stream rest a b number) → EndsSo rest end → named ≡ name → shown_lines h.done end ≡ map message_words h.done ++ refused_message (length h.done + 1) name ∷ [] → shown_status end ≡ 1
    → AddsSome o b c (Performs (Prints (refused_message number named ∷ []) 1) r) → AddsSome o a c (Performs (ShowsStream stream) r)
refused_so o stream rest a b c number r end name named h ends is lines one told =
    let front : List (List ℕ) = map message_words h.done in
    let same : refused_message number named ≡ refused_message (length h.done + 1) name = ap₂ refused_message h.next is in
    let all : printed front ++ printed (refused_message number named ∷ []) ≡ printed (shown_lines h.done end) =
    sym (map-append (λ (line : List ℕ). Wrote Output (ended line)) front (refused_message number named ∷ []))
    ∙ ap (λ (line : List ℕ). printed (front ++ line ∷ [])) same
    ∙ ap printed (sym lines) in
    then_prints o a b c (printed front) (ShowsStream stream) (refused_message number named ∷ []) 1 r (ShowsAll h.done end (record { rest = rest; messages = h.begins; ending = ends }) all (ap Some (sym one))) h.written told

-- it ends inside a message
pub shown_cut : {T P F K S L : Type 0} (o : Outside T P F K S L) (stream rest : List ℕ) (a b c : T) (number : ℕ) (r : Result ℕ WriteFault) (named : List ℕ) → HasShown o stream rest a b number → EndsSo rest Cut → named ≡ codes "Cut" → AddsSome o b c (Performs (Prints (refused_message number named ∷ []) 1) r)
    → AddsSome o a c (Performs (ShowsStream stream) r)
shown_cut o stream rest a b c number r named h ends is told = refused_so o stream rest a b c number r Cut (codes "Cut") named h ends is refl refl told

-- or at a fault
pub shown_fault : {T P F K S L : Type 0} (o : Outside T P F K S L) (stream rest : List ℕ) (a b c : T) (number : ℕ) (r : Result ℕ WriteFault) (fault : MessageFault) (named : List ℕ) → HasShown o stream rest a b number → EndsSo rest (AtFault fault) → named ≡ message_fault_name fault → AddsSome o b c (Performs (Prints (refused_message number named ∷ []) 1) r)
    → AddsSome o a c (Performs (ShowsStream stream) r)
shown_fault o stream rest a b c number r fault named h ends is told =
    refused_so o stream rest a b c number r (AtFault fault) (message_fault_name fault) named h ends is refl refl told

-- ---- the input

-- what is shown of the input, after it was read
pub shows_input : (input : InputFacts) (bytes : List ℕ) → IsInput input bytes → (events : List Event) (status : Option ℕ) → ShowsStream bytes events status → ShowsMessages input (InputRead (Ok bytes) ∷ events) status
shows_input input bytes is events status (ShowsAll ms end spells e s) = ShownAll bytes ms end is spells (ap (λ (l : List Event). InputRead (Ok bytes) ∷ l) e) s
shows_input input bytes is events status (ShowsFirst ms rest begins e s) = ShownFirst bytes ms rest is begins (ap (λ (l : List Event). InputRead (Ok bytes) ∷ l) e) s
