-- What `send` does, one thing after another.
use Rattle.std.proofs.Common.{◌≡◌, ◌∙◌, ◌∷◌, ◌++◌, [], ℕ, List, Option, Some, None, ap, append_assoc, inl, inr, refl, subst, sym}
use Rattle.std.specs.Prelude.{Result, Ok, Err, true, false}
use Rattle.answer_commands.specs.Inside.Sending.{IsCut, IsOut, IsStuck, WritesSecond}
use Rattle.answer_commands.specs.SentGames.{ReadsSent}
use Rattle.answer_commands.specs.Sending.{AreOfInput, AreTerms, BothOut, BothStuck, FirstCut, NoGame, NoRoomForLines, OfGame, Ran, RunsAt, RunsOn, SecondCut, SendsAt, SendsFrom, SendsInput, TellsSilent, WritesSilence, silence_a, silence_b}
use Rattle.answer_commands.specs.declared.sent_game.GameSent.{GameSent}
use Rattle.answer_parts.proofs.PrintLaws.{cut_behind, then_does, then_prints}
use Rattle.answer_parts.specs.Printing.{AtFlush, AtWrite, IsCutIn, Performs, Prints}
use Rattle.command_line.specs.declared.commands.send.Send.{Send}
use Rattle.line_teller.specs.ToldLines.{refused_memory}
use Rattle.board_core.specs.declared.parts.Parts.{Parts}
use Rattle.move_msg.specs.TextLines.{ended}
use Rattle.source_core.proofs.CutLaws.{IsLostBehind, game_lost}
use Rattle.source_core.specs.Lines.{ended_status}
use Rattle.source_core.specs.Runs.{LineGoesOut, SendsGame, SendsOn, SourceTerms, gone_out}
use Rattle.source_core.specs.declared.known.Known.{Known}
use Rattle.source_core.specs.declared.lines.Ended.{Ended}
use Rattle.source_core.specs.declared.lines.Ended.TheVariants as run
use Rattle.source_core.specs.declared.turn.SendConfig.{SendConfig}
use Rattle.system_io.specs.declared.output.WriteFault.{WriteFault}
use Rattle.system_io.specs.declared.reading.ReadFault.{ReadFault}
use Rattle.timeline.proofs.EventLaws.{adds_more}
use Rattle.timeline.specs.Events.{Event, Flushed, FromInput, IsWritten, LinesOpened, Refused, Wrote, by_result}
use Rattle.timeline.specs.Outsides.{Adds, AddsSome, Outside}
use Rattle.timeline.specs.declared.stream.Stream.TheVariants.{Errors, Output}

-- ---- who was silent

pub second_out : {T P F K S L : Type 0} (o : Outside T P F K S L) (a b c : T) (known : Known) (r : Result (Unit {0}) WriteFault) → Adds o a b (Wrote Errors (silence_b known) ∷ []) → Adds o b c (by_result r (λ _. Flushed Errors) (Refused Errors) ∷ []) → AddsSome o a c (WritesSecond known)
second_out o a b c known (Ok done) p q = (Wrote Errors (silence_b known) ∷ Flushed Errors ∷ [], adds_more o a b c (Wrote Errors (silence_b known) ∷ []) (Flushed Errors ∷ []) p q, IsOut refl)
second_out o a b c known (Err fault) p q = (Wrote Errors (silence_b known) ∷ Refused Errors ∷ [], adds_more o a b c (Wrote Errors (silence_b known) ∷ []) (Refused Errors ∷ []) p q, IsStuck refl)

-- a line that a write took whole, or a front of it
pub line_whole : {T P F K S L : Type 0} (o : Outside T P F K S L) (a b : T) (bytes : List ℕ) → AddsSome o a b (IsWritten {A = Unit {0}} {E = WriteFault} Errors bytes (Ok tt)) → Adds o a b (Wrote Errors bytes ∷ [])
line_whole o a b bytes p = subst (Adds o a b) p.2 p.1

pub second_cut : {T P F K S L : Type 0} (o : Outside T P F K S L) (a b : T) (known : Known) (fault : WriteFault) → AddsSome o a b (IsWritten {A = Unit {0}} Errors (silence_b known) (Err fault)) → AddsSome o a b (WritesSecond known)
second_cut o a b known fault p = (p.0, p.1, IsCut p.2.0 p.2.1)

pub first_cut : {T P F K S L : Type 0} (o : Outside T P F K S L) (a b : T) (known : Known) (fault : WriteFault) → AddsSome o a b (IsWritten {A = Unit {0}} Errors (silence_a known) (Err fault)) → AddsSome o a b (WritesSilence known)
first_cut o a b known fault p = (p.0, p.1, FirstCut p.2.0 p.2.1)

-- the first line was written, and then the second
pub both_written : {T P F K S L : Type 0} (o : Outside T P F K S L) (a b c : T) (known : Known) → Adds o a b (Wrote Errors (silence_a known) ∷ []) → AddsSome o b c (WritesSecond known) → AddsSome o a c (WritesSilence known)
both_written o a b c known p q = (Wrote Errors (silence_a known) ∷ [] ++ q.0, adds_more o a b c (Wrote Errors (silence_a known) ∷ []) q.0 p q.1, by_second q.0 q.2)
  where
    behind : List Event → List Event
    behind events = Wrote Errors (silence_a known) ∷ events

    by_second : (events : List Event) → WritesSecond known events → WritesSilence known (Wrote Errors (silence_a known) ∷ [] ++ events)
    by_second events (IsOut is) = BothOut (ap behind is)
    by_second events (IsStuck is) = BothStuck (ap behind is)
    by_second events (IsCut count is) = SecondCut count (ap behind is)

-- ---- at a port

-- of more events it is a front too
cut_on : (all more events : List Event) → IsCutIn all events → IsCutIn (all ++ more) events
cut_on all more events (AtWrite before bytes after wanted count written) = AtWrite before bytes (after ++ more) (ap (λ (l : List Event). l ++ more) wanted ∙ append_assoc before (Wrote Output bytes ∷ after) more) count written
cut_on all more events (AtFlush before after wanted left) = AtFlush before (after ++ more) (ap (λ (l : List Event). l ++ more) wanted ∙ append_assoc before (Flushed Output ∷ after) more) left

-- what would be said then
silence_of : (done : Ended) → (events : List Event) × TellsSilent done events
silence_of (run.With status) = ([], refl)
silence_of (run.Lost known) = (Wrote Errors (silence_a known) ∷ Wrote Errors (silence_b known) ∷ Flushed Errors ∷ [], BothOut refl)

-- a run of a source, as it is done or cut
pub run_performs : {T P F K S L : Type 0} (o : Outside T P F K S L) (a b : T) (cause : ReadFault → Type 0) (g : SourceTerms) (start : Parts) (input : Option (List ℕ)) (r : Result Ended WriteFault) → AddsSome o a b (SendsGame cause g start input r) → AddsSome o a b (Performs (SendsOn cause g start input) r)
run_performs o a b cause g start input (Ok done) q = q
run_performs o a b cause g start input (Err fault) q = (q.0, q.1, by_line (game_lost cause g start input fault q.0 q.2))
  where
    cut_at_line : (before : List Event) (words : List ℕ) (out : List Event) → LineGoesOut {X = Ended} words (Err fault) out → q.0 ≡ before ++ out → IsCutIn (before ++ gone_out words) q.0
    cut_at_line before words out (inl h) is = AtWrite before (ended words) (Flushed Output ∷ []) refl h.0 (is ∙ ap (λ (l : List Event). before ++ l) h.1)
    cut_at_line before words out (inr h) is =
        AtFlush (before ++ Wrote Output (ended words) ∷ []) [] (sym (append_assoc before (Wrote Output (ended words) ∷ []) (Flushed Output ∷ []))) (is ∙ ap (λ (l : List Event). before ++ l) h ∙ sym (append_assoc before (Wrote Output (ended words) ∷ []) (Refused Output ∷ [])))

    by_line : IsLostBehind (SendsOn cause g start input) fault q.0 → Performs (SendsOn cause g start input) (Err fault) q.0
    by_line l = (l.before ++ gone_out l.words, l.is, l.does, cut_at_line l.before l.words l.out l.lost l.all)

-- the run ended, and then it was said who was silent
pub ran_at : {T P F K S L : Type 0} (o : Outside T P F K S L) (a b c d : T) (t : Send) (game : GameSent) (port : P) (lines : L) (terms : SendConfig) (done : Ended) (status : ℕ) → AreOfInput o lines → AreTerms t game.stamp terms
    → Adds o a b (LinesOpened FromInput true ∷ []) → AddsSome o b c (λ events. RunsAt o terms game port lines events (Some done)) → AddsSome o c d (TellsSilent done) → status ≡ ended_status done → AddsSome o a d (Performs (SendsAt o t game port) (Ok status))
ran_at o a b c d t game port lines terms done status input on p q r is = (
  LinesOpened FromInput true ∷ q.0 ++ r.0,
  adds_more o a b d (LinesOpened FromInput true ∷ []) (q.0 ++ r.0) p (adds_more o b c d q.0 r.0 q.1 r.1),
  Ran lines input terms on done q.0 r.0 q.2 r.2 refl (ap Some is),
)

-- the output failed on the way
pub cut_at : {T P F K S L : Type 0} (o : Outside T P F K S L) (a b c : T) (t : Send) (game : GameSent) (port : P) (lines : L) (terms : SendConfig) (fault : WriteFault) → AreOfInput o lines → AreTerms t game.stamp terms
    → Adds o a b (LinesOpened FromInput true ∷ []) → AddsSome o b c (Performs (RunsAt o terms game port lines) (Err fault)) → AddsSome o a c (Performs (SendsAt o t game port) (Err fault))
cut_at o a b c t game port lines terms fault input on p q = (
  LinesOpened FromInput true ∷ [] ++ q.0,
  adds_more o a b c (LinesOpened FromInput true ∷ []) q.0 p q.1,
  by_end q.2.0 q.2.1 q.2.2 (cut_behind (LinesOpened FromInput true ∷ []) q.2.0 q.0 q.2.3),
)
  where
    by_end : (all : List Event) (is : Option Ended) → RunsAt o terms game port lines all is → IsCutIn (LinesOpened FromInput true ∷ [] ++ all) (LinesOpened FromInput true ∷ [] ++ q.0)
        → (whole : List Event) × (status : Option ℕ) × SendsAt o t game port whole status × IsCutIn whole (LinesOpened FromInput true ∷ [] ++ q.0)
    by_end all None run cut = (LinesOpened FromInput true ∷ all, None, RunsOn lines input terms on all run refl refl, cut)
    by_end all (Some done) run cut =
        let s = silence_of done in
        (LinesOpened FromInput true ∷ all ++ s.0, Some (ended_status done), Ran lines input terms on done all s.0 run s.1 refl refl, cut_on (LinesOpened FromInput true ∷ all) s.0 _ cut)

-- memory for its lines was refused
pub no_lines : {T P F K S L : Type 0} (o : Outside T P F K S L) (a b c : T) (t : Send) (game : GameSent) (port : P) (r : Result ℕ WriteFault) → o.input.takes_memory → Adds o a b (LinesOpened FromInput false ∷ []) → AddsSome o b c (Performs (Prints (refused_memory ∷ []) 1) r) → AddsSome o a c (Performs (SendsAt o t game port) r)
no_lines o a b c t game port r memory p q = then_prints o a b c (LinesOpened FromInput false ∷ []) (SendsAt o t game port) (refused_memory ∷ []) 1 r (NoRoomForLines memory refl refl) p q

-- ---- all of it

pub sends_game : {T P F K S L : Type 0} (o : Outside T P F K S L) (a b c : T) (t : Send) (game : GameSent) (r : Result ℕ WriteFault) → AddsSome o a b (ReadsSent o.disk t t.game (Ok game)) → AddsSome o b c (Performs (SendsFrom o t game) r) → AddsSome o a c (Performs (SendsInput o t) r)
sends_game o a b c t game r p q = then_does o a b c p.0 (SendsFrom o t game) (SendsInput o t) r (λ (events : List Event) (status : Option ℕ) (h : SendsFrom o t game events status). OfGame game p.0 events p.2 h refl) p.1 q

pub sends_none : {T P F K S L : Type 0} (o : Outside T P F K S L) (a b c : T) (t : Send) (words : List ℕ) (r : Result ℕ WriteFault) → AddsSome o a b (ReadsSent o.disk t t.game (Err words)) → AddsSome o b c (Performs (Prints (words ∷ []) 1) r) → AddsSome o a c (Performs (SendsInput o t) r)
sends_none o a b c t words r p q = then_prints o a b c p.0 (SendsInput o t) (words ∷ []) 1 r (NoGame words p.0 p.2 refl refl) p.1 q
