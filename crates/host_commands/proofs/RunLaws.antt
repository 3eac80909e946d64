-- A run of a server, as it ends or as the output fails in it.
use Rattle.std.proofs.Common.{◌≡◌, ◌∙◌, ℕ, Bool, true, false, ◌++◌, List, [], ◌∷◌, Option, Some, None, append_assoc, ap, refl, subst, sym}
use Rattle.std.proofs.lemmas.List.Concat.{flat_map-append}
use Rattle.std.specs.List.{AllByRecursion}
use Rattle.std.specs.Prelude.{Result, Ok, Err, IsOk, ◌<◌, ◌-◌}
use Rattle.answer_parts.proofs.PrintLaws.{cut_behind}
use Rattle.answer_parts.specs.Printing.{AtFlush, AtWrite, IsCutIn, Performs}
use Rattle.arbiter_server.specs.Told.{line_words}
use Rattle.arbiter_server.specs.declared.line.Line.{Line}
use Rattle.arbiter_server.specs.declared.line_log.LogForm.TheVariants.{Nothing}
use Rattle.game_folder.specs.Holdings.{GamesFacts}
use Rattle.game_server.specs.Printing.{LineForm, LinesCut, OfGames, TextEnd, WasCut, WasStuck, WentOut, WritesLines, after_lines, is_out, lines_out, text_events, text_out, written_text}
use Rattle.game_server.specs.Runs.{AreWithin, GoesOnAfter, InTurns, IsTurn, RunEnds, Serves, Turn, came, came_in, deed_events, deed_lines, ends_run, run_events, turn_events, with_last}
use Rattle.game_server.specs.declared.server.Server.{Server}
use Rattle.move_msg.specs.TextLines.{ended}
use Rattle.system_io.specs.declared.output.WriteFault.{WriteFault}
use Rattle.system_io.specs.declared.recipient.Recipient.{Recipient}
use Rattle.timeline.specs.Events.{Event, Flushed, Wrote}
use Rattle.timeline.specs.Outsides.{Adds, AddsSome, Outside}
use Rattle.timeline.specs.declared.stream.Stream.TheVariants.{Output}
use Rattle.host_commands.specs.ServerRuns.{AnswersAll, LosesLine}

-- ---- lines of which one was lost

-- with more behind
cut_on : (all more events : List Event) → IsCutIn all events → IsCutIn (all ++ more) events
cut_on all more events (AtWrite before bytes after wanted count written) = AtWrite before bytes (after ++ more) (ap (λ (l : List Event). l ++ more) wanted ∙ append_assoc before (Wrote Output bytes ∷ after) more) count written
cut_on all more events (AtFlush before after wanted left) = AtFlush before (after ++ more) (ap (λ (l : List Event). l ++ more) wanted ∙ append_assoc before (Flushed Output ∷ after) more) left

-- a text that was lost
text_cut : (text : List ℕ) (end : TextEnd) → is_out end ≡ false → IsCutIn (text_events text WentOut) (text_events text end)
text_cut text WentOut wrong = absurd (let f : true ≡ false = wrong in cc)
text_cut text (WasCut count) lost = AtWrite [] text (Flushed Output ∷ []) refl count refl
text_cut text WasStuck lost = AtFlush (Wrote Output text ∷ []) [] refl refl

-- lines, and one more before others
lines_parted : (form : LineForm) (before : List (List ℕ)) (first : List Line) (at : Line) (rest : List Line)
    → (more : List Event) × (lines_out form before (first ++ at ∷ rest) ≡ (lines_out form before first ++ text_out (written_text form (after_lines before first) at)) ++ more)
lines_parted form before [] at rest = (lines_out form (ended (line_words at) ∷ before) rest, refl)
lines_parted form before (l ∷ first) at rest =
    let next = lines_parted form (ended (line_words l) ∷ before) first at rest in
    let mine : List Event = text_out (written_text form before l) in
    let others : List Event = lines_out form (ended (line_words l) ∷ before) first in
    let last : List Event = text_out (written_text form (after_lines (ended (line_words l) ∷ before) first) at) in (
      next.0,
      ap (λ (e : List Event). mine ++ e) next.1 ∙ sym (append_assoc mine (others ++ last) next.0) ∙ ap (λ (e : List Event). e ++ next.0) (sym (append_assoc mine others last)),
    )

lines_cut : (form : LineForm) (before : List (List ℕ)) (all : List Line) (events : List Event) → LinesCut form before all events → IsCutIn (lines_out form before all) events
lines_cut form before all events c =
    let parted = lines_parted form before c.first c.at c.rest in
    let out : List Event = lines_out form before c.first in
    let cut : IsCutIn (out ++ text_events c.text WentOut) (out ++ text_events c.text c.end) = cut_behind out (text_events c.text WentOut) (text_events c.text c.end) (text_cut c.text c.end c.failed) in
    let whole : lines_out form before all ≡ (out ++ text_events c.text WentOut) ++ parted.0 =
    ap (λ (ls : List Line). lines_out form before ls) c.are ∙ parted.1 ∙ ap (λ (t : Option (List ℕ)). (out ++ text_out t) ++ parted.0) c.its in
    subst (λ (e : List Event). IsCutIn e events) (sym whole) (subst (λ (e : List Event). IsCutIn ((out ++ text_events c.text WentOut) ++ parted.0) e) (sym c.events_are) (cut_on (out ++ text_events c.text WentOut) parted.0 (out ++ text_events c.text c.end) cut))

all_push : (turns : List Turn) (t : Turn) → AllByRecursion GoesOnAfter turns → GoesOnAfter t → AllByRecursion GoesOnAfter (turns ++ t ∷ [])
all_push [] t going last = (last, tt)
all_push (x ∷ turns) t going last = (going.0, all_push turns t going.1 last)

run_pushed : (to : List Recipient) (turns : List Turn) (t : Turn) → run_events to (turns ++ t ∷ []) ≡ (run_events to turns ++ deed_events to t.deed) ++ (t.lines ++ [])
run_pushed to turns t =
    flat_map-append (turn_events to) turns (t ∷ []) ∙ ap (λ (e : List Event). run_events to turns ++ e) (append_assoc (deed_events to t.deed) t.lines []) ∙ sym (append_assoc (run_events to turns) (deed_events to t.deed) (t.lines ++ []))

no_more : (e : List Event) → e ++ [] ≡ e
no_more [] = refl
no_more (x ∷ e) = ap (λ (l : List Event). x ∷ l) (no_more e)

-- the same turn, with all its lines
abbrev with_lines : LineForm → List (List ℕ) → Turn → Turn
with_lines form before t = record { deed = t.deed; lines = lines_out form before (deed_lines t.deed); is_out = true }

-- how many datagrams a turn takes doesn't depend on its lines
within_with : (most left : ℕ) (turns : List Turn) (form : LineForm) (before : List (List ℕ)) (t : Turn) → AreWithin most left (turns ++ t ∷ []) → AreWithin most left (turns ++ with_lines form before t ∷ [])
unfolding AreWithin
within_with most left [] form before t within = within
within_with most left (x ∷ turns) form before t within = (within.0, within_with most (left - came_in x.deed) turns form before t within.1)

-- of a log of no lines none is lost
none_lost : (before : List (List ℕ)) (lines : List Line) (events : List Event) → LinesCut (OfGames Nothing) before lines events → ⊥
none_lost before lines events c = absurd (let e : None ≡ Some c.text = c.its in cc)

module _ {T P F K S L G : Type 0} (o : Outside T P F K S L) (facts : GamesFacts G) (form : LineForm) where
  -- the last of some turns: after which texts it comes, and that another one may take its place
  pub record LastTurn (before : List (List ℕ)) (old : Server G F) (turns : List Turn) (t : Turn) (new : Server G F) : Type 0 where
    mid : Server G F
    texts : List (List ℕ)
    is : IsTurn o facts form texts mid t new
    other : (x : Turn) → IsTurn o facts form texts mid x new → InTurns o facts form before old (turns ++ x ∷ []) new

  last_turn : (before : List (List ℕ)) (old : Server G F) (turns : List Turn) (t : Turn) (new : Server G F) → InTurns o facts form before old (turns ++ t ∷ []) new → LastTurn before old turns t new
  unfolding InTurns
  last_turn before old [] t new p = record {
    mid = old;
    texts = before;
    is = subst (λ (s : Server G F). IsTurn o facts form before old t s) (sym p.2) p.1;
    other = λ x is. (new, is, refl);
  }
  last_turn before old (y ∷ turns) t new p =
      let next = last_turn (after_lines before (deed_lines y.deed)) p.0 turns t new p.2 in
      record { mid = next.mid; texts = next.texts; is = next.is; other = λ x is. (p.0, p.1, next.other x is) }

  module _ (most n : ℕ) (to : List Recipient) (old : Server G F) where
    abbrev IsFront : List Event → Type 0
    IsFront events = (all : List Event) × (status : Option ℕ) × AnswersAll o facts most n to form old all status × IsCutIn all events

    -- the last turn may end the run, or more may come
    in_whole : (new : Server G F) (turns : List Turn) (whole : Turn) (b : Bool) → ends_run whole.deed ≡ b → whole.is_out ≡ true → AllByRecursion GoesOnAfter turns → came turns < n → InTurns o facts form [] old (turns ++ whole ∷ []) new
        → AreWithin most n (turns ++ whole ∷ []) → (events : List Event) → IsCutIn (run_events to (turns ++ whole ∷ [])) events → IsFront events
    in_whole new turns whole true ends out going few in_turn within events cut = (
      run_events to (turns ++ whole ∷ []),
      Some 1,
      record { turns = turns; last = Some whole; new = new; going = going; in_turn = in_turn; within = within; ends = (few, (ends, out, refl)); all = refl },
      cut,
    )
    in_whole new turns whole false ends out going few in_turn within events cut = (
      run_events to (turns ++ whole ∷ []),
      None,
      record { turns = turns ++ whole ∷ []; last = None; new = new; going = all_push turns whole going (ends, out); in_turn = in_turn; within = within; ends = refl; all = refl },
      cut,
    )

    -- the lines of the last turn, of which one was lost
    last_lines : (new : Server G F) (events : List Event) (l : LosesLine o facts most n to form old new events) → (texts : List (List ℕ)) → WritesLines form texts (deed_lines l.last.deed) l.last.is_out l.last.lines → LinesCut form texts (deed_lines l.last.deed) l.last.lines
    last_lines new events l texts lines = subst (λ (b : Bool). WritesLines form texts (deed_lines l.last.deed) b l.last.lines) l.lost lines

    -- a run in which a line was lost is a front of one
    pub lost_cut : (new : Server G F) (events : List Event) → LosesLine o facts most n to form old new events → IsFront events
    lost_cut new events l =
        let last = last_turn [] old l.turns l.last new l.in_turn in
        let whole = with_lines form last.texts l.last in
        let is : IsTurn o facts form last.texts last.mid whole new = record { deed = last.is.deed; lines = refl } in
        let lines : LinesCut form last.texts (deed_lines l.last.deed) l.last.lines = last_lines new events l last.texts last.is.lines in
        let front : List Event = run_events to l.turns ++ deed_events to l.last.deed in
        let one : IsCutIn whole.lines l.last.lines = lines_cut form last.texts (deed_lines l.last.deed) l.last.lines lines in
        let both : IsCutIn (front ++ (whole.lines ++ [])) (front ++ l.last.lines) = cut_behind front (whole.lines ++ []) l.last.lines (cut_on whole.lines [] l.last.lines one) in
        let events_are : events ≡ front ++ l.last.lines = l.all ∙ run_pushed to l.turns l.last ∙ ap (λ (e : List Event). front ++ e) (no_more l.last.lines) in
        let at_whole : IsCutIn (run_events to (l.turns ++ whole ∷ [])) (front ++ l.last.lines) = subst (λ (e : List Event). IsCutIn e (front ++ l.last.lines)) (sym (run_pushed to l.turns whole)) both in
        in_whole new l.turns whole (ends_run whole.deed) refl refl l.going l.few (last.other whole is) (within_with most n l.turns form last.texts l.last l.within) events
        (subst (λ (e : List Event). IsCutIn (run_events to (l.turns ++ whole ∷ [])) e) (sym events_are) at_whole)

    -- a run that the output ended lost a line
    pub run_lost : (new : Server G F) (a b : T) (fault : WriteFault) → Serves o facts most form [] n to old new a b (Err fault) → AddsSome o a b (LosesLine o facts most n to form old new)
    run_lost new a b fault s = by_last s.last s.in_turn s.within s.ends s.happens
      where
        by_last : (last : Option Turn) → InTurns o facts form [] old (with_last s.turns last) new → AreWithin most n (with_last s.turns last) → RunEnds n (came s.turns) last (Err fault) → Adds o a b (run_events to (with_last s.turns last))
            → AddsSome o a b (LosesLine o facts most n to form old new)
        by_last None in_turn within ends made = absurd (let wrong = ends.1 in cc)
        by_last (Some t) in_turn within ends made = (run_events to (s.turns ++ t ∷ []), made, record { turns = s.turns; last = t; going = s.going; in_turn = in_turn; within = within; few = ends.0; lost = ends.1; all = refl })

    pub lost_performs : (new : Server G F) (a b : T) (fault : WriteFault) → AddsSome o a b (LosesLine o facts most n to form old new) → AddsSome o a b (Performs (AnswersAll o facts most n to form old) (Err fault))
    lost_performs new a b fault p = (p.0, p.1, lost_cut new p.0 p.2)

    pub run_performs : (new : Server G F) (a b : T) (r : Result ℕ WriteFault) → Serves o facts most form [] n to old new a b r → AddsSome o a b (Performs (AnswersAll o facts most n to form old) r)
    run_performs new a b (Ok status) s = (run_events to (with_last s.turns s.last), s.happens, record { turns = s.turns; last = s.last; new = new; going = s.going; in_turn = s.in_turn; within = s.within; ends = s.ends; all = refl })
    run_performs new a b (Err fault) s = lost_performs new a b fault (run_lost new a b fault s)

-- a run without lines isn't ended by the output
pub unlogged_ends : {T P F K S L G : Type 0} (o : Outside T P F K S L) (facts : GamesFacts G) (most n : ℕ) (to : List Recipient) (old new : Server G F) (a b : T) (r : Result ℕ WriteFault) → Serves o facts most (OfGames Nothing) [] n to old new a b r → IsOk r
unlogged_ends o facts most n to old new a b (Ok status) s = refl
unlogged_ends o facts most n to old new a b (Err fault) s =
    let lost = run_lost o facts (OfGames Nothing) most n to old new a b fault s in
    let l = lost.2 in
    let last = last_turn o facts (OfGames Nothing) [] old l.turns l.last new l.in_turn in
    absurd (none_lost last.texts (deed_lines l.last.deed) l.last.lines (last_lines o facts (OfGames Nothing) most n to old new lost.0 l last.texts last.is.lines))
