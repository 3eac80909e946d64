-- What is done for a game that is followed, one thing after another.
use Rattle.std.proofs.Common.{◌≡◌, ◌∙◌, sym, ap, subst, refl, ℕ, ◌+◌, ◌≤◌, ◌-◌, ◌^◌, Bool, true, false, List, [], ◌∷◌, ◌++◌, Option, Some, None}
use Rattle.std.specs.Prelude.{IfSome, Result, Ok, Err}
use Rattle.std.proofs.lemmas.Option.{same_Some}
use Rattle.board_core.specs.declared.verdict.Verdict.{Verdict}
use Rattle.line_events.proofs.LineLaws.{left_of}
use Rattle.answer_parts.proofs.PrintLaws.{Doing, Front, cut_behind, then_does, then_prints}
use Rattle.line_events.specs.LineEvents.{input_stops}
use Rattle.answer_parts.specs.Printing.{AtFlush, AtWrite, Performs, Prints}
use Rattle.line_teller.specs.ToldLines.{stops_by}
use Rattle.move_msg.specs.TextLines.{ended}
use Rattle.system_io.specs.Inputs.{InputFacts}
use Rattle.system_io.specs.LineReaders.{LineFacts, ReadsIfAny}
use Rattle.system_io.specs.declared.output.WriteFault.{WriteFault}
use Rattle.system_io.specs.declared.reading.ReadFault.{ReadFault}
use Rattle.system_io.specs.declared.reading.ReadFault.TheVariants as read
use Rattle.timeline.proofs.EventLaws.{adds_more}
use Rattle.timeline.specs.Events.{Event, Flushed, FromInput, IsWritten, LineRead, LinesOpened, Refused, Wrote, by_result, has_line_feed, line_event}
use Rattle.timeline.specs.Outsides.{Adds, AddsSome, FailsOrIsKnown, Outside}
use Rattle.timeline.specs.declared.stream.Stream.TheVariants.{Output}
use Rattle.game_teller.specs.declared.following.FollowState.{FollowState}
use Rattle.game_teller.specs.declared.following.FollowedGame.{FollowedGame}
use Rattle.game_teller.specs.declared.following.Step.{Step}
use Rattle.game_teller.specs.declared.following.Step.TheVariants as step
use Rattle.game_teller.specs.declared.lines.Stop.{Stop}
use Rattle.game_teller.specs.declared.lines.Stop.TheVariants as stop
use Rattle.game_teller.specs.Followings.{Follows, FollowsInput, LinesFollowed, NoLines, NotBegun, goes_out, stop_by}
use Rattle.game_teller.specs.Inside.Steps.{AtEnd, Begins, GoesOut, HasTurned, IsNoTurn, IsPrinted, IsStopped, PrintsPly, TakesTurn, Turned, TurnsRead, Unread}
use Rattle.game_teller.specs.Judges.{IsLater, JudgeFacts}
use Rattle.game_teller.specs.Plies.{stop_words}
use Rattle.game_teller.proofs.FollowLaws.{IsAtPly, at_start, goes, next_ply, status_by, stops_so, too_many, turn_upto, upto}

-- a ply that was printed is the next one
pub one_more : (was now : JudgeFacts) (old new : FollowState) (Stops : ReadFault → Type 0) (left rest : Option (List ℕ)) (events : List Event) (v : Option Verdict) → TakesTurn was now old new Stops left rest events (Some (step.Printed v)) → new.ply ≡ old.ply + 1
one_more was now old new Stops left rest events v (Turned line had_come then read (IsPrinted reading printing w turned prints e s) e') = turned.ply
one_more was now old new Stops left rest events v (Turned line had_come then read (IsStopped reading why bad e s) e') = absurd cc
one_more was now old new Stops left rest events v (AtEnd had_come end e s) = absurd cc
one_more was now old new Stops left rest events v (Unread fault had_come stops e s) = absurd cc

module _ {T P F K S L : Type 0} (o : Outside T P F K S L) where
  -- events, and then a front of others, where the output failed
  then_fails : {X Y : Type 0} (a b c : T) (first : List Event) (A : Doing X) (B : Doing Y) (f g : WriteFault) → ((events : List Event) (is : Option X) → A events is → (y : Option Y) × B (first ++ events) y)
      → Adds o a b first → AddsSome o b c (Performs A (Err f)) → AddsSome o a c (Performs B (Err g))
  then_fails a b c first A B f g more p q =
      let (all, is, done, cut) = q.2 in
      let so = more all is done in
      (first ++ q.0, adds_more o a b c first q.0 p q.1, (first ++ all, so.0, so.1, cut_behind first all q.0 cut))

  -- ---- a ply

  -- its line was written, and went out or not
  pub ply_out : (a b c : T) (words : List ℕ) (x : Unit {0}) (r : Result (Unit {0}) WriteFault) → AddsSome o a b (IsWritten {E = WriteFault} Output (ended words) (Ok x)) → Adds o b c (by_result r (λ _. Flushed Output) (Refused Output) ∷ []) → AddsSome o a c (Performs (GoesOut words) r)
  ply_out a b c words x (Ok y) p q = (p.0 ++ Flushed Output ∷ [], adds_more o a b c p.0 (Flushed Output ∷ []) p.1 q, ap (λ (e : List Event). e ++ Flushed Output ∷ []) p.2)
  ply_out a b c words x (Err f) p q = (
    p.0 ++ Refused Output ∷ [],
    adds_more o a b c p.0 (Refused Output ∷ []) p.1 q,
    (goes_out words, None, refl, AtFlush (Wrote Output (ended words) ∷ []) [] refl (ap (λ (e : List Event). e ++ Refused Output ∷ []) p.2)),
  )

  -- a front of it was written
  pub ply_cut : (a b : T) (words : List ℕ) (f : WriteFault) → AddsSome o a b (Front (ended words)) → AddsSome o a b (Performs (GoesOut words) (Err f))
  ply_cut a b words f p = (p.0, p.1, (goes_out words, None, refl, AtWrite [] (ended words) (Flushed Output ∷ []) refl p.2.0 p.2.1))

  -- where a game stands was printed
  pub standing_out : (a b : T) (at : FollowState) (words : List ℕ) (v : Option Verdict) (x : Unit {0}) → ((events : List Event) → events ≡ goes_out words → PrintsPly at events (Some v)) → AddsSome o a b (Performs (GoesOut words) (Ok x)) → AddsSome o a b (Performs (PrintsPly at) (Ok v))
  standing_out a b at words v x is p = (p.0, p.1, is p.0 p.2)

  pub standing_cut : (a b : T) (at : FollowState) (words : List ℕ) (v : Option Verdict) (f g : WriteFault) → ((events : List Event) → events ≡ goes_out words → PrintsPly at events (Some v)) → AddsSome o a b (Performs (GoesOut words) (Err f)) → AddsSome o a b (Performs (PrintsPly at) (Err g))
  standing_cut a b at words v f g is p = let (all, x, done, cut) = p.2 in (p.0, p.1, (all, Some v, is all done, cut))

  -- ---- a line that was read

  module _ (was now : JudgeFacts) (old : FollowState) (line : List ℕ) (new : FollowState) where
    is_printed : (reading printing : List Event) (is : Option (Option Verdict)) → HasTurned was now old line new reading → (p : PrintsPly new printing is) → TurnsRead was now old line new (reading ++ printing) (Some (step.Printed p.verdict))
    is_printed reading printing is turned p = IsPrinted reading printing p.verdict turned (record { verdict = p.verdict; stands = p.stands; made = p.made; is_it = refl }) refl refl

    pub turn_printed : (a b c : T) (v : Option Verdict) → AddsSome o a b (HasTurned was now old line new) → AddsSome o b c (Performs (PrintsPly new) (Ok v)) → AddsSome o a c (Performs (TurnsRead was now old line new) (Ok (step.Printed v)))
    turn_printed a b c v p q = (p.0 ++ q.0, adds_more o a b c p.0 q.0 p.1 q.1, IsPrinted p.0 q.0 v p.2 q.2 refl refl)

    pub turn_unprinted : (a b c : T) (f g : WriteFault) → AddsSome o a b (HasTurned was now old line new) → AddsSome o b c (Performs (PrintsPly new) (Err f)) → AddsSome o a c (Performs (TurnsRead was now old line new) (Err g))
    turn_unprinted a b c f g p q = then_fails a b c p.0 (PrintsPly new) (TurnsRead was now old line new) f g (λ all is done. (Some (step.Printed done.verdict), is_printed p.0 all is p.2 done)) p.1 q

    is_stopped : (why : Stop) (reading events : List Event) (status : Option ℕ) → IsNoTurn was now old line why reading → Prints (stop_words why ∷ []) 1 events status → TurnsRead was now old line new (reading ++ events) (Some step.Stopped)
    is_stopped why reading events status bad p = IsStopped reading why bad (ap (λ (e : List Event). reading ++ e) p.0) refl

    pub turn_stopped : (a b c : T) (why : Stop) (x : ℕ) → AddsSome o a b (IsNoTurn was now old line why) → AddsSome o b c (Performs (Prints (stop_words why ∷ []) 1) (Ok x)) → AddsSome o a c (Performs (TurnsRead was now old line new) (Ok step.Stopped))
    turn_stopped a b c why x p q = (p.0 ++ q.0, adds_more o a b c p.0 q.0 p.1 q.1, is_stopped why p.0 q.0 (Some x) p.2 q.2)

    pub turn_unstopped : (a b c : T) (why : Stop) (f g : WriteFault) → AddsSome o a b (IsNoTurn was now old line why) → AddsSome o b c (Performs {X = ℕ} (Prints (stop_words why ∷ []) 1) (Err f)) → AddsSome o a c (Performs (TurnsRead was now old line new) (Err g))
    turn_unstopped a b c why f g p q = then_fails a b c p.0 (Prints (stop_words why ∷ []) 1) (TurnsRead was now old line new) f g (λ all is done. (Some step.Stopped, is_stopped why p.0 all is p.2 done)) p.1 q

  -- ---- the next line

  module _ (was now : JudgeFacts) (old new : FollowState) (Stops : ReadFault → Type 0) (left rest : Option (List ℕ)) where
    pub next_read : (a b c : T) (line ahead : List ℕ) (is_line : Bool) (r : Result Step WriteFault) → is_line ≡ true → ReadsIfAny left rest line is_line → Adds o a b (line_event (Ok is_line) line ahead ∷ []) → AddsSome o b c (Performs (TurnsRead was now old line new) r) → AddsSome o a c (Performs (TakesTurn was now old new Stops left rest) r)
    next_read a b c line ahead true r is reads p q =
        then_does o a b c (LineRead (Ok (Some line)) (has_line_feed ahead) ∷ []) (TurnsRead was now old line new) (TakesTurn was now old new Stops left rest) r (λ events step h. Turned line (has_line_feed ahead) events reads h refl) p q
    next_read a b c line ahead false r is reads p q = absurd cc

    pub next_ended : (a b : T) (line ahead : List ℕ) (is_line : Bool) → is_line ≡ false → ReadsIfAny left rest line is_line → Adds o a b (line_event (Ok is_line) line ahead ∷ []) → AddsSome o a b (Performs (TakesTurn was now old new Stops left rest) (Ok step.Ended))
    next_ended a b line ahead true is reads p = absurd cc
    next_ended a b line ahead false is reads p = (LineRead (Ok None) (has_line_feed ahead) ∷ [], p, AtEnd (has_line_feed ahead) reads.0 refl refl)

    is_unread : (fault : ReadFault) (had_come : Bool) → Stops fault → (events : List Event) (status : Option ℕ) → Prints (stop_words (stop_by fault) ∷ []) 1 events status → TakesTurn was now old new Stops left rest (LineRead (Err fault) had_come ∷ events) (Some step.Stopped)
    is_unread fault had_come stops events status p = Unread fault had_come stops (ap (λ (e : List Event). LineRead (Err fault) had_come ∷ e) p.0) refl

    pub next_unread : (a b c : T) (fault : ReadFault) (had_come : Bool) (x : ℕ) → Stops fault → Adds o a b (LineRead (Err fault) had_come ∷ []) → AddsSome o b c (Performs (Prints (stop_words (stop_by fault) ∷ []) 1) (Ok x)) → AddsSome o a c (Performs (TakesTurn was now old new Stops left rest) (Ok step.Stopped))
    next_unread a b c fault had_come x stops p q = (LineRead (Err fault) had_come ∷ q.0, adds_more o a b c (LineRead (Err fault) had_come ∷ []) q.0 p q.1, is_unread fault had_come stops q.0 (Some x) q.2)

    pub next_cut : (a b c : T) (fault : ReadFault) (had_come : Bool) (f g : WriteFault) → Stops fault → Adds o a b (LineRead (Err fault) had_come ∷ []) → AddsSome o b c (Performs {X = ℕ} (Prints (stop_words (stop_by fault) ∷ []) 1) (Err f)) → AddsSome o a c (Performs (TakesTurn was now old new Stops left rest) (Err g))
    next_cut a b c fault had_come f g stops p q =
        then_fails a b c (LineRead (Err fault) had_come ∷ []) (Prints (stop_words (stop_by fault) ∷ []) 1) (TakesTurn was now old new Stops left rest) f g (λ all is done. (Some step.Stopped, is_unread fault had_come stops all is done)) p q

  -- ---- a game

  module _ (game : FollowedGame) (judge : JudgeFacts) (Stops : ReadFault → Type 0) (left : Option (List ℕ)) where
    -- it isn't begun
    pub not_begun : (now : JudgeFacts) (a b c : T) (why : Stop) (r : Result ℕ WriteFault) → AddsSome o a b (Begins judge now game (Err why)) → AddsSome o b c (Performs (Prints (stop_words why ∷ []) 1) r) → AddsSome o a c (Performs (Follows game judge Stops left) r)
    not_begun now a b c why r p q = then_prints o a b c p.0 (Follows game judge Stops left) (stop_words why ∷ []) 1 r (NotBegun why p.0 p.2 refl refl) p.1 q

    -- its start is printed
    module _ (now : JudgeFacts) (at : FollowState) (later : IsLater judge now) (a b c : T) (p : AddsSome o a b (Begins judge now game (Ok at))) where
      started : (events : List Event) (is : Option (Option Verdict)) (w : Option Verdict) → (h : PrintsPly at events is) → h.verdict ≡ w → IsAtPly game judge now left left at w (p.0 ++ events)
      started events is w h same = subst (λ (v : Option Verdict). IsAtPly game judge now left left at v (p.0 ++ events)) same (at_start game judge now at left p.0 events is later p.2 h)

      pub start_open : (v : Option Verdict) → v ≡ None → AddsSome o b c (Performs (PrintsPly at) (Ok v)) → AddsSome o a c (IsAtPly game judge now left left at None)
      start_open v none q = (p.0 ++ q.0, adds_more o a b c p.0 q.0 p.1 q.1, started q.0 (Some v) None q.2 (sym (same_Some v q.2.verdict q.2.is_it) ∙ none))

      pub start_ruled : (v : Option Verdict) (w : Verdict) → v ≡ Some w → AddsSome o b c (Performs (PrintsPly at) (Ok v)) → AddsSome o a c (Performs (Follows game judge Stops left) (Ok 0))
      start_ruled v w some q = (p.0 ++ q.0, adds_more o a b c p.0 q.0 p.1 q.1, upto game judge now Stops left left at (Some w) (p.0 ++ q.0) (started q.0 (Some v) (Some w) q.2 (sym (same_Some v q.2.verdict q.2.is_it) ∙ some)))

      pub start_cut : (f g : WriteFault) → AddsSome o b c (Performs (PrintsPly at) (Err f)) → AddsSome o a c (Performs (Follows game judge Stops left) (Err g))
      start_cut f g q = then_fails a b c p.0 (PrintsPly at) (Follows game judge Stops left) f g (λ all is done. (goes done.verdict, upto game judge now Stops left left at done.verdict (p.0 ++ all) (started all is done.verdict done refl))) p.1 q

    -- a further line
    module _ (was now : JudgeFacts) (Now : ReadFault → Type 0) (back : (fault : ReadFault) → Now fault → Stops fault) (rest next : Option (List ℕ)) (old new : FollowState) (first : IsLater judge was) (second : IsLater was now) (a b c : T) (p : AddsSome o a b (IsAtPly game judge was left rest old None)) where
      pub more_plies : (v : Option Verdict) → v ≡ None → AddsSome o b c (Performs (TakesTurn was now old new Now rest next) (Ok (step.Printed v))) → AddsSome o a c (IsAtPly game judge now left next new None)
      more_plies v none q = (
        p.0 ++ q.0,
        adds_more o a b c p.0 q.0 p.1 q.1,
        subst (λ (w : Option Verdict). IsAtPly game judge now left next new w (p.0 ++ q.0)) none (next_ply game judge was now Now Stops back left rest old p.0 first p.2 new next q.0 v second q.2),
      )

      ends : (events : List Event) (is : Option Step) → TakesTurn was now old new Now rest next events is → Follows game judge Stops left (p.0 ++ events) (status_by is)
      ends events is t = turn_upto game judge was now Now Stops back left rest old p.0 first p.2 new next events is second t

      pub ruled_at : (v : Option Verdict) (w : Verdict) → v ≡ Some w → AddsSome o b c (Performs (TakesTurn was now old new Now rest next) (Ok (step.Printed v))) → AddsSome o a c (Performs (Follows game judge Stops left) (Ok 0))
      ruled_at v w some q = (p.0 ++ q.0, adds_more o a b c p.0 q.0 p.1 q.1, subst (λ (x : Option Verdict). Follows game judge Stops left (p.0 ++ q.0) (goes x)) some (ends q.0 (Some (step.Printed v)) q.2))

      pub ended_at : AddsSome o b c (Performs (TakesTurn was now old new Now rest next) (Ok step.Ended)) → AddsSome o a c (Performs (Follows game judge Stops left) (Ok 0))
      ended_at q = (p.0 ++ q.0, adds_more o a b c p.0 q.0 p.1 q.1, ends q.0 (Some step.Ended) q.2)

      pub stopped_at : AddsSome o b c (Performs (TakesTurn was now old new Now rest next) (Ok step.Stopped)) → AddsSome o a c (Performs (Follows game judge Stops left) (Ok 1))
      stopped_at q = (p.0 ++ q.0, adds_more o a b c p.0 q.0 p.1 q.1, ends q.0 (Some step.Stopped) q.2)

      pub cut_at : (f g : WriteFault) → AddsSome o b c (Performs (TakesTurn was now old new Now rest next) (Err f)) → AddsSome o a c (Performs (Follows game judge Stops left) (Err g))
      cut_at f g q = then_fails a b c p.0 (TakesTurn was now old new Now rest next) (Follows game judge Stops left) f g (λ all is done. (status_by is, ends all is done)) p.1 q

    -- so many moves were read that no more are counted
    pub counts_none : (was : JudgeFacts) (rest : Option (List ℕ)) (old : FollowState) (first : IsLater judge was) (a b c : T) (r : Result ℕ WriteFault) → 2 ^ 64 - 1 ≤ old.ply → AddsSome o a b (IsAtPly game judge was left rest old None) → AddsSome o b c (Performs (Prints (stop_words stop.Unread ∷ []) 1) r)
        → AddsSome o a c (Performs (Follows game judge Stops left) r)
    counts_none was rest old first a b c r many p q =
        then_prints o a b c p.0 (Follows game judge Stops left) (stop_words stop.Unread ∷ []) 1 r (too_many game judge was was Stops Stops (λ fault h. h) left rest old p.0 first p.2 (subst (λ n. 2 ^ 64 - 1 ≤ n) (sym p.2.count) many)) p.1 q

  -- ---- the input

  module _ (game : FollowedGame) (judge : JudgeFacts) (input : InputFacts) where
    reads_so : (lines : LineFacts) → (lines.fails → input.fails) → (lines.takes_memory → input.takes_memory) → (fault : ReadFault) → stops_by lines fault → input_stops input fault
    reads_so lines cause room read.Unreadable h = cause h
    reads_so lines cause room read.OutOfMemory h = room h

    pub lines_followed : (lines : LineFacts) → IfSome lines.left input.gives → (input.is_told ≡ true → FailsOrIsKnown lines) → (lines.fails → input.fails) → (lines.takes_memory → input.takes_memory)
        → (a b c : T) (r : Result ℕ WriteFault) → Adds o a b (LinesOpened FromInput true ∷ []) → AddsSome o b c (Performs (Follows game judge (stops_by lines) lines.left) r) → AddsSome o a c (Performs (FollowsInput game judge input) r)
    lines_followed lines given known cause room a b c r p q =
        then_does o a b c (LinesOpened FromInput true ∷ []) (Follows game judge (stops_by lines) lines.left) (FollowsInput game judge input) r (λ events status h. LinesFollowed lines.left events (left_of o input lines given known cause) (stops_so game judge (stops_by lines) (input_stops input) (reads_so lines cause room) lines.left events status h) refl) p q

    pub no_lines : (a b c : T) (r : Result ℕ WriteFault) → input.takes_memory → Adds o a b (LinesOpened FromInput false ∷ []) → AddsSome o b c (Performs (Prints (stop_words stop.OutOfMemory ∷ []) 1) r) → AddsSome o a c (Performs (FollowsInput game judge input) r)
    no_lines a b c r takes p q = then_prints o a b c (LinesOpened FromInput false ∷ []) (FollowsInput game judge input) (stop_words stop.OutOfMemory ∷ []) 1 r (NoLines takes refl refl) p q
