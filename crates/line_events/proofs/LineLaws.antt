-- Lines of the input that are answered as they come, as events.
use Rattle.std.proofs.Common.{◌≡◌, ◌∙◌, ◌+◌, ◌-◌, ◌^◌, ◌%◌, ◌≤◌, ◌⊎◌, ◌++◌, ◌∷◌, [], ℕ, Bool, true, false, List, Option, Some, None, IfSome, ap, append_assoc, append-nil, arith, inl, inr, length, length-append, refl, subst, sym}
use Rattle.std.proofs.lemmas.List.{map-append}
use Rattle.std.specs.List.{Contains}
use Rattle.std.specs.Prelude.{◌&&◌, ◌↔◌, IsSome, IsTrue, Result, Ok, Err}
use Rattle.line_teller.proofs.TellLaws.{are_read_more, read_front}
use Rattle.line_teller.specs.ToldLines.{AreRead, cut_words, done_words, refused_files, refused_memory, stops_by}
use Rattle.line_teller.specs.declared.told_lines.TellFault.TheVariants as tell
use Rattle.move_msg.specs.TextLines.{ended, lines_in}
use Rattle.system_io.specs.Inputs.{InputFacts}
use Rattle.system_io.specs.LineReaders.{LineFacts, ReadsIfAny, ReadsLine}
use Rattle.system_io.specs.declared.output.WriteFault.{WriteFault}
use Rattle.system_io.specs.declared.reading.ReadFault.{ReadFault}
use Rattle.system_io.specs.declared.reading.ReadFault.TheVariants as read
use Rattle.timeline.proofs.EventLaws.{adds_more, adds_none}
use Rattle.timeline.specs.Events.{Event, Flushed, FromInput, LineRead, LinesOpened, Refused, by_result, has_line_feed, line_event}
use Rattle.timeline.specs.Outsides.{Adds, AddsSome, FailsOrIsKnown, Outside}
use Rattle.timeline.specs.declared.stream.Stream.TheVariants.{Output}
use Rattle.line_events.specs.Inside.Lines.{AnswersRead, GoesOut, IsRefused, IsTold}
use Rattle.task_files.specs.TableLooks.{SaysProgress}
use Rattle.line_events.specs.LineEvents.{Answered, Answering, AnswersInput, AnswersLine, AnswersLines, AnswersNoMore, AreLinesOf, AreTold, AtEnd, Due, IsLeftOf, LinesAnswered, MayTellProgress, NoLines, NoRoom, TakesTurn, TooMany, Turn, Unread, UpTo, Waits, are_done, asks, before_line, done_by, input_stops, known_after, lines_told, told_status, turn_events, written}
use Rattle.answer_parts.specs.Printing.{AtFlush, AtWrite, IsCutIn, Performs, Prints}
use Rattle.answer_parts.specs.Reply.{status_if}
use Rattle.line_events.specs.declared.lines.Step.{Step}
use Rattle.line_events.specs.declared.lines.Step.TheVariants as step
use Rattle.line_events.proofs.FeedLaws.{feed_is}
use Rattle.answer_parts.proofs.PrintLaws.{cut_behind, then_does, then_prints}

-- ---- one line

-- whatever was answered later
pub turn_so : {K : Type 0} (before after : Answering K) (k next : K) (Now Stops : ReadFault → Type 0) (left now : Option (List ℕ)) (events : List Event) (is : Option Step) → AnswersNoMore before after → ((fault : ReadFault) → Now fault → Stops fault)
    → TakesTurn after k next Now left now events is → TakesTurn before k next Stops left now events is
turn_so before after k next Now Stops left now events is same back (Answered t reads tells known e s) = Answered t reads (same.tells k t.after t.line t.told t.reading tells) known e s
turn_so before after k next Now Stops left now events is same back (NoRoom line had_come reading reads takes e s) = NoRoom line had_come reading reads (same.memory k line reading takes) e s
turn_so before after k next Now Stops left now events is same back (AtEnd had_come end e s) = AtEnd had_come end e s
turn_so before after k next Now Stops left now events is same back (Unread fault had_come stops e s) = Unread fault had_come (back fault stops) e s
turn_so before after k next Now Stops left now events is same back (Waits e s) = Waits e s

-- a line that was told
pub record IsTurn {K : Type 0} (a : Answering K) (k next : K) (left now : Option (List ℕ)) (events : List Event) (done : Bool) : Type 0 where
  pub turn : Turn K
  pub reads : ReadsLine left now turn.line
  pub tells : a.Tells k turn.after turn.line turn.told turn.reading
  pub known : turn.after ≡ next
  pub is : events ≡ turn_events turn
  pub done_is : done ≡ turn.told.done

pub turn_told : {K : Type 0} (a : Answering K) (k next : K) (Stops : ReadFault → Type 0) (left now : Option (List ℕ)) (events : List Event) (done : Bool) → TakesTurn a k next Stops left now events (Some (step.Told done)) → IsTurn a k next left now events done
turn_told a k next Stops left now events done (Answered t reads tells known e s) = record { turn = t; reads = reads; tells = tells; known = known; is = e; done_is = cc }
turn_told a k next Stops left now events done (NoRoom line had_come reading reads takes e s) = absurd cc
turn_told a k next Stops left now events done (AtEnd had_come end e s) = absurd cc
turn_told a k next Stops left now events done (Unread fault had_come stops e s) = absurd cc
turn_told a k next Stops left now events done (Waits e s) = absurd cc

-- what was written went out, or didn't
nothing_cut : {X : Type 0} (events : List Event) → IsCutIn [] events → X
nothing_cut events (AtWrite [] bytes after wanted count written) = absurd cc
nothing_cut events (AtWrite (e ∷ before) bytes after wanted count written) = absurd cc
nothing_cut events (AtFlush [] after wanted left) = absurd cc
nothing_cut events (AtFlush (e ∷ before) after wanted left) = absurd cc

cut_waits : {K : Type 0} (a : Answering K) (k next : K) (Stops : ReadFault → Type 0) (left now : Option (List ℕ)) (had_come : Bool) (all events : List Event) → all ≡ before_line had_come → IsCutIn all events → TakesTurn a k next Stops left now all None
cut_waits a k next Stops left now true all events e cut = nothing_cut events (subst (λ (l : List Event). IsCutIn l events) e cut)
cut_waits a k next Stops left now false all events e cut = Waits e refl

-- the reasons why a reader stops
pub unread_so : {X : Type 0} (input : LineFacts) (r : Result X ReadFault) (fault : ReadFault) → r ≡ Err fault → ((r ≡ Err read.Unreadable) → input.fails) → ((r ≡ Err read.OutOfMemory) → input.takes_memory) → stops_by input fault
unread_so input r read.Unreadable e fails room = fails e
unread_so input r read.OutOfMemory e fails room = room e

-- ---- lines, one after the other

-- lines that were read of what was left
pub are_lines : (left : Option (List ℕ)) (lines : List (List ℕ)) (now : Option (List ℕ)) → AreRead left lines now → AreLinesOf left lines now
are_lines left lines now h = record { read = h; text = by left now h }
  where
    same_rest : (text rest other : List ℕ) → Some other ≡ Some rest → lines_in text ≡ lines ++ lines_in rest → lines_in text ≡ lines ++ lines_in other
    same_rest text rest other e is = let same : other ≡ rest = cc in is ∙ ap (λ (r : List ℕ). lines ++ lines_in r) (sym same)

    by : (left now : Option (List ℕ)) → AreRead left lines now → IfSome left (λ text. IfSome now (λ rest. lines_in text ≡ lines ++ lines_in rest))
    by None now h = tt
    by (Some text) None h = tt
    by (Some text) (Some other) h = let front = read_front text lines (Some other) h in same_rest text front.0 other front.1 front.2

last_so : (b : Bool) → (b && true) ≡ (true && b)
last_so true = refl
last_so false = refl

apart : (a b c : Bool) → (a && (b && c)) ≡ ((a && b) && c)
apart true b c = refl
apart false b c = refl

done_more : {K : Type 0} (turns : List (Turn K)) (t : Turn K) → are_done (turns ++ t ∷ []) ≡ (are_done turns && t.told.done)
done_more [] t = last_so t.told.done
done_more (u ∷ turns) t = ap (λ (b : Bool). u.told.done && b) (done_more turns t) ∙ apart u.told.done (are_done turns) t.told.done

known_more : {K : Type 0} (k : K) (turns : List (Turn K)) (t : Turn K) → known_after k (turns ++ t ∷ []) ≡ t.after
known_more k [] t = refl
known_more k (u ∷ turns) t = known_more u.after turns t

told_more : {K : Type 0} (a : Answering K) (progress : Bool) (before : ℕ) (k : K) (turns : List (Turn K)) (t : Turn K) (events said : List Event) → AreTold a progress before k turns events → a.Tells (known_after k turns) t.after t.line t.told t.reading → MayTellProgress progress (before + length turns + 1) said
    → AreTold a progress before k (turns ++ t ∷ []) (events ++ (turn_events t ++ said))
told_more a progress before k [] t events said is tells says = (
  said,
  [],
  tells,
  subst (λ (n : ℕ). MayTellProgress progress n said) (omega arith) says,
  refl,
  ap (λ (e : List Event). e ++ (turn_events t ++ said)) is ∙ ap (λ (e : List Event). turn_events t ++ e) (sym (append-nil said)),
)
told_more a progress before k (u ∷ turns) t events said (line, rest, tells', says', h, is) tells says = (
  line,
  rest ++ (turn_events t ++ said),
  tells',
  says',
  told_more a progress (before + 1) u.after turns t rest said h tells (subst (λ (n : ℕ). MayTellProgress progress n said) (omega arith) says),
  ap (λ (e : List Event). e ++ (turn_events t ++ said)) is ∙ append_assoc (turn_events u) (line ++ rest) (turn_events t ++ said) ∙ ap (λ (e : List Event). turn_events u ++ e) (append_assoc line rest (turn_events t ++ said)),
)

-- so many lines so far are told
pub record HasTold {K : Type 0} (a : Answering K) (progress : Bool) (k next : K) (left now : Option (List ℕ)) (count : ℕ) (done : Bool) (events : List Event) : Type 0 where
  pub turns : List (Turn K)
  pub told : AreTold a progress 0 k turns events
  pub read : AreRead left (lines_told turns) now
  pub known : known_after k turns ≡ next
  pub done_is : done ≡ are_done turns
  pub count_is : length turns ≡ count

nothing_told : {K : Type 0} (a : Answering K) (progress : Bool) (k : K) (left : Option (List ℕ)) → HasTold a progress k k left left 0 true []
unfolding AreRead
nothing_told a progress k left = record { turns = []; told = refl; read = refl; known = refl; done_is = refl; count_is = refl }

one_more : {K : Type 0} (a : Answering K) (progress : Bool) (k next : K) (left mid now : Option (List ℕ)) (count : ℕ) (done both : Bool) (events said : List Event) (t : Turn K) → HasTold a progress k next left mid count done events → ReadsLine mid now t.line → a.Tells next t.after t.line t.told t.reading → MayTellProgress progress (count + 1) said
    → both ≡ (done && t.told.done) → HasTold a progress k t.after left now (count + 1) both (events ++ (turn_events t ++ said))
one_more {K = K} a progress k next left mid now count done both events said t h reads tells says e = record {
  turns = h.turns ++ t ∷ [];
  told = told_more a progress 0 k h.turns t events said h.told (subst (λ (x : K). a.Tells x t.after t.line t.told t.reading) (sym h.known) tells) (subst (λ (n : ℕ). MayTellProgress progress n said) (omega (arith, h.count_is)) says);
  read = subst (λ (ls : List (List ℕ)). AreRead left ls now) (sym (map-append (λ (u : Turn K). u.line) h.turns (t ∷ []))) (are_read_more left mid now (lines_told h.turns) t.line h.read reads);
  known = known_more k h.turns t;
  done_is = e ∙ ap (λ (b : Bool). b && t.told.done) h.done_is ∙ sym (done_more h.turns t);
  count_is = length-append h.turns (t ∷ []) ∙ ap (λ (n : ℕ). n + 1) h.count_is;
}

pub same_answers : {K : Type 0} (a : Answering K) → AnswersNoMore a a
same_answers a = record { tells = λ k next line told reading h. h; memory = λ k line reading h. h }

pub more_same : {K : Type 0} (first later next : Answering K) → AnswersNoMore first later → AnswersNoMore later next → AnswersNoMore first next
more_same first later next p q = record { tells = λ k after line told reading h. p.tells k after line told reading (q.tells k after line told reading h); memory = λ k line reading h. p.memory k line reading (q.memory k line reading h) }

module _ {T P F O S L : Type 0} (o : Outside T P F O S L) where
  -- ---- one line

  -- what was written goes out before a line is awaited
  pub came_before : (b : T) (ahead : List ℕ) (r : Bool) (x : Unit {0}) → (IsTrue r ↔ Contains ahead 10) → r ≡ true → AddsSome o b b (Performs (GoesOut (has_line_feed ahead)) (Ok x))
  came_before b ahead r x h e = ([], adds_none o b, sym (ap before_line (sym (feed_is ahead r h) ∙ e)))

  pub went_before : (b c : T) (ahead : List ℕ) (r : Bool) (f : Result (Unit {0}) WriteFault) → (IsTrue r ↔ Contains ahead 10) → r ≡ false → Adds o b c (by_result f (λ _. Flushed Output) (Refused Output) ∷ []) → AddsSome o b c (Performs (GoesOut (has_line_feed ahead)) f)
  went_before b c ahead r (Ok x) h e p = (Flushed Output ∷ [], p, sym (ap before_line (sym (feed_is ahead r h) ∙ e)))
  went_before b c ahead r (Err f) h e p = (Refused Output ∷ [], p, (Flushed Output ∷ [], None, sym (ap before_line (sym (feed_is ahead r h) ∙ e)), AtFlush [] [] refl refl))

  -- a line was answered, or memory was refused to its answer, or the output failed
  module _ {K : Type 0} (a : Answering K) (k next : K) (line : List ℕ) where
    pub read_told : (b c : T) (done : Bool) → AddsSome o b c (AnswersLine a k next line (Ok done)) → AddsSome o b c (Performs (AnswersRead a k next line) (Ok (step.Told done)))
    read_told b c done q = let (reading, pieces, tells, e) = q.2 in (q.0, q.1, IsTold reading (record { pieces = pieces; done = done }) tells e refl)

    pub read_refused : (b c d : T) (r : Result Step WriteFault) → AddsSome o b c (AnswersLine a k next line (Err tell.OutOfMemory)) → AddsSome o c d (Performs (Prints (refused_memory ∷ []) step.Cut) r) → AddsSome o b d (Performs (AnswersRead a k next line) r)
    read_refused b c d r q p = then_does o b c d q.0 (Prints (refused_memory ∷ []) step.Cut) (AnswersRead a k next line) r (λ events is h. IsRefused q.0 q.2 (ap (λ (e : List Event). q.0 ++ e) h.0) h.1) q.1 p

    pub read_cut : (b c : T) (f : WriteFault) → AddsSome o b c (AnswersLine a k next line (Err tell.Io)) → AddsSome o b c (Performs (AnswersRead a k next line) (Err f))
    read_cut b c f q = let (reading, told, tells, cut) = q.2 in (q.0, q.1, (reading ++ written told.pieces, Some (step.Told told.done), IsTold reading told tells refl refl, cut))

  -- the next line was asked for
  pub asked : (b c d : T) (had_come : Bool) (got : Result (Option (List ℕ)) ReadFault) → AddsSome o b c (λ events. events ≡ before_line had_come) → Adds o c d (LineRead got had_come ∷ []) → Adds o b d (asks had_come got)
  asked b c d had_come got p q = subst (λ (e : List Event). Adds o b d (e ++ LineRead got had_come ∷ [])) p.2 (adds_more o b c d p.0 _ p.1 q)

  module _ {K : Type 0} (a : Answering K) (k next : K) (Stops : ReadFault → Type 0) (left now : Option (List ℕ)) where
    turn_of : (line : List ℕ) (had_come : Bool) → ReadsLine left now line → (events : List Event) (is : Option Step) → AnswersRead a k next line events is → TakesTurn a k next Stops left now (asks had_come (Ok (Some line)) ++ events) is
    turn_of line had_come reads events is (IsTold reading told tells e s) =
        Answered (record { line = line; had_come = had_come; reading = reading; told = told; after = next }) reads tells refl (ap (λ (l : List Event). asks had_come (Ok (Some line)) ++ l) e) s
    turn_of line had_come reads events is (IsRefused reading takes e s) = NoRoom line had_come reading reads takes (ap (λ (l : List Event). asks had_come (Ok (Some line)) ++ l) e) s

    pub turn_read : (b c d e : T) (line ahead : List ℕ) (is_line : Bool) (r : Result Step WriteFault) → is_line ≡ true → ReadsIfAny left now line is_line → AddsSome o b c (λ events. events ≡ before_line (has_line_feed ahead)) → Adds o c d (line_event (Ok is_line) line ahead ∷ [])
        → AddsSome o d e (Performs (AnswersRead a k next line) r) → AddsSome o b e (Performs (TakesTurn a k next Stops left now) r)
    turn_read b c d e line ahead true r is reads p q answered =
        let had_come = has_line_feed ahead in
        then_does o b d e (asks had_come (Ok (Some line))) (AnswersRead a k next line) (TakesTurn a k next Stops left now) r (turn_of line had_come reads) (asked b c d had_come (Ok (Some line)) p q) answered
    turn_read b c d e line ahead false r is reads p q answered = absurd cc

    pub turn_ended : (b c d : T) (line ahead : List ℕ) (is_line : Bool) → is_line ≡ false → ReadsIfAny left now line is_line → AddsSome o b c (λ events. events ≡ before_line (has_line_feed ahead)) → Adds o c d (line_event (Ok is_line) line ahead ∷ [])
        → AddsSome o b d (Performs (TakesTurn a k next Stops left now) (Ok step.Ended))
    turn_ended b c d line ahead true is reads p q = absurd cc
    turn_ended b c d line ahead false is reads p q =
        let had_come = has_line_feed ahead in
        (asks had_come (Ok None), asked b c d had_come (Ok None) p q, AtEnd had_come reads.0 refl refl)

    pub turn_unread : (b c d e : T) (fault : ReadFault) (ahead : List ℕ) (r : Result Step WriteFault) → Stops fault → AddsSome o b c (λ events. events ≡ before_line (has_line_feed ahead)) → Adds o c d (LineRead (Err fault) (has_line_feed ahead) ∷ [])
        → AddsSome o d e (Performs (Prints (cut_words fault ∷ []) step.Cut) r) → AddsSome o b e (Performs (TakesTurn a k next Stops left now) r)
    turn_unread b c d e fault ahead r stops p q written =
        let had_come = has_line_feed ahead in
        then_does o b d e (asks had_come (Err fault)) (Prints (cut_words fault ∷ []) step.Cut) (TakesTurn a k next Stops left now) r (λ events is h. Unread fault had_come stops (ap (λ (l : List Event). asks had_come (Err fault) ++ l) h.0) h.1) (asked b c d had_come (Err fault) p q) written

    pub turn_stuck : (b c : T) (had_come : Bool) (f g : WriteFault) → AddsSome o b c (Performs (GoesOut had_come) (Err f)) → AddsSome o b c (Performs (TakesTurn a k next Stops left now) (Err g))
    turn_stuck b c had_come f g q = let (all, is, e, cut) = q.2 in (q.0, q.1, (all, None, cut_waits a k next Stops left now had_come all q.0 e cut, cut))

  -- progress that is due
  pub progress_told : (b c : T) (progress : Bool) (lines : ℕ) → progress ≡ true → lines % 10000 ≡ 0 → AddsSome o b c (SaysProgress (ended (done_words lines))) → AddsSome o b c (MayTellProgress progress lines)
  progress_told b c progress lines wanted due q = (q.0, q.1, Due wanted due q.2)

  -- ---- lines, one after the other

  pub told_none : {K : Type 0} (b : T) (a : Answering K) (progress : Bool) (k : K) (left : Option (List ℕ)) → AddsSome o b b (HasTold a progress k k left left 0 true)
  told_none b a progress k left = ([], adds_none o b, nothing_told a progress k left)

  module _ {K : Type 0} (first later : Answering K) (progress : Bool) (k next : K) (Now Stops : ReadFault → Type 0) (left mid : Option (List ℕ)) (same : AnswersNoMore first later) (count : ℕ) (done : Bool) where
    pub told_next : (b c d e : T) (after : K) (now : Option (List ℕ)) (one both : Bool) → both ≡ (done && one) → AddsSome o b c (HasTold first progress k next left mid count done) → AddsSome o c d (Performs (TakesTurn later next after Now mid now) (Ok (step.Told one))) → AddsSome o d e (MayTellProgress progress (count + 1))
        → AddsSome o b e (HasTold first progress k after left now (count + 1) both)
    told_next b c d e after now one both is h q said =
        let t = turn_told later next after Now mid now q.0 one q.2 in
        let more = one_more first progress k next left mid now count done both h.0 said.0 t.turn h.2 t.reads (same.tells next t.turn.after t.turn.line t.turn.told t.turn.reading t.tells) said.2 (is ∙ ap (λ (x : Bool). done && x) t.done_is) in (
          h.0 ++ (turn_events t.turn ++ said.0),
          subst (λ (l : List Event). Adds o b e (h.0 ++ (l ++ said.0))) t.is (adds_more o b c e h.0 (q.0 ++ said.0) h.1 (adds_more o c d e q.0 said.0 q.1 said.1)),
          subst (λ (x : K). HasTold first progress k x left now (count + 1) both (h.0 ++ (turn_events t.turn ++ said.0))) t.known more,
        )

    -- the next line isn't told
    upto : (after : K) (now : Option (List ℕ)) (before last : List Event) (is : Option Step) (back : (fault : ReadFault) → Now fault → Stops fault) (h : HasTold first progress k next left mid count done before) → TakesTurn later next after Now mid now last is
        → AnswersLines first k progress Stops left (before ++ last) (done_by h.turns is)
    upto after now before last is back h turn =
        let from = subst (λ (x : K). TakesTurn later x after Now mid now last is) (sym h.known) turn in
        UpTo h.turns after mid now before last is h.told (are_lines left (lines_told h.turns) mid h.read) (turn_so first later (known_after k h.turns) after Now Stops mid now last is same back from) refl refl

    module _ (b c d : T) (after : K) (now : Option (List ℕ)) (back : (fault : ReadFault) → Now fault → Stops fault) (h : AddsSome o b c (HasTold first progress k next left mid count done)) where
      pub told_all : AddsSome o c d (Performs (TakesTurn later next after Now mid now) (Ok step.Ended)) → AddsSome o b d (Performs (AnswersLines first k progress Stops left) (Ok done))
      told_all q = (
        h.0 ++ q.0,
        adds_more o b c d h.0 q.0 h.1 q.1,
        subst (λ (x : Bool). AnswersLines first k progress Stops left (h.0 ++ q.0) (Some x)) (sym h.2.done_is) (upto after now h.0 q.0 (Some step.Ended) back h.2 q.2),
      )

      pub told_cut : AddsSome o c d (Performs (TakesTurn later next after Now mid now) (Ok step.Cut)) → AddsSome o b d (Performs (AnswersLines first k progress Stops left) (Ok false))
      told_cut q = (h.0 ++ q.0, adds_more o b c d h.0 q.0 h.1 q.1, upto after now h.0 q.0 (Some step.Cut) back h.2 q.2)

      pub told_failed : (f g : WriteFault) → AddsSome o c d (Performs (TakesTurn later next after Now mid now) (Err f)) → AddsSome o b d (Performs (AnswersLines first k progress Stops left) (Err g))
      told_failed f g q = let (all, is, turn, cut) = q.2 in (
        h.0 ++ q.0,
        adds_more o b c d h.0 q.0 h.1 q.1,
        (h.0 ++ all, done_by h.2.turns is, upto after now h.0 all is back h.2 turn, cut_behind h.0 all q.0 cut),
      )

    -- so many lines were told that no more are read
    too_many : (before events : List Event) (is : Option Step) → 2 ^ 64 - 1 ≤ count → HasTold first progress k next left mid count done before → Prints (refused_files ∷ []) step.Cut events is → AnswersLines first k progress Stops left (before ++ events) (Some false)
    too_many before events is many h p = TooMany h.turns mid before h.told (are_lines left (lines_told h.turns) mid h.read) (subst (λ (n : ℕ). 2 ^ 64 - 1 ≤ n) (sym h.count_is) many) (ap (λ (e : List Event). before ++ e) p.0) refl

    pub told_most : (b c d : T) (is : Step) → 2 ^ 64 - 1 ≤ count → AddsSome o b c (HasTold first progress k next left mid count done) → AddsSome o c d (Performs (Prints (refused_files ∷ []) step.Cut) (Ok is)) → AddsSome o b d (Performs (AnswersLines first k progress Stops left) (Ok false))
    told_most b c d is many h q = (h.0 ++ q.0, adds_more o b c d h.0 q.0 h.1 q.1, too_many h.0 q.0 (Some is) many h.2 q.2)

    pub most_failed : (b c d : T) (f g : WriteFault) → 2 ^ 64 - 1 ≤ count → AddsSome o b c (HasTold first progress k next left mid count done) → AddsSome o c d (Performs (Prints (refused_files ∷ []) step.Cut) (Err f)) → AddsSome o b d (Performs (AnswersLines first k progress Stops left) (Err g))
    most_failed b c d f g many h q = let (all, is, written, cut) = q.2 in (
      h.0 ++ q.0,
      adds_more o b c d h.0 q.0 h.1 q.1,
      (h.0 ++ all, Some false, too_many h.0 all is many h.2 written, cut_behind h.0 all q.0 cut),
    )

  -- ---- the input

  -- other reasons why lines stop
  pub lines_so : {K : Type 0} (a : Answering K) (k : K) (progress : Bool) (Now Stops : ReadFault → Type 0) (left : Option (List ℕ)) (events : List Event) (all : Option Bool) → ((fault : ReadFault) → Now fault → Stops fault) → AnswersLines a k progress Now left events all → AnswersLines a k progress Stops left events all
  lines_so a k progress Now Stops left events all back (UpTo turns next mid now before last is told lines turn e d) =
      UpTo turns next mid now before last is told lines (turn_so a a (known_after k turns) next Now Stops mid now last is (same_answers a) back turn) e d
  lines_so a k progress Now Stops left events all back (TooMany turns now before told lines many e d) = TooMany turns now before told lines many e d

  pub left_of : (input : InputFacts) (lines : LineFacts) → IfSome lines.left input.gives → (input.is_told ≡ true → FailsOrIsKnown lines) → (lines.fails → input.fails) → IsLeftOf input lines.left
  left_of input lines given known cause = record { given = given; known = λ told. by (known told) }
    where
      by : lines.fails ⊎ IsSome lines.left → input.fails ⊎ IsSome lines.left
      by (inl fails) = inl (cause fails)
      by (inr some) = inr some

  stops_so : (input : InputFacts) (lines : LineFacts) → (lines.fails → input.fails) → (lines.takes_memory → input.takes_memory) → (fault : ReadFault) → stops_by lines fault → input_stops input fault
  stops_so input lines cause room read.Unreadable h = cause h
  stops_so input lines cause room read.OutOfMemory h = room h

  module _ {K : Type 0} (input : InputFacts) (lines : LineFacts) (a : Answering K) (k : K) (progress : Bool) (left : IsLeftOf input lines.left) (cause : lines.fails → input.fails) (room : lines.takes_memory → input.takes_memory) where
    answered : (events : List Event) (done : Option Bool) → AnswersLines a k progress (stops_by lines) lines.left events done → AnswersInput input a k progress (LinesOpened FromInput true ∷ events) (told_status done)
    answered events done h = LinesAnswered lines.left events done left (lines_so a k progress (stops_by lines) (input_stops input) lines.left events done (stops_so input lines cause room) h) refl refl

    pub input_done : (b c d : T) (done : Bool) (status : ℕ) → status ≡ status_if done → Adds o b c (LinesOpened FromInput true ∷ []) → AddsSome o c d (Performs (AnswersLines a k progress (stops_by lines) lines.left) (Ok done)) → AddsSome o b d (Performs (AnswersInput input a k progress) (Ok status))
    input_done b c d done status is p q = (
      LinesOpened FromInput true ∷ q.0,
      adds_more o b c d (LinesOpened FromInput true ∷ []) q.0 p q.1,
      subst (λ (s : ℕ). AnswersInput input a k progress (LinesOpened FromInput true ∷ q.0) (Some s)) (sym is) (answered q.0 (Some done) q.2),
    )

    pub input_failed : (b c d : T) (f g : WriteFault) → Adds o b c (LinesOpened FromInput true ∷ []) → AddsSome o c d (Performs (AnswersLines a k progress (stops_by lines) lines.left) (Err f)) → AddsSome o b d (Performs (AnswersInput input a k progress) (Err g))
    input_failed b c d f g p q = let (all, is, h, cut) = q.2 in (
      LinesOpened FromInput true ∷ q.0,
      adds_more o b c d (LinesOpened FromInput true ∷ []) q.0 p q.1,
      (LinesOpened FromInput true ∷ all, told_status is, answered all is h, cut_behind (LinesOpened FromInput true ∷ []) all q.0 cut),
    )

  -- memory was refused for reading lines
  pub no_lines : {K : Type 0} (input : InputFacts) (a : Answering K) (k : K) (progress : Bool) (b c d : T) (r : Result ℕ WriteFault) → input.takes_memory → Adds o b c (LinesOpened FromInput false ∷ []) → AddsSome o c d (Performs (Prints (refused_memory ∷ []) 1) r) → AddsSome o b d (Performs (AnswersInput input a k progress) r)
  no_lines input a k progress b c d r room p q = then_prints o b c d (LinesOpened FromInput false ∷ []) (AnswersInput input a k progress) (refused_memory ∷ []) 1 r (NoLines room refl refl) p q
