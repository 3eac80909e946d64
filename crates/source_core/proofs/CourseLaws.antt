-- A run, one turn after the other, by what happens outside.
use Rattle.std.proofs.Common.{◌≡◌, ◌∙◌, ◌+◌, ◌-◌, ◌≤◌, ◌<◌, ◌++◌, ◌∷◌, [], ℕ, Bool, List, Option, Some, None, ap, append-nil, append_assoc, arith, inl, inr, length, length-append, refl, subst, sym}
use Rattle.std.specs.Prelude.{IfOk, IfSome, Result, Ok, Err}
use Rattle.std.specs.List.{AllByRecursion, Contains}
use Rattle.std.specs.declared.net.socket_addr.SocketAddr.{SocketAddr}
use Rattle.std.proofs.lemmas.List.Elements.{All-contains, All-from_recursion, Contains-append_cases}
use Rattle.board_core.specs.declared.moves.Move.{Move as Moves}
use Rattle.board_core.specs.declared.parts.Parts.{Parts}
use Rattle.move_msg.specs.declared.stamp.Stamp.{Stamp}
use Rattle.move_msg.specs.Messages.{SpellsMessage, message_text}
use Rattle.move_msg.specs.Numbers.{most_moves}
use Rattle.system_io.proofs.HistoryLaws.{Passes-trans}
use Rattle.system_io.specs.Recipients.{address_named}
use Rattle.system_io.specs.declared.output.WriteFault.{WriteFault}
use Rattle.system_io.specs.declared.reading.ReadFault.{ReadFault}
use Rattle.system_io.specs.declared.recipient.Recipient.{Recipient}
use Rattle.timeline.proofs.EventLaws.{adds_both, adds_so}
use Rattle.timeline.specs.Events.{Came, Event, LineRead, Missed, Noted, Passes, Quiet, Refused, Sent, Wrote, sent_to, sent_to_each}
use Rattle.timeline.specs.Outsides.{AddsSome, Outside}
use Rattle.timeline.specs.declared.stream.Stream.TheVariants.{Output}
use Rattle.source_core.specs.Heard.{Happened, IsHearing, IsNote, Moment, OnlyNotes, heard, sender_after}
use Rattle.source_core.specs.Inside.Courses.{CourseAt, RunsAndSends, StandsWhere, StepsFrom, TakesStep, nothing_known}
use Rattle.source_core.specs.Lines.{acked_words, end_words, ended_by}
use Rattle.source_core.specs.Reports.{Knows}
use Rattle.source_core.specs.Runs.{AreMoveTurns, ClosesRun, EndsRun, InputEnds, IsMoveTurn, LastSent, LineGoesOut, MoveTurn, NoLine, NotSent, OnlySends, RunState, SendsGame, SourceTerms, ToItsEnd, ToLostLine, datagram_of, gone_out, read_and_sent, run_from, sends_in, sent_again}
use Rattle.source_core.specs.Sendings.{causes, last_of}
use Rattle.source_core.specs.Tries.{tries_events, try_events}
use Rattle.source_core.specs.Turns.{HasSpelling, move_message}
use Rattle.source_core.specs.declared.known.Known.{Known}
use Rattle.source_core.specs.declared.lines.End.{End}
use Rattle.source_core.specs.declared.lines.End.TheVariants as at_end
use Rattle.source_core.specs.declared.lines.Ended.{Ended}
use Rattle.source_core.specs.declared.turn.SendConfig.{SendConfig}
use Rattle.source_core.proofs.HeardLaws.{all_join, happened_more, happened_none}
use Rattle.source_core.proofs.ReportLaws.{knows_nothing}
use Rattle.source_core.proofs.RunLaws.{still_step}
use Rattle.source_core.proofs.SendingLaws.{get_front, get_last, last_now, still_causes}

-- ---- one list of moves

-- nothing is sent by it; or these bytes alone
SendsNone : Event → Type 0
SendsNone e = (to : SocketAddr) (its : List ℕ) → e ≡ Sent to its → ⊥

SendsOnly : List ℕ → Event → Type 0
SendsOnly bytes e = (to : SocketAddr) (its : List ℕ) → e ≡ Sent to its → its ≡ bytes

none_only : (bytes : List ℕ) (events : List Event) → AllByRecursion SendsNone events → AllByRecursion (SendsOnly bytes) events
unfolding SendsNone SendsOnly
none_only bytes [] h = tt
none_only bytes (e ∷ events) h = (λ to its is. absurd (h.0 to its is), none_only bytes events h.1)

hearing_none : (e : Event) → IsHearing e → SendsNone e
unfolding SendsNone
hearing_none (Came from bytes) h to its is = cc
hearing_none (Quiet nanos) h to its is = cc
hearing_none Missed h to its is = cc
hearing_none (Noted line) h to its is = cc
hearing_none _ h to its is = absurd h

all_hearing : (events : List Event) → AllByRecursion IsHearing events → AllByRecursion SendsNone events
all_hearing [] h = tt
all_hearing (e ∷ events) h = (hearing_none e h.0, all_hearing events h.1)

note_none : (e : Event) → IsNote e → SendsNone e
unfolding SendsNone
note_none (Noted line) h to its is = cc
note_none _ h to its is = absurd h

all_notes : (events : List Event) → OnlyNotes events → AllByRecursion SendsNone events
all_notes [] h = tt
all_notes (e ∷ events) h = (note_none e h.0, all_notes events h.1)

line_none : (words : List ℕ) → AllByRecursion SendsNone (gone_out words)
unfolding SendsNone
line_none words = (λ to its is. cc, (λ to its is. cc, tt))

refused_none : (bytes : List ℕ) → AllByRecursion SendsNone (Wrote Output bytes ∷ Refused Output ∷ [])
unfolding SendsNone
refused_none bytes = (λ to its is. cc, (λ to its is. cc, tt))

out_none : {X : Type 0} (words : List ℕ) (r : Result X WriteFault) (out : List Event) → LineGoesOut words r out → AllByRecursion SendsNone out
out_none words (Ok x) out is = subst (AllByRecursion SendsNone) (sym is) (line_none words)
out_none words (Err fault) out (inl (n, is)) = subst (AllByRecursion SendsNone) (sym is) (refused_none _)
out_none words (Err fault) out (inr is) = subst (AllByRecursion SendsNone) (sym is) (refused_none _)

read_none : (r : Result (Option (List ℕ)) ReadFault) (had_come : Bool) → SendsNone (LineRead r had_come)
unfolding SendsNone
read_none r had_come to its is = cc

-- a datagram for each recipient
sends_one : (address : Option SocketAddr) (bytes : List ℕ) → AllByRecursion (SendsOnly bytes) (sent_to address bytes)
unfolding SendsOnly
sends_one None bytes = tt
sends_one (Some address) bytes = (λ to its is. sym (same to its is), tt)
  where
    same : (to : SocketAddr) (its : List ℕ) → Sent address bytes ≡ Sent to its → bytes ≡ its
    same to its is = cc

sends_each : (sender : Option SocketAddr) (to : List Recipient) (bytes : List ℕ) → AllByRecursion (SendsOnly bytes) (sent_to_each sender to bytes)
unfolding sent_to_each
sends_each sender [] bytes = tt
sends_each sender (who ∷ others) bytes = all_join (SendsOnly bytes) (sent_to (address_named sender who) bytes) (sent_to_each sender others bytes) (sends_one (address_named sender who) bytes) (sends_each sender others bytes)

sends_tries : (sender : Option SocketAddr) (to : List Recipient) (bytes : List ℕ) (tries : List (List Event)) → AllByRecursion (AllByRecursion IsHearing) tries → AllByRecursion (SendsOnly bytes) (tries_events sender to bytes tries)
sends_tries sender to bytes [] h = tt
sends_tries sender to bytes (came ∷ tries) h =
    let one : List Event = try_events sender to bytes came in
    all_join (SendsOnly bytes) one (tries_events (sender_after sender one) to bytes tries)
    (all_join (SendsOnly bytes) (sent_to_each sender to bytes) came (sends_each sender to bytes) (none_only bytes came (all_hearing came h.0)))
    (sends_tries (sender_after sender one) to bytes tries h.1)

sends_these : (bytes : List ℕ) (events : List Event) (to : SocketAddr) (its : List ℕ) → AllByRecursion (SendsOnly bytes) events → Contains events (Sent to its) → its ≡ bytes
unfolding SendsOnly
sends_these bytes events to its h in' = All-contains (SendsOnly bytes) events (Sent to its) (All-from_recursion (SendsOnly bytes) events h) in' to its refl

sends_no : (events : List Event) (to : SocketAddr) (its : List ℕ) → AllByRecursion SendsNone events → Contains events (Sent to its) → ⊥
unfolding SendsNone
sends_no events to its h in' = All-contains SendsNone events (Sent to its) (All-from_recursion SendsNone events h) in' to its refl

-- what is sent of a list of moves
only_join : (stamp : Stamp) (moves : List Moves) (xs ys : List Event) → OnlySends stamp moves xs → OnlySends stamp moves ys → OnlySends stamp moves (xs ++ ys)
only_join stamp moves xs ys h k to bytes in' = elim (Contains-append_cases xs ys (Sent to bytes) in') [ inl first ↦ h to bytes first | inr second ↦ k to bytes second ]

only_none : (stamp : Stamp) (moves : List Moves) (events : List Event) → AllByRecursion SendsNone events → OnlySends stamp moves events
only_none stamp moves events h to bytes in' = absurd (sends_no events to bytes h in')

only_grown : (stamp : Stamp) (moves more : List Moves) (events : List Event) → OnlySends stamp moves events → OnlySends stamp (moves ++ more) events
only_grown stamp moves more events h to bytes in' = let old = h to bytes in' in (old.0, old.1, get_front moves more old.0 old.1 old.2, old.3)

only_one : (stamp : Stamp) (moves : List Moves) (m : Moves) (events : List Event) → HasSpelling stamp (length moves) m → AllByRecursion (SendsOnly (message_text (move_message stamp (length moves) m))) events → OnlySends stamp (moves ++ m ∷ []) events
only_one stamp moves m events say h to its in' =
    let bytes : List ℕ = message_text (move_message stamp (length moves) m) in
    (length moves, m, get_last moves m, subst (λ b. SpellsMessage b (move_message stamp (length moves) m)) (sym (sends_these bytes events to its h in')) say)

-- a move more, behind a line that was read
only_sent : (g : SourceTerms) (at : RunState) (m : Moves) (tries : List (List Event)) (r : Result (Option (List ℕ)) ReadFault) (had_come : Bool) → OnlySends g.terms.stamp at.moves at.events → HasSpelling g.terms.stamp (length at.moves) m → AllByRecursion (AllByRecursion IsHearing) tries
    → OnlySends g.terms.stamp (at.moves ++ m ∷ []) (at.events ++ (LineRead r had_come ∷ sends_in g at m tries))
only_sent g at m tries r had_come h say hearing =
    let bytes : List ℕ = datagram_of g at.moves m in
    only_join g.terms.stamp (at.moves ++ m ∷ []) at.events (LineRead r had_come ∷ sends_in g at m tries) (only_grown g.terms.stamp at.moves (m ∷ []) at.events h)
    (only_one g.terms.stamp at.moves m (LineRead r had_come ∷ sends_in g at m tries) say
    (all_join (SendsOnly bytes) (LineRead r had_come ∷ []) (sends_in g at m tries) (none_only bytes (LineRead r had_come ∷ []) (read_none r had_come, tt)) (sends_tries (sender_after g.sender at.events) g.to bytes tries hearing)))

-- no more moves
only_still : (stamp : Stamp) (moves sent : List Moves) (events more : List Event) → sent ≡ [] → OnlySends stamp moves events → OnlySends stamp moves more → OnlySends stamp (moves ++ sent) (events ++ more)
only_still stamp moves sent events more none h k = subst (λ l. OnlySends stamp (moves ++ l) (events ++ more)) (sym none) (subst (λ l. OnlySends stamp l (events ++ more)) (sym (append-nil moves)) (only_join stamp moves events more h k))

-- the last one once more
only_again : (stamp : Stamp) (sender : Option SocketAddr) (to : List Recipient) (moves : List Moves) (last : Option Moves) → last_of moves ≡ last → IfSome last (HasSpelling stamp (length moves - 1)) → OnlySends stamp moves (sent_again sender to stamp (length moves - 1) last)
only_again stamp sender to moves None is say its bytes in' = only_none stamp moves [] tt its bytes in'
only_again stamp sender to moves (Some m) is say its bytes in' =
    let text : List ℕ = message_text (move_message stamp (length moves - 1) m) in
    (length moves - 1, m, is, subst (λ b. SpellsMessage b (move_message stamp (length moves - 1) m)) (sym (sends_these text (sent_to_each sender to text) its bytes (sends_each sender to text) in')) say)

only_closed : (g : SourceTerms) (at : RunState) (rest : List Event) (end : End) (had_come : Bool) → ClosesRun g at rest end → OnlySends g.terms.stamp at.moves (LineRead (Ok None) had_come ∷ rest)
only_closed g at rest end had_come h =
    let stamp = g.terms.stamp in
    let sender = sender_after g.sender at.events in
    let again = sent_again sender g.to stamp (length at.moves - 1) (last_of at.moves) in
    only_join stamp at.moves (LineRead (Ok None) had_come ∷ []) rest (only_none stamp at.moves (LineRead (Ok None) had_come ∷ []) (read_none (Ok None) had_come, tt))
    (subst (OnlySends stamp at.moves) (sym h.happened) (only_join stamp at.moves again h.came (only_again stamp sender g.to at.moves (last_of at.moves) refl h.spelling) (only_none stamp at.moves h.came (all_hearing h.came h.hearing))))

-- the run ends
only_ended : (cause : ReadFault → Type 0) (g : SourceTerms) (at : RunState) (sent : List Moves) (more : List Event) (end : End) → EndsRun cause g at sent more end → OnlySends g.terms.stamp at.moves at.events → OnlySends g.terms.stamp (at.moves ++ sent) (at.events ++ more)
only_ended cause g at sent more end (NoLine why had_come h is none e) k = only_still g.terms.stamp at.moves sent at.events more none k (subst (OnlySends g.terms.stamp at.moves) (sym e) (only_none g.terms.stamp at.moves (LineRead (Err why) had_come ∷ []) (read_none (Err why) had_come, tt)))
only_ended cause g at sent more end (NotSent line had_come input read h none e) k = only_still g.terms.stamp at.moves sent at.events more none k (subst (OnlySends g.terms.stamp at.moves) (sym e) (only_none g.terms.stamp at.moves (LineRead (Ok (Some line)) had_come ∷ []) (read_none (Ok (Some line)) had_come, tt)))
only_ended cause g at sent more end (InputEnds had_come rest done closes none e) k = only_still g.terms.stamp at.moves sent at.events more none k (subst (OnlySends g.terms.stamp at.moves) (sym e) (only_closed g at rest end had_come closes))
only_ended cause g at sent more end (LastSent last is all) k =
    subst (λ l. OnlySends g.terms.stamp (at.moves ++ l) (at.events ++ more)) (sym last.only)
    (subst (λ l. OnlySends g.terms.stamp (at.moves ++ last.move ∷ []) (at.events ++ l)) (sym last.happened) (only_sent g at last.move last.tries (Ok (Some last.line)) last.had_come k last.spelling last.are.hearing))

-- and then a line
pub only_out : {X : Type 0} (stamp : Stamp) (moves : List Moves) (events more : List Event) (words : List ℕ) (r : Result X WriteFault) (out : List Event) → LineGoesOut words r out → OnlySends stamp moves (events ++ more) → OnlySends stamp moves (events ++ (more ++ out))
only_out stamp moves events more words r out is h = subst (OnlySends stamp moves) (append_assoc events more out) (only_join stamp moves (events ++ more) out h (only_none stamp moves out (out_none words r out is)))

-- ---- all turns

pub turns_more : (g : SourceTerms) (a b : RunState) (ts : List MoveTurn) (t : MoveTurn) → AreMoveTurns g a ts b → IsMoveTurn g b t → AreMoveTurns g a (ts ++ t ∷ []) t.after
unfolding AreMoveTurns
turns_more g a b [] t h k = (subst (λ at. IsMoveTurn g at t) h k, refl)
turns_more g a b (s ∷ ts) t h k = (h.0, turns_more g s.after b ts t h.1 k)

-- at a port, as a moment has it
abbrev pub terms_at : SendConfig → Moment → SourceTerms
terms_at terms first = record { terms = terms; to = first.to; sender = first.sender }

-- so many moves are acknowledged, and their lines have gone out; what the input says of its faults now, it said at the beginning
pub record HasRun (F0 F M0 M : Type 0) (terms : SendConfig) (start : Parts) (input0 input : Option (List ℕ)) (first : Moment) (c : CourseAt) (k : ℕ) : Type 0 where
  pub turns : List MoveTurn
  pub moves : List Moves
  pub events : List Event
  pub in_turn : AreMoveTurns (terms_at terms first) (run_from input0 start) turns (record { input = input; position = c.position; moves = moves; events = events })
  pub knows : Knows terms.stamp (heard events) c.known
  pub last : c.last ≡ last_of moves
  pub count : k ≡ length moves
  pub room : k ≤ most_moves
  pub happened : Happened first c.at events
  pub source : OnlySends terms.stamp moves events
  pub fails : F → F0
  pub memory : M → M0

pub run_none : (F M : Type 0) (terms : SendConfig) (input : Option (List ℕ)) (c : CourseAt) → (c.last ≡ None) × (c.known ≡ nothing_known) → HasRun F F M M terms c.position input input c.at c 0
unfolding AreMoveTurns
run_none F M terms input c begun = record {
  turns = [];
  moves = [];
  events = [];
  in_turn = refl;
  knows = subst (Knows terms.stamp []) (sym begun.1) (knows_nothing terms.stamp);
  last = begun.0;
  count = refl;
  room = omega arith;
  happened = happened_none c.at;
  source = only_none terms.stamp [] [] tt;
  fails = λ f. f;
  memory = λ m. m;
}

module _ (F0 F M0 M : Type 0) (terms : SendConfig) (start : Parts) (input0 input input' : Option (List ℕ)) (first : Moment) (c c' : CourseAt) (k : ℕ) (h : HasRun F0 F M0 M terms start input0 input first c k) where
  -- where it stands
  abbrev at_now : RunState
  at_now = record { input = input; position = c.position; moves = h.moves; events = h.events }

  stands : StandsWhere (terms_at terms first) at_now k c c.at
  stands = record { position = refl; knows = h.knows; count = h.count; last = h.last; to = h.happened.to; sender = h.happened.sender }

  -- how a step goes on from there
  stepped_so : (o : Option End) → StepsFrom (causes F M) terms k input input' c.at c c' o → TakesStep (causes F0 M0) (terms_at terms first) at_now input' c.at c' o
  stepped_so o steps = still_step (causes F M) (causes F0 M0) (terms_at terms first) at_now input' c.at c' o (still_causes F F0 M M0 h.fails h.memory) (steps (terms_at terms first) at_now refl refl stands)

  -- a step by which a move was acknowledged
  acked_step : StepsFrom (causes F M) terms k input input' c.at c c' None
      → (t : MoveTurn) × IsMoveTurn (terms_at terms first) at_now t × (t.after.input ≡ input') × (t.after.position ≡ c'.position) × (Some t.move ≡ c'.last) × Happened c.at c'.at (read_and_sent (terms_at terms first) at_now t) × Knows terms.stamp (heard t.after.events) c'.known
  unfolding TakesStep
  acked_step steps = stepped_so None steps

  -- a step by which the run ended
  last_step : (end : End) → StepsFrom (causes F M) terms k input input' c.at c c' (Some end)
      → (sent : List Moves) × (more : List Event) × EndsRun (causes F0 M0) (terms_at terms first) at_now sent more end × Happened c.at c'.at more × (end ≡ at_end.Lost → Knows terms.stamp (heard (h.events ++ more)) c'.known)
  unfolding TakesStep
  last_step end steps = stepped_so (Some end) steps

  counted_words : acked_words (length h.moves + 1) ≡ acked_words (k + 1)
  counted_words = ap (λ n. acked_words (n + 1)) (sym h.count)

-- one move more
pub run_more : (F0 F G M0 M N : Type 0) (terms : SendConfig) (start : Parts) (input0 input input' : Option (List ℕ)) (first : Moment) (c : CourseAt) (position : Parts) (last : Option Moves) (known : Known) (e1 e2 : Option (List Event)) (to : List Recipient) (sender : Option SocketAddr) (k : ℕ)
    → HasRun F0 F M0 M terms start input0 input first c k → StepsFrom (causes F M) terms k input input' c.at c (record { position = position; last = last; known = known; at = record { events = e1; to = to; sender = sender } }) None
    → (G → F) → (N → M) → (out : List Event) × Passes e1 e2 out × (out ≡ gone_out (acked_words (k + 1)))
    → HasRun F0 G M0 N terms start input0 input' first (record { position = position; last = last; known = known; at = record { events = e2; to = to; sender = sender } }) (k + 1)
run_more F0 F G M0 M N terms start input0 input input' first c position last known e1 e2 to sender k h steps same room (out, passes, wrote) =
    let c1 : CourseAt = record { position = position; last = last; known = known; at = record { events = e1; to = to; sender = sender } } in
    let c2 : CourseAt = record { position = position; last = last; known = known; at = record { events = e2; to = to; sender = sender } } in
    let g : SourceTerms = terms_at terms first in
    let at : RunState = record { input = input; position = c.position; moves = h.moves; events = h.events } in
    let (t, turn, is_input, is_position, is_last, happened, knows) = acked_step F0 F M0 M terms start input0 input input' first c c1 k h steps in
    let counted = h.count in
    let fits : length h.moves < most_moves = turn.room in
    let longer : length t.after.moves ≡ k + 1 = ap length turn.moves ∙ length-append h.moves (t.move ∷ []) ∙ ap (λ n. n + 1) (sym h.count) in
    let line : List Event = gone_out (acked_words (length h.moves + 1)) in
    let written : Passes e1 e2 line = subst (Passes e1 e2) (wrote ∙ ap gone_out (sym (counted_words F0 F M0 M terms start input0 input input' first c c1 k h))) passes in
    let went : Happened c1.at c2.at line = record { passes = written; to = refl; sender = refl } in
    let events : Happened first c2.at (h.events ++ (read_and_sent g at t ++ line)) = happened_more first c.at c2.at h.events (read_and_sent g at t ++ line) h.happened (happened_more c.at c1.at c2.at (read_and_sent g at t) line happened went) in
    let ok : LineGoesOut {X = Unit {0}} (acked_words (length h.moves + 1)) (Ok tt) line = refl in
    let source : OnlySends terms.stamp (h.moves ++ t.move ∷ []) (h.events ++ (read_and_sent g at t ++ line)) = only_out {X = Unit {0}} terms.stamp (h.moves ++ t.move ∷ []) h.events (read_and_sent g at t) (acked_words (length h.moves + 1)) (Ok tt) line ok (only_sent g at t.move t.tries (Ok (Some t.line)) t.had_come h.source turn.spelling turn.tries.hearing) in
    record {
      turns = h.turns ++ t ∷ [];
      moves = t.after.moves;
      events = t.after.events;
      in_turn = subst (λ i. AreMoveTurns g (run_from input0 start) (h.turns ++ t ∷ []) (record { input = i; position = position; moves = t.after.moves; events = t.after.events })) is_input
          (subst (λ p. AreMoveTurns g (run_from input0 start) (h.turns ++ t ∷ []) (record { input = t.after.input; position = p; moves = t.after.moves; events = t.after.events })) is_position
          (turns_more g (run_from input0 start) at h.turns t h.in_turn turn));
      knows = knows;
      last = sym is_last ∙ last_now h.moves t.move ∙ ap last_of (sym turn.moves);
      count = sym longer;
      room = omega arith;
      happened = subst (Happened first c2.at) (sym turn.events) events;
      source = subst (λ l. OnlySends terms.stamp l t.after.events) (sym turn.moves) (subst (OnlySends terms.stamp (h.moves ++ t.move ∷ [])) (sym turn.events) source);
      fails = λ f. h.fails (same f);
      memory = λ m. h.memory (room m);
    }

-- the line of a move wasn't written
pub run_lost : (F0 F M0 M : Type 0) (terms : SendConfig) (start : Parts) (input0 input input' : Option (List ℕ)) (first : Moment) (c c' : CourseAt) (e2 : Option (List Event)) (k : ℕ) (fault : WriteFault)
    → HasRun F0 F M0 M terms start input0 input first c k → StepsFrom (causes F M) terms k input input' c.at c c' None → (out : List Event) × Passes c'.at.events e2 out × LineGoesOut {X = Unit {0}} (acked_words (k + 1)) (Err fault) out
    → (events : List Event) × Passes first.events e2 events × RunsAndSends (causes F0 M0) (terms_at terms first) start input0 (Err fault) events
run_lost F0 F M0 M terms start input0 input input' first c c' e2 k fault h steps (out, passes, wrote) =
    let g : SourceTerms = terms_at terms first in
    let at : RunState = record { input = input; position = c.position; moves = h.moves; events = h.events } in
    let (t, turn, is_input, is_position, is_last, happened, knows) = acked_step F0 F M0 M terms start input0 input input' first c c' k h steps in
    let sent : List Event = read_and_sent g at t in
    let its : LineGoesOut {X = Ended} (acked_words (length h.moves + 1)) (Err fault) out = subst (λ w. LineGoesOut {X = Ended} w (Err fault) out) (sym (counted_words F0 F M0 M terms start input0 input input' first c c' k h)) wrote in
    let source : OnlySends terms.stamp (h.moves ++ t.move ∷ []) (h.events ++ (sent ++ out)) = only_out {X = Ended} terms.stamp (h.moves ++ t.move ∷ []) h.events sent (acked_words (length h.moves + 1)) (Err fault) out its (only_sent g at t.move t.tries (Ok (Some t.line)) t.had_come h.source turn.spelling turn.tries.hearing) in (
      h.events ++ (sent ++ out),
      Passes-trans first.events c.at.events e2 h.events (sent ++ out) h.happened.passes (Passes-trans c.at.events c'.at.events e2 sent out happened.passes passes),
      (t.after.moves, ToLostLine h.turns at h.in_turn t turn out its refl refl refl, subst (λ l. OnlySends terms.stamp l (h.events ++ (sent ++ out))) (sym turn.moves) source),
    )

-- the run ended, and its line was written, or not
pub run_over : (F0 F M0 M : Type 0) (terms : SendConfig) (start : Parts) (input0 input input' : Option (List ℕ)) (first : Moment) (c c' : CourseAt) (e2 : Option (List Event)) (k : ℕ) (end : End) (r : Result Ended WriteFault)
    → HasRun F0 F M0 M terms start input0 input first c k → StepsFrom (causes F M) terms k input input' c.at c c' (Some end) → IfOk r (λ ended. ended ≡ ended_by end c'.known) → (out : List Event) × Passes c'.at.events e2 out × LineGoesOut (end_words end) r out
    → (events : List Event) × Passes first.events e2 events × RunsAndSends (causes F0 M0) (terms_at terms first) start input0 r events
run_over F0 F M0 M terms start input0 input input' first c c' e2 k end r h steps ok (out, passes, wrote) =
    let g : SourceTerms = terms_at terms first in
    let at : RunState = record { input = input; position = c.position; moves = h.moves; events = h.events } in
    let (sent, more, ends, happened, knows) = last_step F0 F M0 M terms start input0 input input' first c c' k h end steps in (
      h.events ++ (more ++ out),
      Passes-trans first.events c.at.events e2 h.events (more ++ out) h.happened.passes (Passes-trans c.at.events c'.at.events e2 more out happened.passes passes),
      (
        h.moves ++ sent,
        ToItsEnd h.turns at h.in_turn sent more end c'.known (record { ends = ends; knows = knows }) out wrote ok refl refl,
        only_out terms.stamp (h.moves ++ sent) h.events more (end_words end) r out wrote (only_ended (causes F0 M0) g at sent more end ends h.source),
      ),
    )

-- and then maybe notes
pub with_notes : {T P F K S L : Type 0} (o : Outside T P F K S L) (a b c : T) (cause : ReadFault → Type 0) (g : SourceTerms) (start : Parts) (input : Option (List ℕ)) (ended : Ended) → AddsSome o a b (RunsAndSends cause g start input (Ok ended)) → AddsSome o b c OnlyNotes → AddsSome o a c (SendsGame cause g start input (Ok ended))
with_notes o a b c cause g start input ended p q = adds_both o a b c (RunsAndSends cause g start input (Ok ended)) OnlyNotes (SendsGame cause g start input (Ok ended)) (λ run notes ran noted. record {
  moves = ran.0;
  run = run;
  notes = notes;
  runs = ran.1;
  noted = noted;
  cut = tt;
  all = refl;
  source = only_join g.terms.stamp ran.0 run notes ran.2 (only_none g.terms.stamp ran.0 notes (all_notes notes noted));
}) p q

-- none where the output failed
pub with_no_notes : {T P F K S L : Type 0} (o : Outside T P F K S L) (a b : T) (cause : ReadFault → Type 0) (g : SourceTerms) (start : Parts) (input : Option (List ℕ)) (fault : WriteFault) → AddsSome o a b (RunsAndSends cause g start input (Err fault)) → AddsSome o a b (SendsGame cause g start input (Err fault))
with_no_notes o a b cause g start input fault p = adds_so o a b (RunsAndSends cause g start input (Err fault)) (SendsGame cause g start input (Err fault)) (λ run ran. record {
  moves = ran.0;
  run = run;
  notes = [];
  runs = ran.1;
  noted = tt;
  cut = refl;
  all = sym (append-nil run);
  source = ran.2;
}) p
