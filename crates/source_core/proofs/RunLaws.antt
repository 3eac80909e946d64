-- One step of a run, by what happens outside.
use Rattle.std.proofs.Common.{◌≡◌, ◌∙◌, ◌⊎◌, ◌+◌, ◌-◌, ◌++◌, ◌∷◌, [], ℕ, Bool, true, false, List, Option, Some, None, ap, append-nil, append_assoc, inl, inr, length, refl, subst, sym}
use Rattle.std.specs.Prelude.{IfSome, Ok, Err}
use Rattle.std.specs.Io.KnownBytes.{IsAtEnd}
use Rattle.std.specs.declared.net.socket_addr.SocketAddr.{SocketAddr}
use Rattle.board_core.specs.declared.moves.Move.{Move as Moves}
use Rattle.board_core.specs.declared.parts.Parts.{Parts}
use Rattle.move_msg.specs.declared.stamp.Stamp.{Stamp}
use Rattle.move_msg.specs.Messages.{message_text}
use Rattle.system_io.specs.LineReaders.{ReadsIfAny, ReadsLine}
use Rattle.system_io.specs.Ports.{Passing}
use Rattle.system_io.specs.declared.reading.ReadFault.{ReadFault}
use Rattle.system_io.specs.declared.reading.ReadFault.TheVariants as fault
use Rattle.system_io.specs.declared.recipient.Recipient.{Recipient}
use Rattle.timeline.specs.Events.{Event, LineRead, Passes, has_line_feed, line_event, sent_to_each}
use Rattle.source_core.specs.Heard.{Happened, Moment, heard, sender_after}
use Rattle.source_core.specs.Inside.Courses.{ClosesWith, CourseAt, StandsWhere, StepsFrom, TakesLine, TakesStep}
use Rattle.source_core.specs.Inside.Exchanges.{EndsTry}
use Rattle.source_core.specs.Inside.Steps.{IsPlayedLine, StandsAtInputEnd, end_by, no_cause}
use Rattle.source_core.specs.Lines.{acked_words}
use Rattle.source_core.specs.Reports.{Knows}
use Rattle.source_core.specs.Runs.{AreTriesOf, EndsRun, InputEnds, IsLastSent, LastSent, NoLine, NotSent, RunState, SourceTerms, datagram_of, gone_out, sends_in, sent_again, unread_end}
use Rattle.source_core.specs.Sendings.{ClosesSo, IsRefusedLine, IsSentLast, last_of}
use Rattle.source_core.specs.Tries.{SendsMove, heard_all, tries_events, try_events}
use Rattle.source_core.specs.Turns.{ComesTo, HasSpelling, HasWaited, TurnEndsSo, move_message}
use Rattle.source_core.specs.declared.known.Clash.{Clash}
use Rattle.source_core.specs.declared.known.Known.{Known}
use Rattle.source_core.specs.declared.lines.End.{End}
use Rattle.source_core.specs.declared.lines.End.TheVariants as at_end
use Rattle.source_core.specs.declared.turn.Next.{Next}
use Rattle.source_core.specs.declared.turn.Next.TheVariants as next
use Rattle.source_core.specs.declared.turn.SendConfig.{SendConfig}
use Rattle.source_core.specs.declared.turn.Turn.{Turn}
use Rattle.source_core.specs.declared.turn.Turn.TheVariants as at_turn
use Rattle.source_core.proofs.HeardLaws.{happened_more, heard-append, sent_unheard}
use Rattle.source_core.proofs.SendingLaws.{has_waited, not_closed, not_refused}

-- ---- what is heard of a move

heard_try : (sender : Option SocketAddr) (to : List Recipient) (bytes : List ℕ) (came : List Event) → heard (try_events sender to bytes came) ≡ heard came
heard_try sender to bytes came = heard-append (sent_to_each sender to bytes) came ∙ ap (λ l. l ++ heard came) (sent_unheard sender to bytes)

pub heard_tries : (sender : Option SocketAddr) (to : List Recipient) (bytes : List ℕ) (tries : List (List Event)) → heard (tries_events sender to bytes tries) ≡ heard_all tries
heard_tries sender to bytes [] = refl
heard_tries sender to bytes (came ∷ tries) =
    let one : List Event = try_events sender to bytes came in
    let rest : List Event = tries_events (sender_after sender one) to bytes tries in
    heard-append one rest ∙ ap (λ l. l ++ heard rest) (heard_try sender to bytes came) ∙ ap (λ l. heard came ++ l) (heard_tries (sender_after sender one) to bytes tries)

-- behind all that was heard before
heard_sent : (g : SourceTerms) (at : RunState) (m : Moves) (tries : List (List Event)) (read : Event) → heard (read ∷ []) ≡ [] → heard (at.events ++ (read ∷ sends_in g at m tries)) ≡ heard at.events ++ heard_all tries
heard_sent g at m tries read unheard =
    heard-append at.events (read ∷ sends_in g at m tries)
    ∙ ap (λ l. heard at.events ++ l) (heard-append (read ∷ []) (sends_in g at m tries) ∙ ap (λ l. l ++ heard (sends_in g at m tries)) unheard ∙ heard_tries (sender_after g.sender at.events) g.to (datagram_of g at.moves m) tries)

heard_turn : (g : SourceTerms) (at : RunState) (m : Moves) (tries : List (List Event)) (read : Event) (words : List ℕ) → heard (read ∷ []) ≡ [] → heard (at.events ++ ((read ∷ sends_in g at m tries) ++ gone_out words)) ≡ heard at.events ++ heard_all tries
heard_turn g at m tries read words unheard =
    let sent : List Event = read ∷ sends_in g at m tries in
    ap heard (sym (append_assoc at.events sent (gone_out words)))
    ∙ heard-append (at.events ++ sent) (gone_out words)
    ∙ append-nil (heard (at.events ++ sent))
    ∙ heard_sent g at m tries read unheard

-- of the last move once more, and of what came then
again_unheard : (sender : Option SocketAddr) (to : List Recipient) (stamp : Stamp) (number : ℕ) (last : Option Moves) → heard (sent_again sender to stamp number last) ≡ []
again_unheard sender to stamp number None = refl
again_unheard sender to stamp number (Some m) = sent_unheard sender to (message_text (move_message stamp number m))

pub heard_again : (g : SourceTerms) (at : RunState) (rest : List Event) (had_come : Bool) (came : List Event) → rest ≡ sent_again (sender_after g.sender at.events) g.to g.terms.stamp (length at.moves - 1) (last_of at.moves) ++ came
    → heard (at.events ++ (LineRead (Ok None) had_come ∷ rest)) ≡ heard at.events ++ heard came
heard_again g at rest had_come came is =
    let again : List Event = sent_again (sender_after g.sender at.events) g.to g.terms.stamp (length at.moves - 1) (last_of at.moves) in
    heard-append at.events (LineRead (Ok None) had_come ∷ rest)
    ∙ ap (λ l. heard at.events ++ heard l) is
    ∙ ap (λ l. heard at.events ++ l) (heard-append again came ∙ ap (λ l. l ++ heard came) (again_unheard (sender_after g.sender at.events) g.to g.terms.stamp (length at.moves - 1) (last_of at.moves)))

-- ---- a line that was read

module _ (g : SourceTerms) (at : RunState) (line : List ℕ) (had_come : Bool) (input : Option (List ℕ)) (after : Parts) (m : Moves) (old now new : Moment) (known known' : Known) (turn : Turn) (tries : List (List Event))
    (read : ReadsLine at.input input line) (played : IsPlayedLine g.terms.notation at.position (length at.moves) line m after) (sends : SendsMove g.terms (length at.moves) m (length at.moves + 1) after now new known known' turn tries)
    (knows : Knows g.terms.stamp (heard at.events) known) (to : old.to ≡ g.to) (sender : old.sender ≡ sender_after g.sender at.events) (first : Happened old now (LineRead (Ok (Some line)) had_come ∷ [])) where
  are_tries : AreTriesOf g at tries
  are_tries = record { few = sends.few; hearing = sends.hearing; again = sends.again; waited = sends.waited (heard at.events) knows }

  all_sent : Happened old new (LineRead (Ok (Some line)) had_come ∷ sends_in g at m tries)
  all_sent =
      let text : List ℕ = datagram_of g at.moves m in
      let its : Happened now new (tries_events (sender_after g.sender at.events) g.to text tries) = subst (λ s. Happened now new (tries_events s g.to text tries)) (first.sender ∙ sender) (subst (λ r. Happened now new (tries_events now.sender r text tries)) (first.to ∙ to) sends.happened) in
      happened_more old now new (LineRead (Ok (Some line)) had_come ∷ []) (sends_in g at m tries) first its

  last_sent : IsLastSent g at (m ∷ []) (LineRead (Ok (Some line)) had_come ∷ sends_in g at m tries)
  last_sent = record { line = line; had_come = had_come; move = m; tries = tries; input = input; after = after; read = read; spelled = played.spelled; legal = played.legal; room = played.room; spelling = sends.spelling; are = are_tries; only = refl; happened = refl }

  -- how it ended, by all that was heard
  ends_so : TurnEndsSo g.terms.origin g.terms.stamp (length at.moves) (length at.moves + 1) after (heard (at.events ++ (LineRead (Ok (Some line)) had_come ∷ sends_in g at m tries))) known' turn
  ends_so = subst (λ l. TurnEndsSo g.terms.origin g.terms.stamp (length at.moves) (length at.moves + 1) after l known' turn) (sym (heard_sent g at m tries (LineRead (Ok (Some line)) had_come) refl)) (sends.ends (heard at.events) knows)

  ends_behind : TurnEndsSo g.terms.origin g.terms.stamp (length at.moves) (length at.moves + 1) after (heard (at.events ++ ((LineRead (Ok (Some line)) had_come ∷ sends_in g at m tries) ++ gone_out (acked_words (length at.moves + 1))))) known' turn
  ends_behind = subst (λ l. TurnEndsSo g.terms.origin g.terms.stamp (length at.moves) (length at.moves + 1) after l known' turn) (sym (heard_turn g at m tries (LineRead (Ok (Some line)) had_come) (acked_words (length at.moves + 1)) refl)) (sends.ends (heard at.events) knows)

-- a move was acknowledged
turn_acked : (g : SourceTerms) (at : RunState) (line : List ℕ) (had_come : Bool) (input : Option (List ℕ)) (after : Parts) (m : Moves) (old now new : Moment) (known known' : Known) (tries : List (List Event))
    → ReadsLine at.input input line → IsPlayedLine g.terms.notation at.position (length at.moves) line m after → SendsMove g.terms (length at.moves) m (length at.moves + 1) after now new known known' at_turn.Acked tries
    → Knows g.terms.stamp (heard at.events) known → old.to ≡ g.to → old.sender ≡ sender_after g.sender at.events → Happened old now (LineRead (Ok (Some line)) had_come ∷ [])
    → (cause : ReadFault → Type 0) → TakesStep cause g at input old (record { position = after; last = Some m; known = known'; at = new }) None
unfolding TakesStep
turn_acked g at line had_come input after m old now new known known' tries read played sends knows to sender first cause =
    let done = ends_behind g at line had_come input after m old now new known known' at_turn.Acked tries read played sends knows to sender first in
    let sent : List Event = LineRead (Ok (Some line)) had_come ∷ sends_in g at m tries in (
      record { line = line; had_come = had_come; move = m; tries = tries; after = record { input = input; position = after; moves = at.moves ++ m ∷ []; events = at.events ++ (sent ++ gone_out (acked_words (length at.moves + 1))) } },
      record { read = read; spelled = played.spelled; legal = played.legal; room = played.room; spelling = sends.spelling; tries = are_tries g at line had_come input after m old now new known known' at_turn.Acked tries read played sends knows to sender first; moves = refl; events = refl; acked = done.0; own = done.2 },
      refl,
      refl,
      refl,
      all_sent g at line had_come input after m old now new known known' at_turn.Acked tries read played sends knows to sender first,
      done.1,
    )

-- the run ends by it
turn_last : (g : SourceTerms) (at : RunState) (line : List ℕ) (had_come : Bool) (input : Option (List ℕ)) (after : Parts) (m : Moves) (old now new : Moment) (known known' : Known) (turn : Turn) (tries : List (List Event))
    → ReadsLine at.input input line → IsPlayedLine g.terms.notation at.position (length at.moves) line m after → SendsMove g.terms (length at.moves) m (length at.moves + 1) after now new known known' turn tries
    → Knows g.terms.stamp (heard at.events) known → old.to ≡ g.to → old.sender ≡ sender_after g.sender at.events → Happened old now (LineRead (Ok (Some line)) had_come ∷ [])
    → (cause : ReadFault → Type 0) (end : End) → ((all : List Passing) → TurnEndsSo g.terms.origin g.terms.stamp (length at.moves) (length at.moves + 1) after all known' turn → IsSentLast g.terms.origin g.terms.stamp (length at.moves) after all end)
    → (end ≡ at_end.Lost → turn ≡ at_turn.Lost) → (end ≡ at_end.Lost → (all : List Passing) → TurnEndsSo g.terms.origin g.terms.stamp (length at.moves) (length at.moves + 1) after all known' turn → Knows g.terms.stamp all known')
    → TakesStep cause g at input old (record { position = after; last = Some m; known = known'; at = new }) (Some end)
unfolding TakesStep last_sent
turn_last g at line had_come input after m old now new known known' turn tries read played sends knows to sender first cause end so lost known_so =
    let done = ends_so g at line had_come input after m old now new known known' turn tries read played sends knows to sender first in
    let sent : List Event = LineRead (Ok (Some line)) had_come ∷ sends_in g at m tries in (
      m ∷ [],
      sent,
      LastSent (last_sent g at line had_come input after m old now new known known' turn tries read played sends knows to sender first) (so (heard (at.events ++ sent)) done) (λ e. sends.lost (lost e)),
      all_sent g at line had_come input after m old now new known known' turn tries read played sends knows to sender first,
      λ e. known_so e (heard (at.events ++ sent)) done,
    )

-- a turn ends the run, or the run goes on
turned_so : (g : SourceTerms) (at : RunState) (line : List ℕ) (had_come : Bool) (input : Option (List ℕ)) (after : Parts) (m : Moves) (old now new : Moment) (known known' : Known) (turn : Turn) (tries : List (List Event))
    → ReadsLine at.input input line → IsPlayedLine g.terms.notation at.position (length at.moves) line m after → SendsMove g.terms (length at.moves) m (length at.moves + 1) after now new known known' turn tries
    → Knows g.terms.stamp (heard at.events) known → old.to ≡ g.to → old.sender ≡ sender_after g.sender at.events → Happened old now (LineRead (Ok (Some line)) had_come ∷ [])
    → (cause : ReadFault → Type 0) → TakesStep cause g at input old (record { position = after; last = Some m; known = known'; at = new }) (end_by turn)
turned_so g at line had_come input after m old now new known known' at_turn.Acked tries read played sends knows to sender first cause = turn_acked g at line had_come input after m old now new known known' tries read played sends knows to sender first cause
turned_so g at line had_come input after m old now new known known' (at_turn.Ruled r) tries read played sends knows to sender first cause =
    turn_last g at line had_come input after m old now new known known' (at_turn.Ruled r) tries read played sends knows to sender first cause (at_end.Ruled r) (λ all h. h) (λ e. absurd (let x : at_end.Ruled r ≡ at_end.Lost = e in cc)) (λ e. absurd (let x : at_end.Ruled r ≡ at_end.Lost = e in cc))
turned_so g at line had_come input after m old now new known known' (at_turn.Clashed c) tries read played sends knows to sender first cause =
    turn_last g at line had_come input after m old now new known known' (at_turn.Clashed c) tries read played sends knows to sender first cause (at_end.Clashed c) (λ all h. h) (λ e. absurd (let x : at_end.Clashed c ≡ at_end.Lost = e in cc)) (λ e. absurd (let x : at_end.Clashed c ≡ at_end.Lost = e in cc))
turned_so g at line had_come input after m old now new known known' (at_turn.Started s) tries read played sends knows to sender first cause =
    turn_last g at line had_come input after m old now new known known' (at_turn.Started s) tries read played sends knows to sender first cause (at_end.Started s) (λ all h. h) (λ e. absurd (let x : at_end.Started s ≡ at_end.Lost = e in cc)) (λ e. absurd (let x : at_end.Started s ≡ at_end.Lost = e in cc))
turned_so g at line had_come input after m old now new known known' (at_turn.Belied r) tries read played sends knows to sender first cause =
    turn_last g at line had_come input after m old now new known known' (at_turn.Belied r) tries read played sends knows to sender first cause (at_end.Belied r) (λ all h. h) (λ e. absurd (let x : at_end.Belied r ≡ at_end.Lost = e in cc)) (λ e. absurd (let x : at_end.Belied r ≡ at_end.Lost = e in cc))
turned_so g at line had_come input after m old now new known known' at_turn.Lost tries read played sends knows to sender first cause =
    turn_last g at line had_come input after m old now new known known' at_turn.Lost tries read played sends knows to sender first cause at_end.Lost (λ all h. (h.0, h.2)) (λ e. refl) (λ e all h. h.1)
turned_so g at line had_come input after m old now new known known' at_turn.PortLost tries read played sends knows to sender first cause =
    turn_last g at line had_come input after m old now new known known' at_turn.PortLost tries read played sends knows to sender first cause at_end.PortLost (λ all h. h) (λ e. absurd (let x : at_end.PortLost ≡ at_end.Lost = e in cc)) (λ e. absurd (let x : at_end.PortLost ≡ at_end.Lost = e in cc))

-- the move of a line was sent
pub line_sent : (terms : SendConfig) (number : ℕ) (line : List ℕ) (c c' : CourseAt) (after : Parts) (m : Moves) (turn : Turn) (o : Option End) → c'.position ≡ after → c'.last ≡ Some m → IsPlayedLine terms.notation c.position number line m after
    → (tries : List (List Event)) × SendsMove terms number m (number + 1) after c.at c'.at c.known c'.known turn tries → o ≡ end_by turn → TakesLine terms number line c c' o
line_sent terms number line c c' after m turn o position last played (tries, sends) is left left' had_come old read first g at same from w =
    let its_read : ReadsLine at.input left' line = subst (λ i. ReadsLine i left' line) (sym from) read in
    let its_played : IsPlayedLine g.terms.notation at.position (length at.moves) line m after =
    subst (λ (t : SendConfig). IsPlayedLine t.notation at.position (length at.moves) line m after) (sym same)
    (subst (λ p. IsPlayedLine terms.notation p (length at.moves) line m after) (sym w.position)
    (subst (λ n. IsPlayedLine terms.notation c.position n line m after) w.count played)) in
    let its_sends : SendsMove g.terms (length at.moves) m (length at.moves + 1) after c.at c'.at c.known c'.known turn tries =
    subst (λ (t : SendConfig). SendsMove t (length at.moves) m (length at.moves + 1) after c.at c'.at c.known c'.known turn tries) (sym same)
    (subst (λ n. SendsMove terms n m (n + 1) after c.at c'.at c.known c'.known turn tries) w.count sends) in
    let steps : TakesStep no_cause g at left' old (record { position = after; last = Some m; known = c'.known; at = c'.at }) (end_by turn) = turned_so g at line had_come left' after m old c.at c'.at c.known c'.known turn tries its_read its_played its_sends w.knows w.to w.sender first no_cause in
    subst (TakesStep no_cause g at left' old c') (sym is)
    (subst (λ p. TakesStep no_cause g at left' old (record { position = p; last = c'.last; known = c'.known; at = c'.at }) (end_by turn)) (sym position)
    (subst (λ l. TakesStep no_cause g at left' old (record { position = after; last = l; known = c'.known; at = c'.at }) (end_by turn)) (sym last) steps))

-- it wasn't
pub line_refused : (terms : SendConfig) (number : ℕ) (line : List ℕ) (c : CourseAt) (end : End) → IsRefusedLine terms.notation c.position number line end → TakesLine terms number line c c (Some end)
unfolding TakesStep
line_refused terms number line c end h left left' had_come old read first g at same from w =
    let its_read : ReadsLine at.input left' line = subst (λ i. ReadsLine i left' line) (sym from) read in
    let refused : IsRefusedLine g.terms.notation at.position (length at.moves) line end =
    subst (λ (t : SendConfig). IsRefusedLine t.notation at.position (length at.moves) line end) (sym same)
    (subst (λ p. IsRefusedLine terms.notation p (length at.moves) line end) (sym w.position)
    (subst (λ n. IsRefusedLine terms.notation c.position n line end) w.count h)) in
    ([], LineRead (Ok (Some line)) had_come ∷ [], NotSent line had_come left' its_read refused refl refl, first, λ is. absurd (not_refused terms.notation c.position number line end h is))

-- ---- the next line

-- the same for other causes
pub still_ends : (U V : ReadFault → Type 0) (g : SourceTerms) (at : RunState) (sent : List Moves) (more : List Event) (end : End) → ((why : ReadFault) → U why → V why) → EndsRun U g at sent more end → EndsRun V g at sent more end
still_ends U V g at sent more end f (NoLine why had_come h is none e) = NoLine why had_come (f why h) is none e
still_ends U V g at sent more end f (NotSent line had_come input read h none e) = NotSent line had_come input read h none e
still_ends U V g at sent more end f (InputEnds had_come rest done closes none e) = InputEnds had_come rest done closes none e
still_ends U V g at sent more end f (LastSent last is all) = LastSent last is all

pub still_step : (U V : ReadFault → Type 0) (g : SourceTerms) (at : RunState) (input : Option (List ℕ)) (old : Moment) (c : CourseAt) (o : Option End) → ((why : ReadFault) → U why → V why) → TakesStep U g at input old c o → TakesStep V g at input old c o
unfolding TakesStep
still_step U V g at input old c None f h = h
still_step U V g at input old c (Some end) f (sent, more, ends, happened, knows) = (sent, more, still_ends U V g at sent more end f ends, happened, knows)

-- where the code stands at another moment
stands_then : (g : SourceTerms) (at : RunState) (number : ℕ) (c d : CourseAt) (now : Moment) → c.position ≡ d.position → c.last ≡ d.last → c.known ≡ d.known → StandsWhere g at number c now → StandsWhere g at number d now
stands_then g at number c d now position last known w = record { position = w.position ∙ position; knows = subst (Knows g.terms.stamp (heard at.events)) known w.knows; count = w.count; last = sym last ∙ w.last; to = w.to; sender = w.sender }

pub line_taken : (cause : ReadFault → Type 0) (terms : SendConfig) (number : ℕ) (line : List ℕ) (had_come : Bool) (left left' : Option (List ℕ)) (c d c' : CourseAt) (o : Option End) → c.position ≡ d.position → c.last ≡ d.last → c.known ≡ d.known
    → ReadsLine left left' line → Happened c.at d.at (LineRead (Ok (Some line)) had_come ∷ []) → TakesLine terms number line d c' o → StepsFrom cause terms number left left' c.at c c' o
line_taken cause terms number line had_come left left' c d c' o position last known read first h g at same from w =
    still_step no_cause cause g at left' c.at c' o (λ why none. absurd none) (h left left' had_come c.at read first g at same from (stands_then g at number c d c.at position last known w))

pub not_read : (cause : ReadFault → Type 0) (terms : SendConfig) (number : ℕ) (why : ReadFault) (had_come : Bool) (left left' : Option (List ℕ)) (c c' : CourseAt) → cause why → Happened c.at c'.at (LineRead (Err why) had_come ∷ []) → StepsFrom cause terms number left left' c.at c c' (Some (unread_end why))
unfolding TakesStep
not_read cause terms number why had_come left left' c c' h first g at same from w = ([], LineRead (Err why) had_come ∷ [], NoLine why had_come h refl refl refl, first, λ is. absurd (never why is))
  where
    never : (f : ReadFault) → unread_end f ≡ at_end.Lost → ⊥
    never fault.Unreadable e = let x : at_end.Unread ≡ at_end.Lost = e in cc
    never fault.OutOfMemory e = let x : at_end.OutOfMemory ≡ at_end.Lost = e in cc

-- ---- after the input's end

pub input_ended : (cause : ReadFault → Type 0) (terms : SendConfig) (number : ℕ) (had_come : Bool) (left left' : Option (List ℕ)) (c d c' : CourseAt) (end : End) → c.position ≡ d.position → c.last ≡ d.last → c.known ≡ d.known
    → IsAtEnd left → Happened c.at d.at (LineRead (Ok None) had_come ∷ []) → ClosesWith terms number d c' end → StepsFrom cause terms number left left' c.at c c' (Some end)
unfolding TakesStep
input_ended cause terms number had_come left left' c d c' end position last known done first h g at same from w =
    let s : StandsWhere g at number d c.at = stands_then g at number c d c.at position last known w in
    let closes : ClosesWith g.terms (length at.moves) d c' end = subst (λ (t : SendConfig). ClosesWith t (length at.moves) d c' end) (sym same) (subst (λ n. ClosesWith terms n d c' end) s.count h) in
    let again : List Event = sent_again (sender_after g.sender at.events) g.to g.terms.stamp (length at.moves - 1) (last_of at.moves) in
    let by_last : Happened d.at c'.at (sent_again d.at.sender d.at.to g.terms.stamp (length at.moves - 1) (last_of at.moves) ++ closes.came) = subst (λ l. Happened d.at c'.at (sent_again d.at.sender d.at.to g.terms.stamp (length at.moves - 1) l ++ closes.came)) s.last closes.happened in
    let its : Happened d.at c'.at (again ++ closes.came) =
    subst (λ (x : Option SocketAddr). Happened d.at c'.at (sent_again x g.to g.terms.stamp (length at.moves - 1) (last_of at.moves) ++ closes.came)) (first.sender ∙ s.sender)
    (subst (λ (r : List Recipient). Happened d.at c'.at (sent_again d.at.sender r g.terms.stamp (length at.moves - 1) (last_of at.moves) ++ closes.came)) (first.to ∙ s.to) by_last) in
    let stands : ClosesSo g.terms.origin g.terms.stamp (length at.moves) at.position (heard at.events ++ heard closes.came) end = subst (λ p. ClosesSo g.terms.origin g.terms.stamp (length at.moves) p (heard at.events ++ heard closes.came) end) (sym s.position) (closes.stands (heard at.events) s.knows) in (
      [],
      LineRead (Ok None) had_come ∷ (again ++ closes.came),
      InputEnds had_come (again ++ closes.came) (subst IsAtEnd (sym from) done) (record {
        came = closes.came;
        spelling = subst (λ l. IfSome l (HasSpelling g.terms.stamp (length at.moves - 1))) s.last closes.spelling;
        happened = refl;
        hearing = closes.hearing;
        waits = closes.waits (heard at.events) s.knows;
        waited = closes.waited;
        stands = stands;
      }) refl refl,
      happened_more c.at d.at c'.at (LineRead (Ok None) had_come ∷ []) (again ++ closes.came) first its,
      λ is. absurd (not_closed g.terms.origin g.terms.stamp (length at.moves) at.position (heard at.events ++ heard closes.came) end stands is),
    )

-- the last move was sent once more
record HasSentAgain (stamp : Stamp) (number : ℕ) (last : Option Moves) (a b : Moment) : Type 0 where
  pub spelling : IfSome last (HasSpelling stamp number)
  pub happened : Happened a b (sent_again a.sender a.to stamp number last)

has_again : (stamp : Stamp) (n number : ℕ) (last : Option Moves) (a b : Moment) → n ≡ number → IfSome last (HasSpelling stamp n) → Happened a b (sent_again a.sender a.to stamp n last) → HasSentAgain stamp number last a b
has_again stamp n number last a b e spelling happened = subst (λ k. HasSentAgain stamp k last a b) e (record { spelling = spelling; happened = happened })

closed_so : (terms : SendConfig) (number : ℕ) (c c' : CourseAt) (mid : Moment) (known : Known) (end : Next) (h : EndsTry terms 0 number mid c'.at known c'.known end) → known ≡ c.known → HasSentAgain terms.stamp (number - 1) c.last c.at mid
    → (so_ends : End) → ((count : ℕ) → so_ends ≡ at_end.Open count → HasWaited (heard h.came)) → ((all : List Passing) → ComesTo terms.stamp all c'.known end → ClosesSo terms.origin terms.stamp number c.position all so_ends) → ClosesWith terms number c c' so_ends
closed_so terms number c c' mid known end h same sent so_ends waits so =
    let still : (before : List Passing) → Knows terms.stamp before c.known → Knows terms.stamp before known = λ before k. subst (Knows terms.stamp before) (sym same) k in record {
      came = h.came;
      spelling = sent.spelling;
      hearing = h.hearing;
      happened = happened_more c.at mid c'.at (sent_again c.at.sender c.at.to terms.stamp (number - 1) c.last) h.came sent.happened h.happened;
      waits = λ before k. h.waited before (still before k);
      waited = waits;
      stands = λ before k. so (before ++ heard h.came) (h.learns before (still before k));
    }

try_waiting : (terms : SendConfig) (index number : ℕ) (a b : Moment) (old new : Known) (end : Next) → (end ≡ next.GoesOn) ⊎ (end ≡ next.Waited) → EndsTry terms index number a b old new end → EndsTry terms index number a b old new next.Waited
try_waiting terms index number a b old new end (inl e) h = let never = subst (EndsTry terms index number a b old new) e h in absurd never.waits
try_waiting terms index number a b old new end (inr e) h = subst (EndsTry terms index number a b old new) e h

pub closed_waited : (terms : SendConfig) (n number : ℕ) (c c' : CourseAt) (mid : Moment) (known : Known) (next' : Next) (end : End) → n ≡ number - 1 → IfSome c.last (HasSpelling terms.stamp n) → Happened c.at mid (sent_again c.at.sender c.at.to terms.stamp n c.last) → known ≡ c.known
    → (next' ≡ next.GoesOn) ⊎ (next' ≡ next.Waited) → EndsTry terms 0 number mid c'.at known c'.known next' → StandsAtInputEnd terms.origin number c.position c'.known end → ClosesWith terms number c c' end
closed_waited terms n number c c' mid known next' end e spelling sent same is tried ends =
    let h = try_waiting terms 0 number mid c'.at known c'.known next' is tried in
    closed_so terms number c c' mid known next.Waited h same (has_again terms.stamp n (number - 1) c.last c.at mid e spelling sent) end (λ count is_open. has_waited (heard h.came) c'.known (ends.0 count is_open) h.waits) (λ all k. ends.1 terms.stamp all k)

pub closed_clashed : (terms : SendConfig) (n number : ℕ) (c c' : CourseAt) (mid : Moment) (known : Known) (clash : Clash) → n ≡ number - 1 → IfSome c.last (HasSpelling terms.stamp n) → Happened c.at mid (sent_again c.at.sender c.at.to terms.stamp n c.last) → known ≡ c.known
    → EndsTry terms 0 number mid c'.at known c'.known (next.Clashed clash) → ClosesWith terms number c c' (at_end.Clashed clash)
closed_clashed terms n number c c' mid known clash e spelling sent same h = closed_so terms number c c' mid known (next.Clashed clash) h same (has_again terms.stamp n (number - 1) c.last c.at mid e spelling sent) (at_end.Clashed clash) (λ count is. cc) (λ all k. k)

pub closed_missed : (terms : SendConfig) (n number : ℕ) (c c' : CourseAt) (mid : Moment) (known : Known) → n ≡ number - 1 → IfSome c.last (HasSpelling terms.stamp n) → Happened c.at mid (sent_again c.at.sender c.at.to terms.stamp n c.last) → known ≡ c.known
    → EndsTry terms 0 number mid c'.at known c'.known next.PortLost → ClosesWith terms number c c' at_end.PortLost
closed_missed terms n number c c' mid known e spelling sent same h = closed_so terms number c c' mid known next.PortLost h same (has_again terms.stamp n (number - 1) c.last c.at mid e spelling sent) at_end.PortLost (λ count is. cc) (λ all k. k)

-- ---- what was read

pub step_line : (cause : ReadFault → Type 0) (terms : SendConfig) (number : ℕ) (is : Bool) (line line' ahead : List ℕ) (left left' : Option (List ℕ)) (position : Parts) (last : Option Moves) (known : Known) (e0 e1 : Option (List Event)) (to : List Recipient) (sender : Option SocketAddr) (c' : CourseAt) (o : Option End)
    → is ≡ true → line' ≡ line → ReadsIfAny left left' line is → Passes e0 e1 (line_event (Ok is) line ahead ∷ []) → TakesLine terms number line' (record { position = position; last = last; known = known; at = record { events = e1; to = to; sender = sender } }) c' o
    → StepsFrom cause terms number left left' (record { events = e0; to = to; sender = sender }) (record { position = position; last = last; known = known; at = record { events = e0; to = to; sender = sender } }) c' o
step_line cause terms number is line line' ahead left left' position last known e0 e1 to sender c' o came_so same read made h =
    let c : CourseAt = record { position = position; last = last; known = known; at = record { events = e0; to = to; sender = sender } } in
    let d : CourseAt = record { position = position; last = last; known = known; at = record { events = e1; to = to; sender = sender } } in
    let its : TakesLine terms number line d c' o = subst (λ l. TakesLine terms number l d c' o) same h in
    let came : Passes e0 e1 (LineRead (Ok (Some line)) (has_line_feed ahead) ∷ []) = subst (λ b. Passes e0 e1 (line_event (Ok b) line ahead ∷ [])) came_so made in
    line_taken cause terms number line (has_line_feed ahead) left left' c d c' o refl refl refl (subst (ReadsIfAny left left' line) came_so read) (record { passes = came; to = refl; sender = refl }) its

pub step_end : (cause : ReadFault → Type 0) (terms : SendConfig) (number n : ℕ) (is : Bool) (line ahead : List ℕ) (left left' : Option (List ℕ)) (position : Parts) (last : Option Moves) (known : Known) (e0 e1 : Option (List Event)) (to : List Recipient) (sender : Option SocketAddr) (c' : CourseAt) (end : End)
    → is ≡ false → n ≡ number → ReadsIfAny left left' line is → Passes e0 e1 (line_event (Ok is) line ahead ∷ []) → ClosesWith terms n (record { position = position; last = last; known = known; at = record { events = e1; to = to; sender = sender } }) c' end
    → StepsFrom cause terms number left left' (record { events = e0; to = to; sender = sender }) (record { position = position; last = last; known = known; at = record { events = e0; to = to; sender = sender } }) c' (Some end)
step_end cause terms number n is line ahead left left' position last known e0 e1 to sender c' end none same read made h =
    let c : CourseAt = record { position = position; last = last; known = known; at = record { events = e0; to = to; sender = sender } } in
    let d : CourseAt = record { position = position; last = last; known = known; at = record { events = e1; to = to; sender = sender } } in
    let its : ClosesWith terms number d c' end = subst (λ k. ClosesWith terms k d c' end) same h in
    let came : Passes e0 e1 (LineRead (Ok None) (has_line_feed ahead) ∷ []) = subst (λ b. Passes e0 e1 (line_event (Ok b) line ahead ∷ [])) none made in
    let done = subst (ReadsIfAny left left' line) none read in
    input_ended cause terms number (has_line_feed ahead) left left' c d c' end refl refl refl done.0 (record { passes = came; to = refl; sender = refl }) its

pub step_unread : (cause : ReadFault → Type 0) (terms : SendConfig) (number : ℕ) (why : ReadFault) (line ahead : List ℕ) (left left' : Option (List ℕ)) (position : Parts) (last : Option Moves) (known : Known) (e0 e1 : Option (List Event)) (to : List Recipient) (sender : Option SocketAddr)
    → cause why → Passes e0 e1 (line_event (Err why) line ahead ∷ [])
    → StepsFrom cause terms number left left' (record { events = e0; to = to; sender = sender }) (record { position = position; last = last; known = known; at = record { events = e0; to = to; sender = sender } }) (record { position = position; last = last; known = known; at = record { events = e1; to = to; sender = sender } }) (Some (unread_end why))
step_unread cause terms number why line ahead left left' position last known e0 e1 to sender h made =
    let c : CourseAt = record { position = position; last = last; known = known; at = record { events = e0; to = to; sender = sender } } in
    let d : CourseAt = record { position = position; last = last; known = known; at = record { events = e1; to = to; sender = sender } } in
    not_read cause terms number why (has_line_feed ahead) left left' c d h (record { passes = made; to = refl; sender = refl })
