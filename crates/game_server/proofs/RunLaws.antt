-- A round, and a run of them.
use Rattle.std.proofs.Common.{◌≡◌, ◌∙◌, ℕ, Bool, true, false, cond, ◌+◌, ◌-◌, ◌<◌, ◌≤◌, ◌++◌, min, List, [], ◌∷◌, Some, None, length, refl, sym, ap, ap₂, subst, append_assoc, append-nil, arith}
use Rattle.std.specs.Prelude.{Result, Ok, Err, OnOk}
use Rattle.std.specs.List.{AllByRecursion, flat_map}
use Rattle.std.proofs.lemmas.List.Concat.{flat_map-append}
use Rattle.arbiter_server.specs.declared.line.Line.{Line}
use Rattle.system_io.specs.declared.output.WriteFault.{WriteFault}
use Rattle.system_io.specs.declared.recipient.Recipient.{Recipient}
use Rattle.timeline.specs.Events.{Event}
use Rattle.timeline.specs.Outsides.{Adds, AddsSome, Outside}
use Rattle.timeline.proofs.EventLaws.{adds_more, adds_none}
use Rattle.game_server.specs.Printing.{KnowsLines, LineForm, WritesLines, after_lines, form_in}
use Rattle.arbiter_server.specs.declared.fault.Uncommitted.{Uncommitted}
use Rattle.arbiter_server.specs.declared.fault.Uncommitted.TheVariants as uncommitted
use Rattle.arbiter_server.specs.declared.line.Line.TheVariants as line
use Rattle.timeline.specs.Events.{is_done}
use Rattle.game_folder.specs.Holdings.{CommitsGames, GamesFacts}
use Rattle.game_server.specs.Rounds.{Heard, HearsAll, IsRound, IsSpelled, ReceiveFails, Round, RoundEnd, end_events, heard_events, is_loss, lines_of, reply_sent, round_events, round_sent, withheld_line}
use Rattle.game_server.specs.Runs.{Answers, AreWithin, Deed, EndsBy, GoesOnAfter, HearsNone, InTurns, IsTurn, IsWithin, Serves, Turn, came, came_in, deed_lines, run_events, turn_events}
use Rattle.game_server.specs.Seats.{SameSeats}
use Rattle.game_server.specs.Sending.{AllSpelled, address, sent}
use Rattle.game_server.specs.Inside.Running.{AreHeld, AreSpelled, ConcludesRound, EndsTurn, Gathers, IsAfter, TakesTurn, WritesAll, all_sent, held_lines}
use Rattle.game_server.specs.declared.running.AfterRound.{AfterRound}
use Rattle.game_server.specs.declared.running.PortServer.{PortServer}
use Rattle.game_server.specs.declared.seat.Reply.{Reply}
use Rattle.game_server.specs.declared.server.Server.{Server}
use Rattle.game_server.proofs.GatherLaws.{held_count}
use Rattle.game_server.specs.declared.lines.Lines.{Lines}
use Rattle.game_server.specs.declared.replies.Held.{Held}
use Rattle.game_server.specs.declared.running.AfterRound.TheVariants.{GoesOn, Stops}

-- ---- replies go out, and then their lines

module _ {T P F K S L : Type 0} (o : Outside T P F K S L) (before : List (List ℕ)) (to : List Recipient) (is_sent : Bool) (held : List Held) (old new : Lines) (a b c : T) where
  pub concluded : (n : ℕ) → n ≡ length held → (is_sent ≡ true → AreSpelled held) → Adds o a b (cond is_sent (all_sent to held) []) → WritesAll o before old new (held_lines is_sent held) b c (Ok tt) → ConcludesRound o before to is_sent held old new a c (Ok (GoesOn n))
  concluded n count spelled sent written = record {
    spelled = spelled;
    made = (cond is_sent (all_sent to held) [] ++ written.made.0, adds_more o a b c (cond is_sent (all_sent to held) []) written.made.0 sent written.made.1, (written.made.0, refl, written.made.2));
    after = written.after;
    same = written.same;
    goes = ap (λ m. Ok (GoesOn m)) count;
  }

  pub concluded_cut : (fault : WriteFault) → (is_sent ≡ true → AreSpelled held) → Adds o a b (cond is_sent (all_sent to held) []) → WritesAll o before old new (held_lines is_sent held) b c (Err fault) → ConcludesRound o before to is_sent held old new a c (Err fault)
  concluded_cut fault spelled sent written = record {
    spelled = spelled;
    made = (cond is_sent (all_sent to held) [] ++ written.made.0, adds_more o a b c (cond is_sent (all_sent to held) []) written.made.0 sent written.made.1, (written.made.0, refl, written.made.2));
    after = tt;
    same = written.same;
    goes = tt;
  }

-- ---- what was heard, and what is held of it

sent_same : (to : List Recipient) (hs : List Heard) (xs : List Held) → AreHeld hs xs → flat_map (reply_sent to) hs ≡ all_sent to xs
sent_same to [] [] p = refl
sent_same to [] (x ∷ xs) p = absurd p
sent_same to (h ∷ hs) [] p = absurd p
sent_same to (h ∷ hs) (x ∷ xs) p = ap₂ (λ (a b : List Event). a ++ b) (ap₂ (λ from outputs. sent (address from to) outputs) p.1 (ap (λ (r : Reply). r.outputs.items) p.0)) (sent_same to hs xs p.2)

lines_sent : (hs : List Heard) (xs : List Held) → AreHeld hs xs → lines_of hs (Ok tt) ≡ held_lines true xs
lines_sent [] [] p = refl
lines_sent [] (x ∷ xs) p = absurd p
lines_sent (h ∷ hs) [] p = absurd p
lines_sent (h ∷ hs) (x ∷ xs) p = ap₂ (λ (a : Line) (b : List Line). a ∷ b) (ap (λ (r : Reply). r.line) p.0) (lines_sent hs xs p.2)

lines_withheld : (hs : List Heard) (xs : List Held) → AreHeld hs xs → lines_of hs (Err uncommitted.OutOfMemory) ≡ held_lines false xs
lines_withheld [] [] p = refl
lines_withheld [] (x ∷ xs) p = absurd p
lines_withheld (h ∷ hs) [] p = absurd p
lines_withheld (h ∷ hs) (x ∷ xs) p = ap₂ (λ (a : Line) (b : List Line). a ∷ b) (ap (λ (r : Reply). withheld_line r.line) p.0) (lines_withheld hs xs p.2)

spelled_same : (hs : List Heard) (xs : List Held) → AreHeld hs xs → AreSpelled xs → AllByRecursion (λ h. AllSpelled h.reply.outputs.items) hs
spelled_same [] [] p q = tt
spelled_same [] (x ∷ xs) p q = absurd p
spelled_same (h ∷ hs) [] p q = absurd p
spelled_same (h ∷ hs) (x ∷ xs) p q = (subst (λ (r : Reply). AllSpelled r.outputs.items) (sym p.0) q.0, spelled_same hs xs p.2 q.1)

-- ---- a turn

-- a run that stops doesn't go on
never : (r : Result AfterRound WriteFault) (n : ℕ) → OnOk r (r ≡ Ok Stops) → r ≡ Ok (GoesOn n) → ⊥
never (Ok x) n stops is = let e : Ok x ≡ Ok Stops = stops in let f : Ok x ≡ Ok (GoesOn n) = is in cc
never (Err fault) n stops is = let f : Err fault ≡ Ok (GoesOn n) = is in cc

port_ends : (lines : List Event) (r : Result AfterRound WriteFault) → OnOk r (r ≡ Ok Stops) → IsAfter (record { deed = HearsNone; lines = lines; is_out = is_done r }) r
port_ends lines (Ok (GoesOn n)) is = absurd (let e : Ok (GoesOn n) ≡ Ok Stops = is in cc)
port_ends lines (Ok Stops) is = (refl, refl)
port_ends lines (Err fault) is = refl

four_join : (g c s l : List Event) → g ++ (c ++ (s ++ l)) ≡ (g ++ (c ++ s)) ++ l
four_join g c s l = ap (λ (x : List Event). g ++ x) (sym (append_assoc c s l)) ∙ sym (append_assoc g (c ++ s) l)

module _ {T P F K S L G : Type 0} (o : Outside T P F K S L) (facts : GamesFacts G) (before : List (List ℕ)) (most : ℕ) (old new : PortServer G F) (port : P) (mid : Server G F) (a b c d : T) (same : SameSeats mid new.server) (commits : List Event) (its : Adds o b c commits) where
  module _ (held : List Held) (g : AddsSome o a b (Gathers o facts most old.server mid held true)) where
    abbrev pub round_by : Result (Unit {0}) Uncommitted → Round
    round_by committed = record { heard = g.2.heard; end = g.2.end; commits = commits; committed = committed }

    is_round : (committed : Result (Unit {0}) Uncommitted) → CommitsGames facts mid.shared.games new.server.shared.games committed commits → IsSpelled g.2.heard committed → IsRound o facts old.server (round_by committed) new.server
    is_round committed done spelled =
        record { mid = mid; heard = g.2.hears; some = g.2.is.0; commits = done; same = same; spelled = spelled }

    happens : (to : List Recipient) (committed : Result (Unit {0}) Uncommitted) (sends lines : List Event) → Adds o c d (sends ++ lines) → sends ≡ round_sent to g.2.heard committed → Adds o a d (round_events to (round_by committed) ++ lines)
    happens to committed sends lines more is =
        let front : List Event = flat_map heard_events g.2.heard ++ end_events g.2.end in
        subst (Adds o a d) (four_join front commits sends lines ∙ ap (λ (x : List Event). (front ++ (commits ++ x)) ++ lines) is)
        (adds_more o a b d front (commits ++ (sends ++ lines)) (subst (Adds o a b) g.2.events_are g.1) (adds_more o b c d commits (sends ++ lines) its more))

    goes_on : (committed : Result (Unit {0}) Uncommitted) (lines : List Event) (r : Result AfterRound WriteFault) → is_loss committed ≡ false → OnOk r (r ≡ Ok (GoesOn (length held)))
        → IsAfter (record { deed = Answers (round_by committed); lines = lines; is_out = is_done r }) r
    goes_on committed lines (Ok (GoesOn n)) kept is = (kept, refl, let count = held_count g.2.heard held g.2.are_held in let n_is : n ≡ length held = (let e : Ok (GoesOn n) ≡ Ok (GoesOn (length held)) = is in cc) in omega (arith, count, n_is))
    goes_on committed lines (Ok Stops) kept is = absurd (let e : Ok Stops ≡ Ok (GoesOn (length held)) = is in cc)
    goes_on committed lines (Err fault) kept is = refl

    -- its replies were sent or withheld
    answered : (committed : Result (Unit {0}) Uncommitted) (is_sent : Bool) (r : Result AfterRound WriteFault) → is_loss committed ≡ false → lines_of g.2.heard committed ≡ held_lines is_sent held → cond is_sent (all_sent (o.port port).to held) [] ≡ round_sent (o.port port).to g.2.heard committed
        → IsSpelled g.2.heard committed → CommitsGames facts mid.shared.games new.server.shared.games committed commits → ConcludesRound o before (o.port port).to is_sent held old.lines new.lines c d r → TakesTurn o facts before most old new port a d r
    answered committed is_sent r kept lines sends spelled done q = record {
      turn = record { deed = Answers (round_by committed); lines = q.made.2.0; is_out = is_done r };
      is = record { deed = is_round committed done spelled; lines = subst (λ (ls : List Line). WritesLines (form_in old.lines) before ls (is_done r) q.made.2.0) (sym lines) q.made.2.2 };
      within = g.2.is.1;
      goes = goes_on committed q.made.2.0 r kept q.goes;
      happens = happens (o.port port).to committed (cond is_sent (all_sent (o.port port).to held) []) q.made.2.0 (subst (Adds o c d) q.made.2.1 q.made.1) sends;
      after = λ is. subst (λ (ls : List Line). KnowsLines new.lines (after_lines before ls)) (sym lines) (subst (λ (x : Result AfterRound WriteFault). OnOk x (KnowsLines new.lines (after_lines before (held_lines is_sent held)))) is q.after);
      same = q.same;
    }

    pub round_sent_on : (r : Result AfterRound WriteFault) → CommitsGames facts {A = Unit {0}} mid.shared.games new.server.shared.games (Ok tt) commits → ConcludesRound o before (o.port port).to true held old.lines new.lines c d r → TakesTurn o facts before most old new port a d r
    round_sent_on r done q =
        answered (Ok tt) true r refl (lines_sent g.2.heard held g.2.are_held) (sym (sent_same (o.port port).to g.2.heard held g.2.are_held)) (spelled_same g.2.heard held g.2.are_held (q.spelled refl)) done q

    pub round_withheld : (r : Result AfterRound WriteFault) → CommitsGames facts {A = Unit {0}} mid.shared.games new.server.shared.games (Err uncommitted.OutOfMemory) commits → ConcludesRound o before (o.port port).to false held old.lines new.lines c d r → TakesTurn o facts before most old new port a d r
    round_withheld r done q = answered (Err uncommitted.OutOfMemory) false r refl (lines_withheld g.2.heard held g.2.are_held) refl tt done q

    ends_so : (committed : Result (Unit {0}) Uncommitted) (lines : List Event) (r : Result AfterRound WriteFault) → is_loss committed ≡ true → OnOk r (r ≡ Ok Stops)
        → IsAfter (record { deed = Answers (round_by committed); lines = lines; is_out = is_done r }) r
    ends_so committed lines (Ok (GoesOn n)) lost is = absurd (let e : Ok (GoesOn n) ≡ Ok Stops = is in cc)
    ends_so committed lines (Ok Stops) lost is = (lost, refl)
    ends_so committed lines (Err fault) lost is = refl

    -- no more can be committed
    dropped : (committed : Result (Unit {0}) Uncommitted) (l : Line) (r : Result AfterRound WriteFault) → is_loss committed ≡ true → l ∷ [] ≡ lines_of g.2.heard committed → [] ≡ round_sent (o.port port).to g.2.heard committed → IsSpelled g.2.heard committed
        → CommitsGames facts mid.shared.games new.server.shared.games committed commits → EndsTurn o before old.lines new.lines l c d r → TakesTurn o facts before most old new port a d r
    dropped committed l r lost lines sends spelled done q = record {
      turn = record { deed = Answers (round_by committed); lines = q.made.0; is_out = is_done r };
      is = record { deed = is_round committed done spelled; lines = subst (λ (ls : List Line). WritesLines (form_in old.lines) before ls (is_done r) q.made.0) lines q.made.2 };
      within = g.2.is.1;
      goes = ends_so committed q.made.0 r lost q.stops;
      happens = happens (o.port port).to committed [] q.made.0 q.made.1 sends;
      after = λ is. absurd (never r (length g.2.heard) q.stops is);
      same = q.same;
    }

    pub store_lost : (r : Result AfterRound WriteFault) → CommitsGames facts {A = Unit {0}} mid.shared.games new.server.shared.games (Err uncommitted.StoreLost) commits → EndsTurn o before old.lines new.lines line.StoreLost c d r → TakesTurn o facts before most old new port a d r
    store_lost r done q = dropped (Err uncommitted.StoreLost) line.StoreLost r refl refl refl tt done q

    pub memory_lost : (r : Result AfterRound WriteFault) → CommitsGames facts {A = Unit {0}} mid.shared.games new.server.shared.games (Err uncommitted.NotNoted) commits → EndsTurn o before old.lines new.lines line.MemoryLost c d r → TakesTurn o facts before most old new port a d r
    memory_lost r done q = dropped (Err uncommitted.NotNoted) line.MemoryLost r refl refl refl tt done q

-- no datagram could be received
nothing_heard : {T P F K S L G : Type 0} (o : Outside T P F K S L) (facts : GamesFacts G) (old new : Server G F) (hs : List Heard) → hs ≡ [] → HearsAll o facts old hs new → new ≡ old
unfolding HearsAll
nothing_heard {F = F} {G = G} o facts old new hs none h = none_so (subst (λ (l : List Heard). HearsAll o facts old l new) none h)
  where
    none_so : HearsAll o facts old [] new → new ≡ old
    none_so e = e

pub port_lost : {T P F K S L G : Type 0} (o : Outside T P F K S L) (facts : GamesFacts G) (before : List (List ℕ)) (most : ℕ) (old new : PortServer G F) (port : P) (held : List Held) (a b c : T) (r : Result AfterRound WriteFault)
    → AddsSome o a b (Gathers o facts most old.server new.server held false) → EndsTurn o before old.lines new.lines line.PortLost b c r → TakesTurn o facts before most old new port a c r
port_lost o facts before most old new port held a b c r g q =
    let missed : g.0 ≡ end_events ReceiveFails = g.2.events_are ∙ ap₂ (λ (hs : List Heard) (e : RoundEnd). flat_map heard_events hs ++ end_events e) g.2.is.0 g.2.is.1 in
    record {
      turn = record { deed = HearsNone; lines = q.made.0; is_out = is_done r };
      is = record { deed = nothing_heard o facts old.server new.server g.2.heard g.2.is.0 g.2.hears; lines = q.made.2 };
      within = tt;
      goes = port_ends q.made.0 r q.stops;
      happens = adds_more o a b c (end_events ReceiveFails) q.made.0 (subst (Adds o a b) missed g.1) q.made.1;
      after = λ is. absurd (never r 0 q.stops is);
      same = q.same;
    }

came_within : (most : ℕ) (deed : Deed) → IsWithin most deed → came_in deed ≤ most
came_within most (Answers round) h = h.few
came_within most HearsNone h = omega arith

-- ---- a run

-- the texts that came before what follows some turns
abbrev pub texts_after : List (List ℕ) → List Turn → List (List ℕ)
texts_after before [] = before
texts_after before (t ∷ ts) = texts_after (after_lines before (deed_lines t.deed)) ts

module _ {T P F K S L G : Type 0} (o : Outside T P F K S L) (facts : GamesFacts G) (most n : ℕ) (form : LineForm) where
  turns_on : (before : List (List ℕ)) (old mid new : Server G F) (ts : List Turn) (t : Turn) → InTurns o facts form before old ts mid → IsTurn o facts form (texts_after before ts) mid t new → InTurns o facts form before old (ts ++ t ∷ []) new
  unfolding InTurns
  turns_on before old mid new [] t p q = (new, subst (λ (s : Server G F). IsTurn o facts form before s t new) p q, refl)
  turns_on before old mid new (x ∷ ts) t p q = (p.0, p.1, turns_on (after_lines before (deed_lines x.deed)) p.0 mid new ts t p.2 q)

  -- so many datagrams were answered, and the run goes on
  pub record HasServed (to : List Recipient) (old new : Server G F) (lines lines' : Lines) (t t' : T) (k : ℕ) : Type 0 where
    pub turns : List Turn
    pub count : came turns ≡ k
    pub going : AllByRecursion GoesOnAfter turns
    pub in_turn : InTurns o facts form [] old turns new
    pub within : AreWithin most n turns
    pub knows : KnowsLines lines' (texts_after [] turns)
    pub same : form_in lines' ≡ form
    pub happens : Adds o t t' (run_events to turns)

  pub none_served : (to : List Recipient) (server : Server G F) (lines : Lines) (t : T) → KnowsLines lines [] → form_in lines ≡ form → HasServed to server server lines lines t t 0
  unfolding InTurns AreWithin
  none_served to server lines t knows same = record { turns = []; count = refl; going = tt; in_turn = refl; within = tt; knows = knows; same = same; happens = adds_none o t }

  texts_join : (before : List (List ℕ)) (ts : List Turn) (t : Turn) → texts_after before (ts ++ t ∷ []) ≡ after_lines (texts_after before ts) (deed_lines t.deed)
  texts_join before [] t = refl
  texts_join before (x ∷ ts) t = texts_join (after_lines before (deed_lines x.deed)) ts t

  came_join : (ts : List Turn) (t : Turn) → came (ts ++ t ∷ []) ≡ came ts + came_in t.deed
  came_join [] t = omega arith
  came_join (x ∷ ts) t = let rest = came_join ts t in omega (arith, rest)

  going_join : (ts : List Turn) (t : Turn) → AllByRecursion GoesOnAfter ts → GoesOnAfter t → AllByRecursion GoesOnAfter (ts ++ t ∷ [])
  going_join [] t p q = (q, tt)
  going_join (x ∷ ts) t p q = (p.0, going_join ts t p.1 q)

  within_join : (left : ℕ) (ts : List Turn) (t : Turn) → AreWithin most left ts → IsWithin (min most (left - came ts)) t.deed → AreWithin most left (ts ++ t ∷ [])
  unfolding AreWithin
  within_join left [] t p q = (subst (λ (m : ℕ). IsWithin (min most m) t.deed) (omega arith) q, tt)
  within_join left (x ∷ ts) t p q = (p.0, within_join (left - came_in x.deed) ts t p.1 (subst (λ (m : ℕ). IsWithin (min most m) t.deed) (omega arith) q))

  run_join : (to : List Recipient) (ts : List Turn) (t : Turn) → run_events to (ts ++ t ∷ []) ≡ run_events to ts ++ turn_events to t
  run_join to ts t = flat_map-append (turn_events to) ts (t ∷ []) ∙ ap (λ (l : List Event). run_events to ts ++ l) (append-nil (turn_events to t))

  module _ (old mid new : PortServer G F) (port port' : P) (a b c : T) (k limit : ℕ) (same : (o.port port').to ≡ (o.port port).to) (limit_is : limit ≡ min most (n - k)) (p : HasServed (o.port port).to old.server mid.server old.lines mid.lines a b k) where
    module _ (r : Result AfterRound WriteFault) (q : (before : List (List ℕ)) → KnowsLines mid.lines before → TakesTurn o facts before limit mid new port' b c r) where
      next : TakesTurn o facts (texts_after [] p.turns) limit mid new port' b c r
      next = q (texts_after [] p.turns) p.knows

      in_turn_on : InTurns o facts form [] old.server (p.turns ++ next.turn ∷ []) new.server
      unfolding next
      in_turn_on = turns_on [] old.server mid.server new.server p.turns next.turn p.in_turn
          (subst (λ (f : LineForm). IsTurn o facts f (texts_after [] p.turns) mid.server next.turn new.server) p.same next.is)

      within_on : AreWithin most n (p.turns ++ next.turn ∷ [])
      unfolding next
      within_on = within_join n p.turns next.turn p.within (subst (λ (m : ℕ). IsWithin m next.turn.deed) (limit_is ∙ ap (λ (m : ℕ). min most (n - m)) (sym p.count)) next.within)

      happens_on : Adds o a c (run_events (o.port port).to (p.turns ++ next.turn ∷ []))
      unfolding next
      happens_on = subst (Adds o a c) (sym (run_join (o.port port).to p.turns next.turn))
          (adds_more o a b c (run_events (o.port port).to p.turns) (turn_events (o.port port).to next.turn) p.happens (subst (λ (to : List Recipient). Adds o b c (turn_events to next.turn)) same next.happens))

    -- one turn more, after which the run goes on
    pub one_served : (r : Result AfterRound WriteFault) (m : ℕ) → r ≡ Ok (GoesOn m) → ((before : List (List ℕ)) → KnowsLines mid.lines before → TakesTurn o facts before limit mid new port' b c r) → HasServed (o.port port).to old.server new.server old.lines new.lines a c (k + m) × (m ≤ limit)
    unfolding next
    one_served r m is q =
        let t = next r q in
        let goes : IsAfter t.turn (Ok (GoesOn m)) = subst (IsAfter t.turn) is t.goes in
        let count = p.count in
        let few = came_within limit t.turn.deed t.within in
        let n_is = goes.2 in
        let joined = came_join p.turns t.turn in (
          record {
            turns = p.turns ++ t.turn ∷ [];
            count = omega (arith, count, n_is, joined);
            going = going_join p.turns t.turn p.going (goes.0, goes.1);
            in_turn = in_turn_on r q;
            within = within_on r q;
            knows = subst (KnowsLines new.lines) (sym (texts_join [] p.turns t.turn)) (t.after (is ∙ ap (λ k. Ok (GoesOn k)) n_is));
            same = t.same ∙ p.same;
            happens = happens_on r q;
          },
          omega (arith, few, n_is),
        )

    -- the last turn
    last_served : (r : Result AfterRound WriteFault) (q : (before : List (List ℕ)) → KnowsLines mid.lines before → TakesTurn o facts before limit mid new port' b c r) (result : Result ℕ WriteFault) → k < n → EndsBy (next r q).turn result
        → Serves o facts most form [] n (o.port port).to old.server new.server a c result
    unfolding next
    last_served r q result more ends =
        let t = next r q in
        let count = p.count in
        record {
          turns = p.turns;
          last = Some t.turn;
          going = p.going;
          in_turn = in_turn_on r q;
          within = within_on r q;
          ends = (omega (arith, count, more), ends);
          happens = happens_on r q;
        }

    pub served_stops : (r : Result AfterRound WriteFault) → k < n → r ≡ Ok Stops → ((before : List (List ℕ)) → KnowsLines mid.lines before → TakesTurn o facts before limit mid new port' b c r) → Serves o facts most form [] n (o.port port).to old.server new.server a c (Ok 1)
    unfolding next
    served_stops r more is q =
        let goes : IsAfter (next r q).turn (Ok Stops) = subst (IsAfter (next r q).turn) is (next r q).goes in
        last_served r q (Ok 1) more (goes.0, goes.1, refl)

    pub served_cut : (r : Result AfterRound WriteFault) (fault : WriteFault) → k < n → r ≡ Err fault → ((before : List (List ℕ)) → KnowsLines mid.lines before → TakesTurn o facts before limit mid new port' b c r) → Serves o facts most form [] n (o.port port).to old.server new.server a c (Err fault)
    unfolding next
    served_cut r fault more is q =
        let goes : IsAfter (next r q).turn (Err fault) = subst (IsAfter (next r q).turn) is (next r q).goes in
        last_served r q (Err fault) more goes

    -- all came
    pub served_all : k ≡ n → Serves o facts most form [] n (o.port port).to old.server mid.server a b (Ok 0)
    served_all all = record { turns = p.turns; last = None; going = p.going; in_turn = p.in_turn; within = p.within; ends = (p.count ∙ all, refl); happens = p.happens }

  -- lines go on as they are written
  pub form_after : (to : List Recipient) (old : Server G F) (lines : Lines) (mid new : PortServer G F) (port' : P) (a b c : T) (k : ℕ) {limit : ℕ} {r : Result AfterRound WriteFault} → HasServed to old mid.server lines mid.lines a b k
      → ((before : List (List ℕ)) → KnowsLines mid.lines before → TakesTurn o facts before limit mid new port' b c r) → form_in new.lines ≡ form
  form_after to old lines mid new port' a b c k p q = (q (texts_after [] p.turns) p.knows).same ∙ p.same
