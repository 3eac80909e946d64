-- What a server sends was earned.
use Rattle.std.proofs.Common.{◌≡◌, ◌∙◌, inl, inr, ℕ, Bool, true, false, ◌++◌, List, [], ◌∷◌, Option, Some, None, refl, sym, ap, subst, append_assoc}
use Rattle.std.specs.Prelude.{Result, Ok, Err, IfSome}
use Rattle.std.specs.List.{AllByRecursion, flat_map}
use Rattle.arbiter_server.specs.Told.{line_words}
use Rattle.arbiter_server.specs.declared.fault.Uncommitted.{Uncommitted}
use Rattle.arbiter_server.specs.declared.line.Line.{Line}
use Rattle.move_msg.specs.TextLines.{ended}
use Rattle.move_msg.specs.declared.message.Message.{Message}
use Rattle.system_io.specs.declared.output.WriteFault.{WriteFault}
use Rattle.system_io.specs.declared.recipient.Recipient.{Recipient}
use Rattle.timeline.specs.Events.{Came, Event, Missed}
use Rattle.timeline.specs.Outsides.{Outside}
use Rattle.game_folder.specs.Holdings.{CommitsGames, GamesFacts, SendsNothing, StaysNoted, known}
use Rattle.game_folder.specs.Places.{Places, WasKept, kept_by}
use Rattle.game_server.specs.Backed.{EachEarned, IsBacked}
use Rattle.game_server.specs.Datagrams.{HearsDatagram}
use Rattle.game_server.specs.Orders.{AcksAreEarned, Earned, EarnsFrom}
use Rattle.game_server.specs.Printing.{LineForm, TextEnd, WasCut, WasStuck, WentOut, WritesLines, after_lines, lines_out, text_events, text_out, written_text}
use Rattle.game_server.specs.Replies.{AreBacked}
use Rattle.game_server.specs.Rounds.{Heard, HearsAll, IsFull, IsRound, IsSpelled, NoMore, ReceiveFails, Round, RoundEnd, end_events, heard_events, reply_sent, round_events, round_sent}
use Rattle.game_server.specs.Runs.{Answers, Deed, HearsNone, InTurns, IsDeed, IsTurn, Serves, Turn, deed_events, deed_lines, run_events, turn_events, with_last}
use Rattle.game_server.specs.Seats.{AreKnown, IsKnownSeat, open_at}
use Rattle.game_server.specs.Sending.{Address, AllSpelled, address, message_sent, sent}
use Rattle.game_server.specs.declared.seat.Seat.{Seat}
use Rattle.game_server.specs.declared.server.Server.{Server}
use Rattle.arbiter_server.specs.Room.{at_stamp}
use Rattle.game_server.proofs.Backing.{backed_later, backed_so, each_join, each_to_each, was_kept_later}
use Rattle.game_server.proofs.Knowing.{known_on, quiet_join, was_kept_after}

-- ---- what sends nothing

pub quiet_earned : (places : Places) (before events : List Event) → SendsNothing events → EachEarned places before events
quiet_earned places before [] quiet = tt
quiet_earned places before (e ∷ es) quiet = ((λ to bytes m is spells. absurd (quiet.0 to bytes is)), quiet_earned places (before ++ e ∷ []) es quiet.1)

text_quiet : (text : List ℕ) (end : TextEnd) → SendsNothing (text_events text end)
text_quiet text WentOut = ((λ to bytes is. cc), ((λ to bytes is. cc), tt))
text_quiet text (WasCut n) = ((λ to bytes is. cc), ((λ to bytes is. cc), tt))
text_quiet text WasStuck = ((λ to bytes is. cc), ((λ to bytes is. cc), tt))

out_quiet : (text : Option (List ℕ)) → SendsNothing (text_out text)
out_quiet None = tt
out_quiet (Some text) = text_quiet text WentOut

lines_quiet : (form : LineForm) (before : List (List ℕ)) (ls : List Line) → SendsNothing (lines_out form before ls)
lines_quiet form before [] = tt
lines_quiet form before (l ∷ ls) = quiet_join (text_out (written_text form before l)) (lines_out form (ended (line_words l) ∷ before) ls) (out_quiet (written_text form before l)) (lines_quiet form (ended (line_words l) ∷ before) ls)

writing_quiet : (form : LineForm) (before : List (List ℕ)) (ls : List Line) (done : Bool) (events : List Event) → WritesLines form before ls done events → SendsNothing events
writing_quiet form before ls true events is = subst SendsNothing (sym is) (lines_quiet form before ls)
writing_quiet form before ls false events cut =
    subst SendsNothing (sym cut.events_are) (quiet_join (lines_out form before cut.first) (text_events cut.text cut.end) (lines_quiet form before cut.first) (text_quiet cut.text cut.end))

end_quiet : (end : RoundEnd) → SendsNothing (end_events end)
end_quiet IsFull = tt
end_quiet NoMore = ((λ to bytes is. cc), tt)
end_quiet ReceiveFails = ((λ to bytes is. cc), tt)

-- ---- what is known stays known

-- what was noted by one moment is noted at another, in the same places
pub record Lasts {G : Type 0} (facts : GamesFacts G) (old new : G) : Type 0 where
  pub place : facts.place new ≡ facts.place old
  pub noted : StaysNoted facts old new

lasts_then : {G : Type 0} (facts : GamesFacts G) (a b c : G) → Lasts facts a b → Lasts facts b c → Lasts facts a c
lasts_then facts a b c p q = record { place = q.place ∙ p.place; noted = λ stamp bytes n. q.noted stamp bytes (p.noted stamp bytes n) }

module _ {G : Type 0} (facts : GamesFacts G) where
  backed_on : (g g' : G) → Lasts facts g g' → (before more : List Event) (ms : List Message) → AreBacked facts g before ms → AreBacked facts g' (before ++ more) ms
  backed_on g g' lasts before more [] p = tt
  backed_on g g' lasts before more (m ∷ ms) p =
      (backed_so (known facts g before) (known facts g' (before ++ more)) m (λ stamp bytes k. known_on facts g g' lasts.place stamp bytes lasts.noted before more k) p.0, backed_on g g' lasts before more ms p.1)

module _ {G F : Type 0} (facts : GamesFacts G) where
  seat_known_on : (g : G) (before more : List Event) (stamp : List ℕ) (seat : Option (Seat F)) → IfSome seat (IsKnownSeat facts g before stamp) → IfSome seat (IsKnownSeat facts g (before ++ more) stamp)
  seat_known_on g before more stamp None p = tt
  seat_known_on g before more stamp (Some seat) p = record { bytes = p.bytes; kept = p.kept; is = known_on facts g g refl stamp p.bytes (λ s b n. n) before more p.is }

  pub are_known_on : (server : Server G F) (before more : List Event) → AreKnown facts server before → AreKnown facts server (before ++ more)
  are_known_on server before more p = λ stamp. seat_known_on server.shared.games before more stamp (open_at server stamp) (p stamp)

-- ---- datagrams

-- what was heard: nothing was sent, and what replies say is known
pub record HeardSo {F G : Type 0} (facts : GamesFacts G) (old new : Server G F) (before : List Event) (hs : List Heard) : Type 0 where
  pub quiet : SendsNothing (flat_map heard_events hs)
  pub known : AreKnown facts new (before ++ flat_map heard_events hs)
  pub lasts : Lasts facts old.shared.games new.shared.games
  pub backed : AllByRecursion (λ h. AreBacked facts new.shared.games (before ++ flat_map heard_events hs) h.reply.outputs.items) hs

module _ {T P F K S L G : Type 0} (o : Outside T P F K S L) (facts : GamesFacts G) where
  lasts_by : (old new : Server G F) (h : Heard) → HearsDatagram o facts old new h.datagram h.reply h.events → Lasts facts old.shared.games new.shared.games
  lasts_by old new h d = record { place = d.still.place; noted = d.noted }

  heard_so : (old new : Server G F) (before : List Event) (hs : List Heard) → AreKnown facts old before → HearsAll o facts old hs new → HeardSo facts old new before hs
  unfolding HearsAll
  heard_so old new before [] p is = record {
    quiet = tt;
    known = subst (λ (s : Server G F). AreKnown facts s (before ++ [])) (sym is) (are_known_on facts old before [] p);
    lasts = subst (λ (s : Server G F). Lasts facts old.shared.games s.shared.games) (sym is) (record { place = refl; noted = λ stamp bytes n. n });
    backed = tt;
  }
  heard_so old new before (h ∷ hs) p d =
      let first : List Event = Came h.from h.datagram ∷ [] in
      let own : List Event = heard_events h in
      let came : AreKnown facts old (before ++ first) = are_known_on facts old before first p in
      let at : (before ++ first) ++ h.events ≡ before ++ own = append_assoc before first h.events in
      let mid : AreKnown facts d.0 (before ++ own) = subst (AreKnown facts d.0) at (d.1.knows (before ++ first) came) in
      let rest = heard_so d.0 new (before ++ own) hs mid d.2 in
      let whole : (before ++ own) ++ flat_map heard_events hs ≡ before ++ (own ++ flat_map heard_events hs) = append_assoc before own (flat_map heard_events hs) in
      record {
        quiet = quiet_join own (flat_map heard_events hs) ((λ to bytes is. cc), d.1.still.quiet) rest.quiet;
        known = subst (AreKnown facts new) whole rest.known;
        lasts = lasts_then facts old.shared.games d.0.shared.games new.shared.games (lasts_by old d.0 h d.1) rest.lasts;
        backed = (
          subst (λ (l : List Event). AreBacked facts new.shared.games l h.reply.outputs.items) whole
              (backed_on facts d.0.shared.games new.shared.games rest.lasts (before ++ own) (flat_map heard_events hs) h.reply.outputs.items (subst (λ (l : List Event). AreBacked facts d.0.shared.games l h.reply.outputs.items) at (d.1.backed (before ++ first) came))),
          subst (λ (l : List Event). AllByRecursion (λ x. AreBacked facts new.shared.games l x.reply.outputs.items) hs) whole rest.backed,
        );
      }

-- ---- the commit

module _ {G : Type 0} (facts : GamesFacts G) (g g' : G) (events : List Event) where
  -- what was known by then is kept
  kept_now : {A : Type 0} (x : A) → CommitsGames facts g g' (Ok x) events → (before : List Event) (stamp bytes : List ℕ) → known facts g before stamp bytes → kept_by (facts.places (facts.place g)) (before ++ events) stamp bytes
  kept_now x c before stamp bytes (inl noted) = was_kept_after (facts.places (facts.place g) stamp) before events stamp bytes (c.kept stamp bytes noted)
  kept_now x c before stamp bytes (inr kept) = was_kept_later (facts.places (facts.place g) stamp) before events stamp bytes kept

  known_now : {A : Type 0} (r : Result A Uncommitted) → CommitsGames facts g g' r events → (before : List Event) (stamp bytes : List ℕ) → known facts g before stamp bytes → known facts g' (before ++ events) stamp bytes
  known_now (Ok x) c before stamp bytes k = inr (subst (λ (p : facts.Place). WasKept (facts.places p stamp) (before ++ events) stamp bytes) (sym c.still.place) (kept_now x c before stamp bytes k))
  known_now (Err why) c before stamp bytes k = known_on facts g g' c.still.place stamp bytes c.left before events k

  seat_now : {A F : Type 0} (r : Result A Uncommitted) → CommitsGames facts g g' r events → (before : List Event) (stamp : List ℕ) (seat : Option (Seat F)) → IfSome seat (IsKnownSeat facts g before stamp) → IfSome seat (IsKnownSeat facts g' (before ++ events) stamp)
  seat_now r c before stamp None p = tt
  seat_now r c before stamp (Some seat) p = record { bytes = p.bytes; kept = p.kept; is = known_now r c before stamp p.bytes p.is }

-- ---- what is sent

module _ (places : Places) where
  all_later : (before more : List Event) (ms : List Message) → AllByRecursion (IsBacked (kept_by places before)) ms → AllByRecursion (IsBacked (kept_by places (before ++ more))) ms
  all_later before more [] p = tt
  all_later before more (m ∷ ms) p = (backed_later places before more m p.0, all_later before more ms p.1)

  messages_earned : (before : List Event) (to : Address) (ms : List Message) → AllByRecursion (IsBacked (kept_by places before)) ms → AllSpelled ms → EachEarned places before (sent to ms)
  messages_earned before to [] back spells = tt
  messages_earned before to (m ∷ ms) back spells =
      let first : List Event = message_sent to m in
      each_join places before first (sent to ms) (each_to_each places m spells.0 before to.sender to.to back.0) (messages_earned (before ++ first) to ms (all_later before first ms back.1) spells.1)

  abbrev pub AllRest : List Event → List Heard → Type 0
  AllRest before hs = AllByRecursion (λ h. AllByRecursion (IsBacked (kept_by places before)) h.reply.outputs.items) hs

  rest_later : (before more : List Event) (hs : List Heard) → AllRest before hs → AllRest (before ++ more) hs
  rest_later before more [] p = tt
  rest_later before more (h ∷ hs) p = (all_later before more h.reply.outputs.items p.0, rest_later before more hs p.1)

  replies_earned : (before : List Event) (to : List Recipient) (hs : List Heard) → AllRest before hs → AllByRecursion (λ h. AllSpelled h.reply.outputs.items) hs → EachEarned places before (flat_map (reply_sent to) hs)
  replies_earned before to [] rest spells = tt
  replies_earned before to (h ∷ hs) rest spells =
      let first : List Event = reply_sent to h in
      each_join places before first (flat_map (reply_sent to) hs) (messages_earned before (address h.from to) h.reply.outputs.items rest.0 spells.0) (replies_earned (before ++ first) to hs (rest_later before first hs rest.1) spells.1)

-- ---- a round

module _ {T P F K S L G : Type 0} (o : Outside T P F K S L) (facts : GamesFacts G) (to : List Recipient) where
  rest_now : {A : Type 0} (g g' : G) (events : List Event) (x : A) → CommitsGames facts g g' (Ok x) events → (before : List Event) (hs : List Heard) → AllByRecursion (λ h. AreBacked facts g before h.reply.outputs.items) hs → AllRest (facts.places (facts.place g)) (before ++ events) hs
  rest_now g g' events x c before [] p = tt
  rest_now g g' events x c before (h ∷ hs) p = (all_now h.reply.outputs.items p.0, rest_now g g' events x c before hs p.1)
    where
      all_now : (ms : List Message) → AreBacked facts g before ms → AllByRecursion (IsBacked (kept_by (facts.places (facts.place g)) (before ++ events))) ms
      all_now [] q = tt
      all_now (m ∷ ms) q = (backed_so (known facts g before) (kept_by (facts.places (facts.place g)) (before ++ events)) m (λ stamp bytes k. kept_now facts g g' events x c before stamp bytes k) q.0, all_now ms q.1)

  -- what goes out behind the commit
  sent_earned : (g g' : G) (events : List Event) (committed : Result (Unit {0}) Uncommitted) → CommitsGames facts g g' committed events → (before : List Event) (hs : List Heard) → AllByRecursion (λ h. AreBacked facts g before h.reply.outputs.items) hs → IsSpelled hs committed
      → EachEarned (facts.places (facts.place g)) (before ++ events) (round_sent to hs committed)
  sent_earned g g' events (Ok x) c before hs p spells = replies_earned (facts.places (facts.place g)) (before ++ events) to hs (rest_now g g' events x c before hs p) spells
  sent_earned g g' events (Err why) c before hs p spells = tt

  round_earned : (old new : Server G F) (r : Round) (before : List Event) → AreKnown facts old before → IsRound o facts old r new → Earned facts old new before (round_events to r)
  round_earned old new r before p is =
      let so = heard_so o facts old is.mid before r.heard p is.heard in
      let places : Places = facts.places (facts.place old.shared.games) in
      let heard : List Event = flat_map heard_events r.heard in
      let ends : List Event = end_events r.end in
      let front : List Event = heard ++ ends in
      let out : List Event = round_sent to r.heard r.committed in
      let mid : AreKnown facts is.mid (before ++ front) = subst (AreKnown facts is.mid) (append_assoc before heard ends) (are_known_on facts is.mid (before ++ heard) ends so.known) in
      let back : AllByRecursion (λ h. AreBacked facts is.mid.shared.games (before ++ front) h.reply.outputs.items) r.heard =
      subst (λ (l : List Event). AllByRecursion (λ h. AreBacked facts is.mid.shared.games l h.reply.outputs.items) r.heard) (append_assoc before heard ends) (backs_on is.mid.shared.games (before ++ heard) ends r.heard so.backed) in
      let now : AreKnown facts new ((before ++ front) ++ r.commits) = λ stamp. subst (λ (seats : Option (Seat F)). IfSome seats (IsKnownSeat facts new.shared.games ((before ++ front) ++ r.commits) stamp)) (sym (same_seat is.mid new stamp is.same.seats))
      (seat_now facts is.mid.shared.games new.shared.games r.commits r.committed is.commits (before ++ front) stamp (open_at is.mid stamp) (mid stamp)) in
      record {
        each = each_join places before front (r.commits ++ out) (quiet_earned places before front (quiet_join heard ends so.quiet (end_quiet r.end)))
            (each_join places (before ++ front) r.commits out (quiet_earned places (before ++ front) r.commits is.commits.still.quiet)
            (subst (λ (at : facts.Place). EachEarned (facts.places at) ((before ++ front) ++ r.commits) out) so.lasts.place (sent_earned is.mid.shared.games new.shared.games r.commits r.committed is.commits (before ++ front) r.heard back is.spelled)));
        known = subst (AreKnown facts new) (append_assoc (before ++ front) r.commits out ∙ append_assoc before front (r.commits ++ out)) (are_known_on facts new ((before ++ front) ++ r.commits) out now);
        place = is.commits.still.place ∙ so.lasts.place;
      }
    where
      backs_on : (g : G) (before more : List Event) (hs : List Heard) → AllByRecursion (λ h. AreBacked facts g before h.reply.outputs.items) hs → AllByRecursion (λ h. AreBacked facts g (before ++ more) h.reply.outputs.items) hs
      backs_on g before more [] p = tt
      backs_on g before more (h ∷ hs) p = (backed_on facts g g (record { place = refl; noted = λ stamp bytes n. n }) before more h.reply.outputs.items p.0, backs_on g before more hs p.1)

      same_seat : (a b : Server G F) (stamp : List ℕ) → b.seats ≡ a.seats → open_at b stamp ≡ open_at a stamp
      same_seat a b stamp is = ap (λ seats. at_stamp seats.entries stamp) is

  deed_earned : (old new : Server G F) (d : Deed) (before : List Event) → AreKnown facts old before → IsDeed o facts old d new → Earned facts old new before (deed_events to d)
  deed_earned old new (Answers r) before p is = round_earned old new r before p is
  deed_earned old new HearsNone before p is =
      let now : AreKnown facts new (before ++ Missed ∷ []) = subst (λ (s : Server G F). AreKnown facts s (before ++ Missed ∷ [])) (sym is) (are_known_on facts old before (Missed ∷ []) p) in
      record { each = ((λ dest bytes m e spells. absurd cc), tt); known = now; place = ap (λ (s : Server G F). facts.place s.shared.games) is }

  turn_earned : (form : LineForm) (texts : List (List ℕ)) (old new : Server G F) (t : Turn) (before : List Event) → AreKnown facts old before → IsTurn o facts form texts old t new → Earned facts old new before (turn_events to t)
  turn_earned form texts old new t before p is =
      let deed = deed_earned old new t.deed before p is.deed in
      let places : Places = facts.places (facts.place old.shared.games) in
      let first : List Event = deed_events to t.deed in
      record {
        each = each_join places before first t.lines deed.each (quiet_earned places (before ++ first) t.lines (writing_quiet form texts (deed_lines t.deed) t.is_out t.lines is.lines));
        known = subst (AreKnown facts new) (append_assoc before first t.lines) (are_known_on facts new (before ++ first) t.lines deed.known);
        place = deed.place;
      }

  turns_earned : (form : LineForm) (texts : List (List ℕ)) (old new : Server G F) (ts : List Turn) (before : List Event) → AreKnown facts old before → InTurns o facts form texts old ts new → Earned facts old new before (run_events to ts)
  unfolding InTurns
  turns_earned form texts old new [] before p is = record {
    each = tt;
    known = subst (λ (s : Server G F). AreKnown facts s (before ++ [])) (sym is) (are_known_on facts old before [] p);
    place = ap (λ (s : Server G F). facts.place s.shared.games) is;
  }
  turns_earned form texts old new (t ∷ ts) before p is =
      let one = turn_earned form texts old is.0 t before p is.1 in
      let first : List Event = turn_events to t in
      let more = turns_earned form (after_lines texts (deed_lines t.deed)) is.0 new ts (before ++ first) one.known is.2 in
      record {
        each = each_join (facts.places (facts.place old.shared.games)) before first (run_events to ts) one.each (subst (λ (at : facts.Place). EachEarned (facts.places at) (before ++ first) (run_events to ts)) one.place more.each);
        known = subst (AreKnown facts new) (append_assoc before first (run_events to ts)) more.known;
        place = more.place ∙ one.place;
      }

  -- so it is of a run
  pub run_earned : (most : ℕ) (form : LineForm) (texts : List (List ℕ)) (n : ℕ) (old new : Server G F) (t t' : T) (result : Result ℕ WriteFault) → Serves o facts most form texts n to old new t t' result → EarnsFrom o facts old new t t'
  run_earned most form texts n old new t t' result run = (
    run_events to (with_last run.turns run.last),
    run.happens,
    λ before p. turns_earned form texts old new (with_last run.turns run.last) before p run.in_turn,
  )

-- the law
pub acks_are_earned : {T P F K S L G : Type 0} (o : Outside T P F K S L) (facts : GamesFacts G) → AcksAreEarned o facts
acks_are_earned o facts form texts to old new turns before p is = turns_earned o facts to form texts old new turns before p is
