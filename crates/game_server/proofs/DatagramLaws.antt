-- One datagram at a server of many games.
use Rattle.std.proofs.Common.{◌≡◌, inl, inr, ◌++◌, [], ◌∷◌, ◌∙◌, ℕ, Bool, true, false, cond, List, Option, Some, None, refl, sym, ap, subst, append-nil, append_assoc}
use Rattle.std.specs.Prelude.{Result, Ok, Err, IfSome, IsSome, OnOk, option_map}
use Rattle.std.specs.Map.{keys_of}
use Rattle.std.specs.Str.{bytes_eq}
use Rattle.std.proofs.lemmas.Slice.Eq.{bytes_eq-Decides}
use Rattle.arbiter_core.specs.Delivers.{Moment, exchange, moment}
use Rattle.arbiter_server.specs.Room.{at_stamp}
use Rattle.arbiter_server.specs.declared.datagram_report.DatagramReport.{DatagramReport}
use Rattle.arbiter_server.specs.declared.datagram_report.DatagramReport.TheVariants.{KeeperLost}
use Rattle.arbiter_server.specs.declared.fault.OpenGameError.{OpenGameError}
use Rattle.arbiter_server.specs.declared.line.Line.{Line}
use Rattle.arbiter_server.specs.declared.line.Line.TheVariants as line
use Rattle.judge_core.specs.Tables.{Holding}
use Rattle.move_msg.specs.Heard.{heard_in}
use Rattle.move_msg.specs.Messages.{stamp_in}
use Rattle.move_msg.specs.declared.message.Message.{Message}
use Rattle.move_msg.specs.declared.message.MessageFault.{MessageFault}
use Rattle.timeline.specs.Events.{Event}
use Rattle.timeline.specs.Outsides.{AddsSome, Outside}
use Rattle.timeline.proofs.EventLaws.{adds_none}
use Rattle.game_server.specs.Datagrams.{HearsDatagram, IsLeftOpen, IsNotOf, was_open}
use Rattle.game_folder.specs.Drafts.{DraftView, settled}
use Rattle.game_server.specs.Fates.{Answered, AnswersBy, Fate, GoesTo, IsAnswered, IsUnopened, IsUnread, Unopened, Unread, fate_leaves, is_lost_at, is_unput}
use Rattle.game_folder.specs.Holdings.{GamesFacts, IsKeptIn, IsQuiet, StaysNoted}
use Rattle.game_server.specs.Seats.{AreKnown, AreSeats, IsKnownSeat, IsSeat, common, open_at, seat_moment}
use Rattle.game_server.specs.Inside.Seating.{AnswersFrom, Brings, IsSeatedNow}
use Rattle.arbiter_server.specs.Told.{line_words}
use Rattle.game_server.specs.Replies.{AreBacked, IsLineOf}
use Rattle.game_server.specs.Starting.{opened_as, opened_by}
use Rattle.lru.specs.LruCache.{LruCache}
use Rattle.game_server.specs.declared.seat.Reply.{Reply}
use Rattle.game_server.specs.declared.seat.Seat.{Seat}
use Rattle.game_server.specs.declared.server.Server.{Server}
use Rattle.game_server.proofs.Knowing.{known_on}
use Rattle.game_server.proofs.SeatLaws.{noted_then, quiet_nothing, quiet_then}

-- ---- a datagram

-- all games but one are as they were, or closed, and that one is closed or well
module _ {T P F K S L G : Type 0} (o : Outside T P F K S L) (facts : GamesFacts G) (old new : Server G F) (stamp : List ℕ) (tables : new.shared.tables ≡ old.shared.tables) (place : facts.place new.shared.games ≡ facts.place old.shared.games) (noted : StaysNoted facts old.shared.games new.shared.games) (others : (other : List ℕ) → bytes_eq stamp other ≡ false → IsLeftOpen (open_at old other) (open_at new other)) where
  left_seat : (P Q : Seat F → Type 0) (was now : Option (Seat F)) → IsLeftOpen was now → ((seat : Seat F) → P seat → Q seat) → IfSome was P → IfSome now Q
  left_seat P Q None now (inl same) step h = subst (λ (k : Option (Seat F)). IfSome k Q) (sym same) tt
  left_seat P Q (Some seat) now (inl same) step h = subst (λ (k : Option (Seat F)). IfSome k Q) (sym same) (step seat h)
  left_seat P Q was now (inr gone) step h = subst (λ (k : Option (Seat F)). IfSome k Q) (sym gone) tt

  moved_seat : (other : List ℕ) (seat : Seat F) → IsSeat o facts old.shared.games old.shared.tables other seat → IsSeat o facts new.shared.games new.shared.tables other seat
  moved_seat other seat h = subst (λ (set : Holding). IsSeat o facts new.shared.games set other seat) (sym tables) (record {
    of = h.of;
    its = h.its;
    clean = h.clean;
    within = subst (λ (p : facts.Place). IsKeptIn o (facts.places p other) seat.kept.file) (sym place) h.within;
    wakes = h.wakes;
    runs = h.runs;
    keeps = h.keeps;
  })

  at_each : (P : List ℕ → Type 0) → P stamp → ((other : List ℕ) → bytes_eq stamp other ≡ false → P other) → (other : List ℕ) → P other
  at_each P own rest other = by (bytes_eq stamp other) refl
    where
      by : (b : Bool) → bytes_eq stamp other ≡ b → P other
      by true is = subst P ((bytes_eq-Decides stamp other).0 is) own
      by false is = rest other is

  pub seats_now : AreSeats o facts old → IfSome (open_at new stamp) (IsSeat o facts new.shared.games new.shared.tables stamp) → AreSeats o facts new
  seats_now seats own = at_each (λ other. IfSome (open_at new other) (IsSeat o facts new.shared.games new.shared.tables other)) own
      (λ other apart. left_seat (IsSeat o facts old.shared.games old.shared.tables other) (IsSeat o facts new.shared.games new.shared.tables other) (open_at old other) (open_at new other) (others other apart) (moved_seat other) (seats other))

  pub known_now : (before events : List Event) → AreKnown facts old before → IfSome (open_at new stamp) (IsKnownSeat facts new.shared.games (before ++ events) stamp) → AreKnown facts new (before ++ events)
  known_now before events knew own = at_each (λ other. IfSome (open_at new other) (IsKnownSeat facts new.shared.games (before ++ events) other)) own
      (λ other apart. left_seat (IsKnownSeat facts old.shared.games before other) (IsKnownSeat facts new.shared.games (before ++ events) other) (open_at old other) (open_at new other) (others other apart)
      (λ seat k. record { bytes = k.bytes; kept = k.kept; is = known_on facts old.shared.games new.shared.games place other k.bytes noted before events k.is }) (knew other))

module _ {T P F K S L G : Type 0} (o : Outside T P F K S L) (facts : GamesFacts G) (old : Server G F) (m : Message) (seats : AreSeats o facts old) where
  -- behind a game that was brought all can answer
  pub brought_seats : (mid : Server G F) (events : List Event) → Brings o facts old mid m (Ok tt) events → AreSeats o facts mid
  brought_seats mid events b = seats_now o facts old mid (stamp_in m) b.same.tables b.still.place b.noted b.is.others seats
      (subst (λ (k : Option (Seat F)). IfSome k (IsSeat o facts mid.shared.games mid.shared.tables (stamp_in m))) (sym b.is.there)
      (subst (λ (set : Holding). IsSeat o facts mid.shared.games set (stamp_in m) b.is.seat) (sym b.same.tables) b.is.seated))

  pub brought_open : (mid : Server G F) (events : List Event) → Brings o facts old mid m (Ok tt) events → IsSome (open_at mid (stamp_in m))
  brought_open mid events b = subst (λ (k : Option (Seat F)). IsSome k) (sym b.is.there) refl

  -- its game answered
  module _ (mid new : Server G F) (reply : Reply) (first rest : List Event) (b : Brings o facts old mid m (Ok tt) first) (a : AnswersFrom o facts mid new m reply rest) where
    all_tables : new.shared.tables ≡ old.shared.tables
    all_tables = a.same.tables ∙ b.same.tables

    all_still : IsQuiet facts old.shared.games new.shared.games (first ++ rest)
    all_still = quiet_then facts old.shared.games mid.shared.games new.shared.games first rest b.still a.still

    all_noted : StaysNoted facts old.shared.games new.shared.games
    all_noted = noted_then facts old.shared.games mid.shared.games new.shared.games b.noted a.noted

    all_others : (other : List ℕ) → bytes_eq (stamp_in m) other ≡ false → IsLeftOpen (open_at old other) (open_at new other)
    all_others other apart = subst (IsLeftOpen (open_at old other)) (sym (a.others other apart)) (b.is.others other apart)

    -- the game that answers is the one that was brought
    one_seat : b.is.seat ≡ a.seat
    one_seat = let x = b.is.there in let y = a.there in cc

    abbrev left : Moment DraftView
    left = moment a.after.arbiter (settled a.after.keeper)

    abbrev lost : Bool
    lost = is_unput a.after.keeper.to_put a.is_kept a.told

    own_seats : (b : Bool) (k : Option (Seat F)) → IsSeatedNow o facts mid.shared.games new.shared.games mid.shared.tables (stamp_in m) a.seat left rest b k → IfSome k (IsSeat o facts new.shared.games new.shared.tables (stamp_in m))
    own_seats true k h = subst (λ (x : Option (Seat F)). IfSome x (IsSeat o facts new.shared.games new.shared.tables (stamp_in m))) (sym h) tt
    own_seats false None h = absurd h
    own_seats false (Some now) h = subst (λ (set : Holding). IsSeat o facts new.shared.games set (stamp_in m) now) (sym a.same.tables) h.0

    known_seat : (before : List Event) → AreKnown facts old before → IsKnownSeat facts mid.shared.games (before ++ first) (stamp_in m) a.seat
    known_seat before knew = subst (IsKnownSeat facts mid.shared.games (before ++ first) (stamp_in m)) one_seat (b.is.knows before knew)

    own_known : (before : List Event) → AreKnown facts old before → (b : Bool) (k : Option (Seat F)) → IsSeatedNow o facts mid.shared.games new.shared.games mid.shared.tables (stamp_in m) a.seat left rest b k → IfSome k (IsKnownSeat facts new.shared.games (before ++ (first ++ rest)) (stamp_in m))
    own_known before knew true k h = subst (λ (x : Option (Seat F)). IfSome x (IsKnownSeat facts new.shared.games (before ++ (first ++ rest)) (stamp_in m))) (sym h) tt
    own_known before knew false None h = absurd h
    own_known before knew false (Some now) h = subst (λ (l : List Event). IsKnownSeat facts new.shared.games l (stamp_in m) now) (append_assoc before first rest) (h.2 (before ++ first) (known_seat before knew))

    own_left : (b : Bool) (k : Option (Seat F)) → IsSeatedNow o facts mid.shared.games new.shared.games mid.shared.tables (stamp_in m) a.seat left rest b k → option_map (seat_moment new.shared.tables) k ≡ cond b None (Some left)
    own_left true k h = ap (option_map (seat_moment new.shared.tables)) h
    own_left false None h = absurd h
    own_left false (Some now) h = ap Some (subst (λ (set : Holding). seat_moment set now ≡ left) (sym a.same.tables) h.1)

    answers_as : AnswersBy facts mid.shared.games (stamp_in m) (seat_moment old.shared.tables b.is.seat) m a.told a.after a.is_kept rest new.shared.games
    answers_as = subst (λ (seat : Seat F). AnswersBy facts mid.shared.games (stamp_in m) (seat_moment old.shared.tables seat) m a.told a.after a.is_kept rest new.shared.games) (sym one_seat)
        (subst (λ (set : Holding). AnswersBy facts mid.shared.games (stamp_in m) (seat_moment set a.seat) m a.told a.after a.is_kept rest new.shared.games) b.same.tables a.answers)

    abbrev others_used : List (List ℕ) → List (List ℕ)
    others_used l = cond lost l (stamp_in m ∷ l)

    pub heard_answered : (datagram : List ℕ) → heard_in datagram ≡ Ok m → HearsDatagram o facts old new datagram reply (first ++ rest)
    heard_answered datagram is = record {
      config = a.same.config ∙ b.same.config;
      tables = all_tables;
      still = all_still;
      noted = all_noted;
      fate = Answered (stamp_in m) (exchange datagram a.told a.after) a.is_kept;
      goes = subst (λ (x : Result Message MessageFault). GoesTo facts (common old) old.shared.games datagram (was_open old x) (first ++ rest) (Answered (stamp_in m) (exchange datagram a.told a.after) a.is_kept) new.shared.games) (sym is)
          (IsAnswered m first rest (seat_moment old.shared.tables b.is.seat) a.after a.told a.is_kept mid.shared.games is b.is.has answers_as refl refl);
      is = a.is datagram;
      own = subst (λ (x : Result Message MessageFault). was_open new x ≡ fate_leaves (Answered (stamp_in m) (exchange datagram a.told a.after) a.is_kept)) (sym is) (own_left lost (open_at new (stamp_in m)) a.own);
      used = a.used ∙ ap others_used b.is.used;
      room_is = a.room_is ∙ b.room_is;
      others = λ other apart. all_others other (subst (IsNotOf other) is apart);
      seats = seats_now o facts old new (stamp_in m) all_tables all_still.place all_noted all_others seats (own_seats lost (open_at new (stamp_in m)) a.own);
      backed = λ before knew. subst (λ (l : List Event). AreBacked facts new.shared.games l reply.outputs.items) (append_assoc before first rest) (a.backed (before ++ first) (known_seat before knew));
      knows = λ before knew. known_now o facts old new (stamp_in m) all_tables all_still.place all_noted all_others before (first ++ rest) knew (own_known before knew lost (open_at new (stamp_in m)) a.own);
    }

  -- it isn't open
  module _ (new : Server G F) (why : OpenGameError) (reply : Reply) (events : List Event) (b : Brings o facts old new m (Err why) events) (nothing : reply.outputs.items ≡ []) (line : reply.line ≡ line.Unopened (stamp_in m) why) where
    still_seats : (other : List ℕ) → open_at new other ≡ open_at old other
    still_seats other = ap (λ (l : LruCache (List ℕ) (Seat F)). at_stamp l.entries other) b.is.seats

    still_others : (other : List ℕ) → bytes_eq (stamp_in m) other ≡ false → IsLeftOpen (open_at old other) (open_at new other)
    still_others other apart = inl (still_seats other)

    gone : open_at new (stamp_in m) ≡ None
    gone = still_seats (stamp_in m) ∙ b.is.none

    none_there : (Q : Seat F → Type 0) → IfSome (open_at new (stamp_in m)) Q
    none_there Q = subst (λ (k : Option (Seat F)). IfSome k Q) (sym gone) tt

    was_none : option_map (seat_moment old.shared.tables) (open_at old (stamp_in m)) ≡ None
    was_none = ap (option_map (seat_moment old.shared.tables)) b.is.none

    pub heard_unopened : (datagram : List ℕ) → heard_in datagram ≡ Ok m → HearsDatagram o facts old new datagram reply events
    heard_unopened datagram is = record {
      config = b.same.config;
      tables = b.same.tables;
      still = b.still;
      noted = b.noted;
      fate = Unopened (stamp_in m) why;
      goes = subst (λ (x : Result Message MessageFault). GoesTo facts (common old) old.shared.games datagram (was_open old x) events (Unopened (stamp_in m) why) new.shared.games) (sym is) (IsUnopened m why is was_none b.is.opens refl);
      is = record { outputs = nothing; line = ap line_words line; told = line };
      own = subst (λ (x : Result Message MessageFault). was_open new x ≡ None) (sym is) (ap (option_map (seat_moment new.shared.tables)) gone);
      used = ap (λ (l : LruCache (List ℕ) (Seat F)). keys_of l.entries) b.is.seats;
      room_is = b.room_is;
      others = λ other apart. still_others other (subst (IsNotOf other) is apart);
      seats = seats_now o facts old new (stamp_in m) b.same.tables b.still.place b.noted still_others seats (none_there (IsSeat o facts new.shared.games new.shared.tables (stamp_in m)));
      backed = λ before knew. subst (λ (ms : List Message). AreBacked facts new.shared.games (before ++ events) ms) (sym nothing) tt;
      knows = λ before knew. known_now o facts old new (stamp_in m) b.same.tables b.still.place b.noted still_others before events knew (none_there (IsKnownSeat facts new.shared.games (before ++ events) (stamp_in m)));
    }

-- bytes that are no message
pub heard_unread : {T P F K S L G : Type 0} (o : Outside T P F K S L) (facts : GamesFacts G) (server : Server G F) (datagram : List ℕ) (fault : MessageFault) (reply : Reply) (t : T) → AreSeats o facts server → heard_in datagram ≡ Err fault → reply.outputs.items ≡ [] → reply.line ≡ line.Unread fault → AddsSome o t t (HearsDatagram o facts server server datagram reply)
heard_unread o facts server datagram fault reply t seats is nothing line = (
  [],
  adds_none o t,
  record {
    config = refl;
    tables = refl;
    still = quiet_nothing facts server.shared.games;
    noted = λ stamp bytes n. n;
    fate = Unread fault;
    goes = IsUnread fault is refl refl refl;
    is = record { outputs = nothing; line = ap line_words line; told = line };
    own = subst (λ (x : Result Message MessageFault). was_open server x ≡ None) (sym is) refl;
    used = refl;
    room_is = refl;
    others = λ other apart. inl refl;
    seats = seats;
    backed = λ before knew. subst (λ (ms : List Message). AreBacked facts server.shared.games (before ++ []) ms) (sym nothing) tt;
    knows = λ before knew. subst (λ (b : List Event). AreKnown facts server b) (sym (append-nil before)) knew;
  },
)

-- a game that is said to be open is: nothing else answers so to a message of it
pub said_open : {T P F K S L G : Type 0} (o : Outside T P F K S L) (facts : GamesFacts G) (old new : Server G F) (m : Message) (datagram : List ℕ) (reply : Reply) (events : List Event) → heard_in datagram ≡ Ok m → HearsDatagram o facts old new datagram reply events → OnOk (opened_by reply.line) (IsSome (open_at new (stamp_in m)))
said_open {F = F} {G = G} o facts old new m datagram reply events is h = by h.fate h.goes h.is.told own
  where
    own : option_map (seat_moment new.shared.tables) (open_at new (stamp_in m)) ≡ fate_leaves h.fate
    own = subst (λ (x : Result Message MessageFault). was_open new x ≡ fate_leaves h.fate) is h.own

    some_there : (k : Option (Seat F)) (at : Moment DraftView) → option_map (seat_moment new.shared.tables) k ≡ Some at → IsSome k
    some_there None at e = absurd cc
    some_there (Some seat) at e = refl

    on_line : (l : Line) (r : Result (Unit {0}) OpenGameError) → opened_by l ≡ r → OnOk r (IsSome (open_at new (stamp_in m))) → OnOk (opened_by l) (IsSome (open_at new (stamp_in m)))
    on_line l r e p = subst (λ (x : Result (Unit {0}) OpenGameError). OnOk x (IsSome (open_at new (stamp_in m)))) (sym e) p

    not_unread : (fault : MessageFault) → GoesTo facts (common old) old.shared.games datagram (was_open old (heard_in datagram)) events (Unread fault) new.shared.games → ⊥
    not_unread fault (IsUnread f none e s u) = let wrong : Ok m ≡ Err f = sym is ∙ none in cc
    not_unread fault (IsUnopened n why e none opens u) = cc
    not_unread fault (IsAnswered n first rest at after told kept mid e has answers are u) = cc

    answered : (report : DatagramReport) (b : Bool) (at : Moment DraftView) → (b ≡ true → report ≡ KeeperLost) → option_map (seat_moment new.shared.tables) (open_at new (stamp_in m)) ≡ cond b None (Some at) → OnOk (opened_as report) (IsSome (open_at new (stamp_in m)))
    answered report true at gone e = subst (λ (x : DatagramReport). OnOk (opened_as x) (IsSome (open_at new (stamp_in m)))) (sym (gone refl)) tt
    answered report false at gone e = on_any (opened_as report) (some_there (open_at new (stamp_in m)) at e)
      where
        on_any : (r : Result (Unit {0}) OpenGameError) → IsSome (open_at new (stamp_in m)) → OnOk r (IsSome (open_at new (stamp_in m)))
        on_any (Ok x) p = p
        on_any (Err why) p = tt

    by : (fate : Fate) → GoesTo facts (common old) old.shared.games datagram (was_open old (heard_in datagram)) events fate new.shared.games → IsLineOf fate reply.line → option_map (seat_moment new.shared.tables) (open_at new (stamp_in m)) ≡ fate_leaves fate → OnOk (opened_by reply.line) (IsSome (open_at new (stamp_in m)))
    by (Unread fault) goes told e = absurd (not_unread fault goes)
    by (Unopened stamp why) goes told e = on_line reply.line (Err why) (ap opened_by told) tt
    by (Answered stamp x is_kept) goes told e = on_line reply.line (opened_as told.0) (ap opened_by told.1) (answered told.0 (is_lost_at x is_kept) (moment x.after.arbiter (settled x.after.keeper)) told.2 e)
