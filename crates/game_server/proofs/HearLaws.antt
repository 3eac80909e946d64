-- The game of a message is opened where it isn't open, and answers.
use Rattle.std.proofs.Common.{◌≡◌, inl, [], ◌∷◌, ◌∙◌, ◌-◌, ◌≤◌, ℕ, Bool, true, false, cond, length, take, List, Option, Some, None, refl, sym, ap, subst, append-nil}
use Rattle.std.specs.Prelude.{Result, Ok, Err, IfErr, IfSome, OnOk, is_some, option_map}
use Rattle.std.specs.List.{IsDistinct}
use Rattle.std.specs.Map.{keys_of, remove_entry, set_value}
use Rattle.std.specs.Str.{bytes_eq}
use Rattle.lru.specs.LruCache.{LruCache, lru_cache, promoted}
use Rattle.arbiter_core.specs.Delivers.{Moment, moment}
use Rattle.arbiter_server.specs.Room.{at_stamp}
use Rattle.arbiter_server.specs.declared.fault.OpenGameError.{OpenGameError}
use Rattle.arbiter_server.specs.declared.fault.OpenGameError.TheVariants as unopened
use Rattle.move_msg.specs.Messages.{stamp_in}
use Rattle.move_msg.specs.declared.message.Message.{Message}
use Rattle.timeline.specs.Events.{Event}
use Rattle.timeline.specs.Outsides.{AddsSome, Outside}
use Rattle.timeline.proofs.EventLaws.{adds_none}
use Rattle.game_folder.specs.Drafts.{DraftView, settled}
use Rattle.game_folder.specs.Holdings.{GamesFacts}
use Rattle.game_server.specs.Datagrams.{IsLeftOpen}
use Rattle.game_server.specs.Fates.{HasGame, IsFound, IsOther, NotFound, OpensFor, OpensNone, OpensSeat, SeatNotHeld, SeatOpened, SeatRefused, SeatUnkept, TakesAndOpens, TakesNone, TakesOne, is_unput}
use Rattle.game_server.specs.Seats.{AreSeats, IsKnownSeat, IsSeat, common, in_use, open_at, seat_moment, without}
use Rattle.game_server.specs.Inside.Seating.{AnswersAt, AnswersFrom, Brings, DeliversTo, IsSeatedNow, OpensForMessage, closes, reply_in, used_first}
use Rattle.game_server.specs.declared.seat.Answer.{Answer}
use Rattle.game_server.specs.declared.seat.Seat.{Seat}
use Rattle.game_server.specs.declared.server.Server.{Server}
use Rattle.game_server.specs.declared.server.Shared.{Shared}
use Rattle.game_server.proofs.Knowing.{known_after}
use Rattle.game_server.proofs.RoomLaws.{absent_without, at_first, at_other, keys_removed, keys_take, left_take, others_fit, removed_other, removed_own, used_entries, used_removed, without_first}
use Rattle.game_server.proofs.SeatLaws.{quiet_nothing}

pub at_some : {X : Type 0} (P : X → Type 0) (k : Option X) (x : X) → k ≡ Some x → IfSome k P → P x
at_some {X = X} P k x is h = subst (λ (o : Option X). IfSome o P) is h

pub some_there : {X : Type 0} (k : Option X) → is_some k ≡ true → (x : X) × (k ≡ Some x)
some_there None is = absurd (let f : false ≡ true = is in cc)
some_there (Some x) is = (x, refl)

pub none_there : {X : Type 0} (k : Option X) → is_some k ≡ false → k ≡ None
none_there None is = refl
none_there (Some x) is = absurd (let f : true ≡ false = is in cc)

-- ---- a game was opened, and memory was refused to keep it open

module _ {G : Type 0} (facts : GamesFacts G) where
  seat_not_held : {old new : G} {stamp : List ℕ} {setup : _} {draft : DraftView} {events : List Event} {at : Moment DraftView} → OpensSeat facts old stamp setup draft events (Ok at) new → OpensSeat facts old stamp setup draft events (Err unopened.OutOfMemory) new
  seat_not_held {at = at} (SeatRefused after fault h none same told) = absurd (let f : ◌≡◌ {A = Result (Moment DraftView) OpenGameError} (Ok at) (Err _) = told in cc)
  seat_not_held {at = at} (SeatUnkept after v bytes h put keeps told) = absurd (let f : ◌≡◌ {A = Result (Moment DraftView) OpenGameError} (Ok at) (Err _) = told in cc)
  seat_not_held {at = at} (SeatNotHeld after v h kept told) = absurd (let f : ◌≡◌ {A = Result (Moment DraftView) OpenGameError} (Ok at) (Err _) = told in cc)
  seat_not_held (SeatOpened after v h kept told) = SeatNotHeld after v h kept refl

  taken_not_held : {t : _} {old new : G} {stamp : List ℕ} {game : _} {events : List Event} {at : Moment DraftView} → TakesAndOpens facts t old stamp game events (Ok at) new → TakesAndOpens facts t old stamp game events (Err unopened.OutOfMemory) new
  taken_not_held {at = at} (TakesNone why takes told) = absurd (let f : ◌≡◌ {A = Result (Moment DraftView) OpenGameError} (Ok at) (Err why) = told in cc)
  taken_not_held (TakesOne first rest got mid takes opens are) = TakesOne first rest got mid takes (seat_not_held opens) are

  pub not_held : {t : _} {old new : G} {m : Message} {events : List Event} {at : Moment DraftView} → OpensFor facts t old m events (Ok at) new → OpensFor facts t old m events (Err unopened.OutOfMemory) new
  not_held {at = at} (OpensNone is none same told) = absurd (let f : ◌≡◌ {A = Result (Moment DraftView) OpenGameError} (Ok at) (Err _) = told in cc)
  not_held {at = at} (NotFound why is finds same told) = absurd (let f : ◌≡◌ {A = Result (Moment DraftView) OpenGameError} (Ok at) (Err why) = told in cc)
  not_held {at = at} (IsOther game is finds other same told) = absurd (let f : ◌≡◌ {A = Result (Moment DraftView) OpenGameError} (Ok at) (Err _) = told in cc)
  not_held (IsFound game first rest is finds of opens are) = IsFound game first rest is finds of (taken_not_held opens) are

-- ---- the game of a message is opened where it isn't open

-- a server with other games that are open
abbrev pub with_seats : {G F : Type 0} → Shared G → LruCache (List ℕ) (Seat F) → Server G F
with_seats shared l = record { shared = shared; seats = l }

module _ {T P F K S L G : Type 0} (o : Outside T P F K S L) (facts : GamesFacts G) (old : Server G F) (m : Message) where
  was_there : (seat : Seat F) (t : T) → open_at old (stamp_in m) ≡ Some seat → length old.seats.entries ≤ old.seats.cap → AreSeats o facts old → AddsSome o t t (Brings o facts old old m (Ok tt))
  was_there seat t is fits seats = (
    [],
    adds_none o t,
    record {
      same = record { config = refl; tables = refl };
      still = quiet_nothing facts old.shared.games;
      noted = λ stamp bytes n. n;
      room_is = refl;
      is = record {
        seat = seat;
        there = is;
        has = subst (λ (k : Option (Seat F)). HasGame facts (common old) old.shared.games m (option_map (seat_moment old.shared.tables) k) [] (seat_moment old.shared.tables seat) old.shared.games) (sym is) (refl, refl, refl);
        seated = at_some (IsSeat o facts old.shared.games old.shared.tables (stamp_in m)) (open_at old (stamp_in m)) seat is (seats (stamp_in m));
        knows = λ before knew. subst (λ (b : List Event). IsKnownSeat facts old.shared.games b (stamp_in m) seat) (sym (append-nil before)) (at_some (IsKnownSeat facts old.shared.games before (stamp_in m)) (open_at old (stamp_in m)) seat is (knew (stamp_in m)));
        others = λ other apart. inl refl;
        used = others_fit (stamp_in m) old.seats.entries seat old.seats.cap is fits;
      };
    },
  )

  -- it was open
  pub was_open_now : (t : T) → is_some (open_at old (stamp_in m)) ≡ true → length old.seats.entries ≤ old.seats.cap → AreSeats o facts old → AddsSome o t t (Brings o facts old old m (Ok tt))
  was_open_now t is fits seats = let s = some_there (open_at old (stamp_in m)) is in was_there s.0 t s.1 fits seats

  module _ (none : open_at old (stamp_in m) ≡ None) where
    -- it isn't opened
    pub not_opened : (new : Shared G) (why : OpenGameError) (t t' : T) → AddsSome o t t' (OpensForMessage o facts old.shared new m (Err why)) → AddsSome o t t' (Brings o facts old (with_seats new old.seats) m (Err why))
    not_opened new why t t' p = (
      p.0,
      p.1,
      record { same = p.2.same; still = p.2.still; noted = p.2.noted; room_is = refl; is = record { none = none; opens = p.2.opens; seats = refl } },
    )

    module _ (new : Shared G) (seat : Seat F) (t t' : T) (p : AddsSome o t t' (OpensForMessage o facts old.shared new m (Ok seat))) where
      refused : (l : LruCache (List ℕ) (Seat F)) (why : OpenGameError) → (why ≡ unopened.OutOfMemory) × (l ≡ old.seats) → AddsSome o t t' (Brings o facts old (with_seats new l) m (Err why))
      refused l why h = subst (λ (w : OpenGameError). AddsSome o t t' (Brings o facts old (with_seats new l) m (Err w))) (sym h.0)
          (subst (λ (c : LruCache (List ℕ) (Seat F)). AddsSome o t t' (Brings o facts old (with_seats new c) m (Err unopened.OutOfMemory))) (sym h.1) (
            p.0,
            p.1,
            record { same = p.2.same; still = p.2.still; noted = p.2.noted; room_is = refl; is = record { none = none; opens = not_held facts p.2.opens; seats = refl } },
          ))

      abbrev entries : List (List ℕ × Seat F)
      entries = (stamp_in m, seat) ∷ take (old.seats.cap - 1) old.seats.entries

      has_now : (was : Option (Seat F)) → was ≡ None → HasGame facts (common old) old.shared.games m (option_map (seat_moment old.shared.tables) was) p.0 (seat_moment old.shared.tables seat) new.games
      has_now was is = subst (λ (k : Option (Seat F)). HasGame facts (common old) old.shared.games m (option_map (seat_moment old.shared.tables) k) p.0 (seat_moment old.shared.tables seat) new.games) (sym is) p.2.opens

      put : (l : LruCache (List ℕ) (Seat F)) → l ≡ lru_cache entries old.seats.cap → AddsSome o t t' (Brings o facts old (with_seats new l) m (Ok tt))
      put l is = subst (λ (c : LruCache (List ℕ) (Seat F)). AddsSome o t t' (Brings o facts old (with_seats new c) m (Ok tt))) (sym is) (
        p.0,
        p.1,
        record {
          same = p.2.same;
          still = p.2.still;
          noted = p.2.noted;
          room_is = refl;
          is = record {
            seat = seat;
            there = at_first (take (old.seats.cap - 1) old.seats.entries) (stamp_in m) seat;
            has = has_now (open_at old (stamp_in m)) none;
            seated = p.2.ok;
            knows = λ before knew. let k = p.2.knows in record { bytes = k.bytes; kept = k.kept; is = known_after facts new.games new.games refl (stamp_in m) k.bytes before p.0 k.is };
            others = λ other apart. subst (IsLeftOpen (open_at old other)) (sym (at_other (take (old.seats.cap - 1) old.seats.entries) (stamp_in m) other seat apart)) (left_take (old.seats.cap - 1) old.seats.entries other);
            used = without_first (stamp_in m) (keys_of (take (old.seats.cap - 1) old.seats.entries)) ∙ (keys_take (old.seats.cap - 1) old.seats.entries
                ∙ ap (take (old.seats.cap - 1)) (sym (absent_without (stamp_in m) old.seats.entries none)));
          };
        },
      )

      -- it is opened, and put in
      pub opened : (l : LruCache (List ℕ) (Seat F)) (result : Result (Unit {0}) OpenGameError) → OnOk result (l ≡ lru_cache entries old.seats.cap) → IfErr result (λ why. (why ≡ unopened.OutOfMemory) × (l ≡ old.seats)) → AddsSome o t t' (Brings o facts old (with_seats new l) m result)
      opened l (Ok x) ok err = put l ok
      opened l (Err why) ok err = refused l why err

-- ---- a game that is open answers

module _ {T P F K S L G : Type 0} (o : Outside T P F K S L) (facts : GamesFacts G) (old new : Server G F) (m : Message) where
  pub answered_at : (seat left : Seat F) (result : Answer) (t t' : T) → open_at old (stamp_in m) ≡ Some seat → IsDistinct bytes_eq (keys_of old.seats.entries)
      → new.seats ≡ lru_cache (set_value (bytes_eq (stamp_in m)) (promoted (bytes_eq (stamp_in m)) old.seats.entries) left) old.seats.cap
      → AddsSome o t t' (DeliversTo o facts old.shared new.shared seat left m result) → AddsSome o t t' (AnswersAt o facts old new m result)
  answered_at seat left result t t' there apart lent p = (
    p.0,
    p.1,
    record { seat = seat; left = left; there = there; delivers = p.2; entries = lent ∙ ap (λ (es : List (List ℕ × Seat F)). lru_cache es old.seats.cap) (used_entries (stamp_in m) old.seats.entries seat left there); apart = apart },
  )

module _ {T P F K S L G : Type 0} (o : Outside T P F K S L) (facts : GamesFacts G) (old new : Server G F) (m : Message) (result : Answer) (events : List Event) (a : AnswersAt o facts old new m result events) where
  abbrev left_by : Moment DraftView
  left_by = moment a.delivers.after.arbiter (settled a.delivers.after.keeper)

  abbrev rest : List (List ℕ × Seat F)
  rest = remove_entry (bytes_eq (stamp_in m)) old.seats.entries

  rest_keys : keys_of rest ≡ without (stamp_in m) (in_use old)
  rest_keys = keys_removed (stamp_in m) old.seats.entries

  -- it stays open, as the one used latest
  pub stays_open : closes result ≡ false → AnswersFrom o facts old new m (reply_in result) events
  stays_open stays =
      let unlost : is_unput a.delivers.after.keeper.to_put a.delivers.is_kept a.delivers.told ≡ false = sym a.delivers.closed ∙ stays in
      let entries : new.seats.entries ≡ used_first (stamp_in m) a.left old.seats.entries = ap (λ (c : LruCache (List ℕ) (Seat F)). c.entries) a.entries in
      record {
        same = a.delivers.same;
        still = a.delivers.still;
        noted = a.delivers.noted;
        room_is = ap (λ (c : LruCache (List ℕ) (Seat F)). c.cap) a.entries;
        seat = a.seat;
        there = a.there;
        told = a.delivers.told;
        after = a.delivers.after;
        is_kept = a.delivers.is_kept;
        answers = a.delivers.answers;
        is = a.delivers.reply;
        own = subst (λ (b : Bool). IsSeatedNow o facts old.shared.games new.shared.games old.shared.tables (stamp_in m) a.seat left_by events b (open_at new (stamp_in m))) (sym unlost)
            (subst (λ (k : Option (Seat F)). IsSeatedNow o facts old.shared.games new.shared.games old.shared.tables (stamp_in m) a.seat left_by events false k)
            (sym (ap (λ (es : List (List ℕ × Seat F)). at_stamp es (stamp_in m)) entries ∙ at_first rest (stamp_in m) a.left))
            (a.delivers.seated stays, a.delivers.left, λ before knew. a.delivers.knows before knew stays));
        others = λ other apart. ap (λ (es : List (List ℕ × Seat F)). at_stamp es other) entries ∙ (at_other rest (stamp_in m) other a.left apart ∙ removed_other old.seats.entries (stamp_in m) a.apart other apart);
        used = ap (λ (es : List (List ℕ × Seat F)). keys_of es) entries ∙ (ap (λ (l : List (List ℕ)). stamp_in m ∷ l) rest_keys
            ∙ ap (λ (b : Bool). cond b (without (stamp_in m) (in_use old)) (stamp_in m ∷ without (stamp_in m) (in_use old))) (sym unlost));
        backed = a.delivers.backed;
      }

  -- it is closed
  pub is_closed : (l : LruCache (List ℕ) (Seat F)) → closes result ≡ true → l ≡ lru_cache (remove_entry (bytes_eq (stamp_in m)) new.seats.entries) new.seats.cap → AnswersFrom o facts old (with_seats new.shared l) m (reply_in result) events
  is_closed l closed is =
      let lost : is_unput a.delivers.after.keeper.to_put a.delivers.is_kept a.delivers.told ≡ true = sym a.delivers.closed ∙ closed in
      let entries : l.entries ≡ rest = ap (λ (c : LruCache (List ℕ) (Seat F)). c.entries) is
      ∙ (ap (λ (c : LruCache (List ℕ) (Seat F)). remove_entry (bytes_eq (stamp_in m)) c.entries) a.entries ∙ used_removed rest (stamp_in m) a.left) in
      record {
        same = a.delivers.same;
        still = a.delivers.still;
        noted = a.delivers.noted;
        room_is = ap (λ (c : LruCache (List ℕ) (Seat F)). c.cap) is ∙ ap (λ (c : LruCache (List ℕ) (Seat F)). c.cap) a.entries;
        seat = a.seat;
        there = a.there;
        told = a.delivers.told;
        after = a.delivers.after;
        is_kept = a.delivers.is_kept;
        answers = a.delivers.answers;
        is = a.delivers.reply;
        own = subst (λ (b : Bool). IsSeatedNow o facts old.shared.games new.shared.games old.shared.tables (stamp_in m) a.seat left_by events b (at_stamp l.entries (stamp_in m))) (sym lost)
            (ap (λ (es : List (List ℕ × Seat F)). at_stamp es (stamp_in m)) entries ∙ removed_own old.seats.entries (stamp_in m) a.apart);
        others = λ other apart. ap (λ (es : List (List ℕ × Seat F)). at_stamp es other) entries ∙ removed_other old.seats.entries (stamp_in m) a.apart other apart;
        used = ap (λ (es : List (List ℕ × Seat F)). keys_of es) entries ∙ (rest_keys
            ∙ ap (λ (b : Bool). cond b (without (stamp_in m) (in_use old)) (stamp_in m ∷ without (stamp_in m) (in_use old))) (sym lost));
        backed = a.delivers.backed;
      }
