-- What a start may find of a game behind a run.
use Rattle.std.proofs.Common.{◌≡◌, ◌⊎◌, inl, inr, ◌∙◌, ℕ, Bool, true, false, cond, List, [], ◌∷◌, ◌++◌, Option, Some, None, option_map, refl, sym, ap, subst, append-nil}
use Rattle.std.specs.Prelude.{Result, Ok, Err}
use Rattle.std.specs.List.{flat_map}
use Rattle.std.specs.Str.{bytes_eq}
use Rattle.std.proofs.lemmas.List.Concat.{flat_map-append}
use Rattle.arbiter_core.specs.Delivers.{Moment}
use Rattle.arbiter_server.specs.Acts.{is_stamp, stamp_by}
use Rattle.arbiter_server.proofs.Turning.{same_stamp}
use Rattle.arbiter_server.specs.Games.{CommonView, Fresh, Shut}
use Rattle.arbiter_server.specs.Room.{at_stamp}
use Rattle.judge_core.specs.Tables.{Holding}
use Rattle.lru.specs.LruCache.{LruCache}
use Rattle.move_msg.specs.Messages.{stamp_in}
use Rattle.move_msg.specs.Heard.{heard_in}
use Rattle.move_msg.specs.declared.message.Message.{Message}
use Rattle.move_msg.specs.declared.message.MessageFault.{MessageFault}
use Rattle.system_io.specs.declared.recipient.Recipient.{Recipient}
use Rattle.timeline.specs.Events.{Came, Event, Missed}
use Rattle.timeline.specs.Outsides.{Outside}
use Rattle.game_folder.specs.Drafts.{DraftView}
use Rattle.game_folder.specs.Holdings.{GamesFacts, without_value}
use Rattle.game_folder.specs.Places.{KeptAt}
use Rattle.game_server.specs.Datagrams.{HearsDatagram, IsLeftOpen, IsNotOf, was_open}
use Rattle.game_server.specs.Fates.{fate_leaves}
use Rattle.game_server.specs.Printing.{LineForm, after_lines}
use Rattle.game_server.specs.Rounds.{Heard, HearsAll, IsRound, Round, end_events, heard_events, round_events, round_sent}
use Rattle.game_server.specs.Runs.{Answers, Deed, HearsNone, InTurns, IsDeed, Turn, deed_events, deed_lines, run_events, turn_events}
use Rattle.game_server.specs.Seats.{common, open_at, seat_moment}
use Rattle.game_server.specs.declared.seat.Seat.{Seat}
use Rattle.game_server.specs.declared.server.Server.{Server}
use Rattle.served_games.specs.Durable.{AreToldAt, FoundGame, GamesAreFound, IsDurableAfter, IsFoundIn, IsToldAt, KeepsAtOnce, StaysFound, behind, left_before, made_of}
use Rattle.served_games.specs.PlaceKeepers.{AtPlace, PlaceKeeper}
use Rattle.served_games.specs.ServedGames.{AreOverLeft, IsAt, MakesAll, OpenedGame, PlaysAll, acts_in, all_acts, game_at, heard_by, heard_in_turns, is_for, life_through, made_for, reply_for}
use Rattle.served_games.proofs.Asides.{WasTold, aside_one, asides, end_aside, lines_aside, other_stays, round_aside, told_by}
use Rattle.served_games.proofs.Finding.{acts_found, behind_join, durable_first, durable_rest, found_stays, left_acts, over_join}
use Rattle.served_games.proofs.Going.{Acts, Life, played_are_hosted, plays_join}
use Rattle.served_games.proofs.Playing.{Next}
use Rattle.served_games.proofs.Running.{StaysServer, played_one, same_game, stays_all, stays_by, stays_on, stays_one, turns_stay}

-- ---- one game after more events, and after more datagrams

module _ {G : Type 0} (facts : GamesFacts G) (place : facts.Place) (t : CommonView) (stamp : List ℕ) (before : PlaceKeeper) where
  abbrev at : KeptAt
  at = facts.places place stamp

  on_events : (life : Life) (hs : List Heard) (now : Option (Moment DraftView)) (past events : List Event) → StaysFound at stamp past events → FoundGame facts place t stamp before life hs now past → FoundGame facts place t stamp before life hs now (behind past events)
  on_events life hs now past events s f = record { played = f.played; over = f.over; found = found_stays at stamp past events before f.played.life s f.found }

  on_heard : (life : Life) (hs gs : List Heard) (mid now : Option (Moment DraftView)) (past past' : List Event) (f : FoundGame facts place t stamp before life hs mid past) → FoundGame facts place t stamp before f.played.life gs now past' → FoundGame facts place t stamp before life (hs ++ gs) now past'
  on_heard life hs gs mid now past past' f q =
      let p = f.played in
      let r = q.played in
      let leads : life_through (left_before before life) (all_acts p.each) ≡ left_before before p.life = left_acts before life (all_acts p.each) ∙ ap (left_before before) (played_are_hosted facts place t stamp life p.life hs p.each p.plays).on.leads in
      record {
        played = record { each = p.each ++ r.each; life = r.life; plays = plays_join facts place t stamp life p.life r.life hs gs p.each r.each p.plays r.plays; at = r.at };
        over = subst (AreOverLeft (left_before before life)) (sym (flat_map-append (λ (acts : Acts). acts) p.each r.each)) (over_join (left_before before life) (all_acts p.each) (all_acts r.each) f.over (subst (λ (l : Life). AreOverLeft l (all_acts r.each)) (sym leads) q.over));
        found = q.found;
      }

  at_now : (life : Life) (hs : List Heard) (now now' : Option (Moment DraftView)) (past : List Event) → now' ≡ now → FoundGame facts place t stamp before life hs now past → FoundGame facts place t stamp before life hs now' past
  at_now life hs now now' past same f = subst (λ (w : Option (Moment DraftView)). FoundGame facts place t stamp before life hs w past) (sym same) f

  at_past : (life : Life) (hs : List Heard) (now : Option (Moment DraftView)) (past past' : List Event) → past' ≡ past → FoundGame facts place t stamp before life hs now past → FoundGame facts place t stamp before life hs now past'
  at_past life hs now past past' same f = subst (FoundGame facts place t stamp before life hs now) (sym same) f

  -- where its acts are known
  by_acts : (life : Life) (h : Heard) (now : Option (Moment DraftView)) (past : List Event) (acts : Acts) (to : Life) (plays : PlaysAll facts place t stamp life (h ∷ []) (acts ∷ []) to) → IsAt now to → life_through life acts ≡ to → AreOverLeft (left_before before life) acts → IsFoundIn at stamp past before (life_through life acts) → FoundGame facts place t stamp before life (h ∷ []) now past
  by_acts life h now past acts to plays isat leads over found = record {
    played = record { each = acts ∷ []; life = to; plays = plays; at = isat };
    over = subst (AreOverLeft (left_before before life)) (sym (append-nil acts)) over;
    found = subst (IsFoundIn at stamp past before) leads found;
  }

  nothing : (life : Life) (now : Option (Moment DraftView)) (past : List Event) → IsAt now life → IsFoundIn at stamp past before life → FoundGame facts place t stamp before life [] now past
  unfolding PlaysAll
  nothing life now past isat found = record { played = record { each = []; life = life; plays = refl; at = isat }; over = tt; found = found }

pub not_of : (stamp : List ℕ) (r : Result Message MessageFault) → is_stamp stamp (stamp_by r) ≡ false → IsNotOf stamp r
not_of stamp (Ok m) is = is
not_of stamp (Err fault) is = tt

-- ---- each game that is open is found

some_seat : {F : Type 0} (set : Holding) (k : Option (Seat F)) (x : Moment DraftView) → option_map (seat_moment set) k ≡ Some x → (seat : Seat F) × (k ≡ Some seat)
some_seat set None x is = absurd (let f : ◌≡◌ {A = Option (Moment DraftView)} None (Some x) = is in cc)
some_seat set (Some seat) x is = (seat, refl)

none_seat : {F : Type 0} (set : Holding) (k : Option (Seat F)) (seat : Seat F) → k ≡ Some seat → option_map (seat_moment set) k ≡ None → ⊥
none_seat set k seat some none = let f : ◌≡◌ {A = Option (Moment DraftView)} (Some (seat_moment set seat)) None = sym (ap (λ (s : Option (Seat _)). option_map (seat_moment set) s) some) ∙ none in cc

was_told : {G F : Type 0} (facts : GamesFacts G) (stamp : List ℕ) (old : Server G F) (datagram : List ℕ) → AreToldAt facts stamp old → (m : Message) → heard_in datagram ≡ Ok m → WasTold facts (common old) old.shared.games m (was_open old (heard_in datagram))
was_told facts stamp old datagram told m is x was =
    let s = some_seat old.shared.tables (open_at old (stamp_in m)) x (sym (ap (was_open old) is) ∙ was) in told.each (stamp_in m) s.0 s.1

module _ {T P F K S L G : Type 0} (o : Outside T P F K S L) (facts : GamesFacts G) (stamp : List ℕ) where
  told_there : (old new : Server G F) (other : List ℕ) → facts.place new.shared.games ≡ facts.place old.shared.games → IsToldAt facts (facts.place old.shared.games) other → IsToldAt facts (facts.place new.shared.games) other
  told_there old new other place h = subst (λ (x : facts.Place). IsToldAt facts x other) (sym place) h

  told_same : (old new : Server G F) → new.seats ≡ old.seats → facts.place new.shared.games ≡ facts.place old.shared.games → AreToldAt facts stamp old → AreToldAt facts stamp new
  told_same old new seats place h = record {
    mine = told_there old new stamp place h.mine;
    each = λ other seat is. told_there old new other place (h.each other seat (sym (ap (λ (l : LruCache (List ℕ) (Seat F)). at_stamp l.entries other) seats) ∙ is));
  }

  module _ (old new : Server G F) (h : Heard) (d : HearsDatagram o facts old new h.datagram h.reply h.events) (told : AreToldAt facts stamp old) where
    left_told : (other : List ℕ) (seat : Seat F) → IsLeftOpen (open_at old other) (open_at new other) → open_at new other ≡ Some seat → IsToldAt facts (facts.place new.shared.games) other
    left_told other seat (inl same) is = told_there old new other d.still.place (told.each other seat (sym same ∙ is))
    left_told other seat (inr none) is = absurd (let f : ◌≡◌ {A = Option (Seat F)} None (Some seat) = sym none ∙ is in cc)

    own_told : (m : Message) → heard_in h.datagram ≡ Ok m → (seat : Seat F) → open_at new (stamp_in m) ≡ Some seat → IsToldAt facts (facts.place new.shared.games) (stamp_in m)
    own_told m is seat some = by (told_by facts (common old) old.shared.games h.datagram m (was_open old (heard_in h.datagram)) h.events d.fate new.shared.games is (was_told facts stamp old h.datagram told m is) d.goes)
      where
        by : (fate_leaves d.fate ≡ None) ⊎ IsToldAt facts (facts.place old.shared.games) (stamp_in m) → IsToldAt facts (facts.place new.shared.games) (stamp_in m)
        by (inl none) = absurd (none_seat new.shared.tables (open_at new (stamp_in m)) seat some (subst (λ (r : Result Message MessageFault). was_open new r ≡ fate_leaves d.fate) is d.own ∙ none))
        by (inr it) = told_there old new (stamp_in m) d.still.place it

    by_told : (r : Result Message MessageFault) → heard_in h.datagram ≡ r → (other : List ℕ) (seat : Seat F) → open_at new other ≡ Some seat → IsToldAt facts (facts.place new.shared.games) other
    by_told (Err fault) is other seat some = left_told other seat (d.others other (subst (IsNotOf other) (sym is) tt)) some
    by_told (Ok m) is other seat some = by_eq (bytes_eq (stamp_in m) other) refl
      where
        by_eq : (b : Bool) → bytes_eq (stamp_in m) other ≡ b → IsToldAt facts (facts.place new.shared.games) other
        by_eq true same = let s : stamp_in m ≡ other = same_stamp (stamp_in m) other same in subst (λ (x : List ℕ). open_at new x ≡ Some seat → IsToldAt facts (facts.place new.shared.games) x) s (own_told m is seat) some
        by_eq false apart = left_told other seat (d.others other (subst (IsNotOf other) (sym is) apart)) some

    told_one : AreToldAt facts stamp new
    told_one = record { mine = told_there old new stamp d.still.place told.mine; each = by_told (heard_in h.datagram) refl }

  told_all : (old new : Server G F) (hs : List Heard) → HearsAll o facts old hs new → AreToldAt facts stamp old → AreToldAt facts stamp new
  unfolding HearsAll
  told_all old new [] p told = subst (AreToldAt facts stamp) (sym p) told
  told_all old new (h ∷ hs) p told = told_all p.0 new hs p.2 (told_one old p.0 h p.1 told)

  told_deed : (old new : Server G F) (deed : Deed) → IsDeed o facts old deed new → AreToldAt facts stamp old → AreToldAt facts stamp new
  told_deed old new (Answers r) is told = told_same is.mid new is.same.seats is.commits.still.place (told_all old is.mid r.heard is.heard told)
  told_deed old new HearsNone is told = subst (AreToldAt facts stamp) (sym is) told

  told_turns : (form : LineForm) (texts : List (List ℕ)) (old new : Server G F) (turns : List Turn) → InTurns o facts form texts old turns new → AreToldAt facts stamp old → AreToldAt facts stamp new
  unfolding InTurns
  told_turns form texts old new [] p told = subst (AreToldAt facts stamp) (sym p) told
  told_turns form texts old new (turn ∷ turns) p told = told_turns form (after_lines texts (deed_lines turn.deed)) p.0 new turns p.2 (told_deed old p.0 turn.deed p.1.deed told)

-- ---- in a run

module _ {T P F K S L G : Type 0} (o : Outside T P F K S L) (facts : GamesFacts G) (at_once : KeepsAtOnce facts) (stamp : List ℕ) (before : PlaceKeeper) where
  abbrev place_of : Server G F → facts.Place
  place_of server = facts.place server.shared.games

  abbrev kept_at : Server G F → KeptAt
  kept_at server = facts.places (place_of server) stamp

  abbrev FoundOver : Server G F → Life → List Heard → Server G F → List Event → Type 0
  FoundOver old life hs new past = FoundGame facts (place_of old) (common old) stamp before life hs (game_at new stamp) past

  -- ---- one datagram

  -- what is made of it, whether it came or not
  module _ (old new : Server G F) (h : Heard) (d : HearsDatagram o facts old new h.datagram h.reply h.events) (told : AreToldAt facts stamp old) (life : Life) (isat : IsAt (game_at old stamp) life) (past : List Event) (durable : IsDurableAfter (kept_at old) stamp past h.events) (found : IsFoundIn (kept_at old) stamp past before life) where
    from_acts : (n : Next facts (common old) old.shared.games stamp life (reply_for stamp h) (made_for stamp h) (game_at new stamp) old.shared.games (cond (is_for stamp h) new.shared.games old.shared.games)) → IsFoundIn (kept_at old) stamp (behind past h.events) before (life_through life n.acts) → AreOverLeft (left_before before life) n.acts → FoundOver old life (h ∷ []) new (behind past h.events)
    unfolding PlaysAll
    from_acts n f over = by_acts facts (place_of old) (common old) stamp before life h (game_at new stamp) (behind past h.events) n.acts n.to (n.to, n.on, refl) n.at n.on.leads over f

    by_for : (n : Next facts (common old) old.shared.games stamp life (reply_for stamp h) (made_for stamp h) (game_at new stamp) old.shared.games (cond (is_for stamp h) new.shared.games old.shared.games)) (b : Bool) → is_for stamp h ≡ b → FoundOver old life (h ∷ []) new (behind past h.events)
    by_for n true is =
        let makes : MakesAll facts (place_of old) stamp life n.acts h.events = subst (λ (x : Bool). MakesAll facts (place_of old) stamp life n.acts (cond x h.events [])) is n.on.makes in
        let a = acts_found facts at_once (place_of old) stamp before past h.events life n.acts makes durable found in
        from_acts n a.found a.over
    by_for n false is =
        let makes : MakesAll facts (place_of old) stamp life n.acts [] = subst (λ (x : Bool). MakesAll facts (place_of old) stamp life n.acts (cond x h.events [])) is n.on.makes in
        let a = acts_found facts at_once (place_of old) stamp before past [] life n.acts makes tt found in
        let stays : StaysFound (kept_at old) stamp past h.events = other_stays facts at_once (common old) old.shared.games stamp told.mine h.datagram (was_open old (heard_in h.datagram)) h.events past d.fate new.shared.games (not_of stamp (heard_in h.datagram) is) (was_told facts stamp old h.datagram told) d.goes in
        from_acts n (found_stays (kept_at old) stamp past h.events before (life_through life n.acts) stays a.found) a.over

    made_found : FoundOver old life (h ∷ []) new (behind past h.events)
    made_found = by_for (played_one o facts old new h d life stamp isat) (is_for stamp h) refl

  came_found : (old new : Server G F) (h : Heard) (d : HearsDatagram o facts old new h.datagram h.reply h.events) → AreToldAt facts stamp old → (life : Life) → IsAt (game_at old stamp) life → (past : List Event) → IsDurableAfter (kept_at old) stamp past (heard_events h) → IsFoundIn (kept_at old) stamp past before life → FoundOver old life (h ∷ []) new (behind past (heard_events h))
  came_found old new h d told life isat past durable found =
      made_found old new h d told life isat (Came h.from h.datagram ∷ past) durable.1 (found_stays (kept_at old) stamp past (Came h.from h.datagram ∷ []) before life (aside_one (kept_at old) stamp past (Came h.from h.datagram) tt) found)

  -- ---- more of them

  from_before : (old mid : Server G F) (life : Life) (hs : List Heard) (now : Option (Moment DraftView)) (past : List Event) → StaysServer o facts old mid → FoundGame facts (place_of mid) (common mid) stamp before life hs now past → FoundGame facts (place_of old) (common old) stamp before life hs now past
  from_before old mid life hs now past s p = subst (λ (c : CommonView). FoundGame facts (place_of old) c stamp before life hs now past) s.common_is (subst (λ (x : facts.Place). FoundGame facts x (common mid) stamp before life hs now past) s.place p)

  durable_mid : (old mid : Server G F) (past events : List Event) → StaysServer o facts old mid → IsDurableAfter (kept_at old) stamp past events → IsDurableAfter (kept_at mid) stamp past events
  durable_mid old mid past events s d = subst (λ (x : facts.Place). IsDurableAfter (facts.places x stamp) stamp past events) (sym s.place) d

  found_mid : (old mid : Server G F) (past : List Event) (life : Life) → StaysServer o facts old mid → IsFoundIn (kept_at old) stamp past before life → IsFoundIn (kept_at mid) stamp past before life
  found_mid old mid past life s f = subst (λ (x : facts.Place). IsFoundIn (facts.places x stamp) stamp past before life) (sym s.place) f

  -- each by its events
  module _ (events_for : Heard → List Event) (one_found : (old new : Server G F) (h : Heard) (d : HearsDatagram o facts old new h.datagram h.reply h.events) → AreToldAt facts stamp old → (life : Life) → IsAt (game_at old stamp) life → (past : List Event) → IsDurableAfter (kept_at old) stamp past (events_for h) → IsFoundIn (kept_at old) stamp past before life → FoundOver old life (h ∷ []) new (behind past (events_for h))) where
    each_found : (old new : Server G F) (life : Life) (hs : List Heard) (past : List Event) → HearsAll o facts old hs new → AreToldAt facts stamp old → IsAt (game_at old stamp) life → IsDurableAfter (kept_at old) stamp past (flat_map events_for hs) → IsFoundIn (kept_at old) stamp past before life → FoundOver old life hs new (behind past (flat_map events_for hs))
    unfolding HearsAll
    each_found old new life [] past p told isat durable found = nothing facts (place_of old) (common old) stamp before life (game_at new stamp) past (subst (λ (s : Server G F). IsAt (game_at s stamp) life) (sym p) isat) found
    each_found old new life (h ∷ hs) past p told isat durable found =
        let events = events_for h in
        let rest = flat_map events_for hs in
        let first = one_found old p.0 h p.1 told life isat past (durable_first (kept_at old) stamp past events rest durable) found in
        let s = stays_one o facts stamp old p.0 h p.1 in
        let more = each_found p.0 new first.played.life hs (behind past events) p.2 (told_one o facts stamp old p.0 h p.1 told) first.played.at (durable_mid old p.0 (behind past events) rest s (durable_rest (kept_at old) stamp past events rest durable)) (found_mid old p.0 (behind past events) first.played.life s first.found) in
        at_past facts (place_of old) (common old) stamp before life (h ∷ hs) (game_at new stamp) (behind (behind past events) rest) (behind past (events ++ rest)) (behind_join past events rest)
        (on_heard facts (place_of old) (common old) stamp before life (h ∷ []) hs (game_at p.0 stamp) (game_at new stamp) (behind past events) (behind (behind past events) rest) first (from_before old p.0 first.played.life hs (game_at new stamp) (behind (behind past events) rest) s more))

  all_found : (old new : Server G F) (life : Life) (hs : List Heard) (past : List Event) → HearsAll o facts old hs new → AreToldAt facts stamp old → IsAt (game_at old stamp) life → IsDurableAfter (kept_at old) stamp past (flat_map heard_events hs) → IsFoundIn (kept_at old) stamp past before life → FoundOver old life hs new (behind past (flat_map heard_events hs))
  all_found old new life hs past p told isat durable found = each_found heard_events came_found old new life hs past p told isat durable found

  -- what was opened unasked
  unasked_found : (old new : Server G F) (life : Life) (hs : List Heard) (past : List Event) → HearsAll o facts old hs new → AreToldAt facts stamp old → IsAt (game_at old stamp) life → IsDurableAfter (kept_at old) stamp past (flat_map made_of hs) → IsFoundIn (kept_at old) stamp past before life → FoundOver old life hs new (behind past (flat_map made_of hs))
  unasked_found old new life hs past p told isat durable found = each_found made_of made_found old new life hs past p told isat durable found

  -- ---- a turn

  record DeedFound (old : Server G F) (life : Life) (deed : Deed) (new : Server G F) (past : List Event) : Type 0 where
    stays : StaysServer o facts old new
    game : FoundOver old life (heard_by deed) new past

  round_found : (to : List Recipient) (old new : Server G F) (life : Life) (r : Round) (past : List Event) → IsRound o facts old r new → AreToldAt facts stamp old → IsAt (game_at old stamp) life → IsDurableAfter (kept_at old) stamp past (round_events to r) → IsFoundIn (kept_at old) stamp past before life → DeedFound old life (Answers r) new (behind past (round_events to r))
  round_found to old new life r past is told isat durable found =
      let heard = flat_map heard_events r.heard in
      let ends = end_events r.end in
      let sends = round_sent to r.heard r.committed in
      let first : IsDurableAfter (kept_at old) stamp past heard = durable_first (kept_at old) stamp past heard ends (durable_first (kept_at old) stamp past (heard ++ ends) (r.commits ++ sends) durable) in
      let f = all_found old is.mid life r.heard past is.heard told isat first found in
      let s = stays_all o facts stamp old is.mid r.heard is.heard in
      let a = behind past heard in
      let b = behind a ends in
      let c = behind b r.commits in
      let at_end = on_events facts (place_of old) (common old) stamp before life r.heard (game_at is.mid stamp) a ends (asides (kept_at old) stamp a ends (end_aside r.end)) f in
      let at_commit = on_events facts (place_of old) (common old) stamp before life r.heard (game_at is.mid stamp) b r.commits (at_once.commits (place_of old) is.mid.shared.games new.shared.games (AtPlace s.place) stamp (without_value r.committed) r.commits b is.commits.done) at_end in
      let at_sent = on_events facts (place_of old) (common old) stamp before life r.heard (game_at is.mid stamp) c sends (asides (kept_at old) stamp c sends (round_aside to r.heard r.committed)) at_commit in
      let joined : behind past (round_events to r) ≡ behind c sends = behind_join past (heard ++ ends) (r.commits ++ sends) ∙ ap (λ (l : List Event). behind l (r.commits ++ sends)) (behind_join past heard ends) ∙ behind_join b r.commits sends in
      record {
        stays = stays_on o facts old is.mid new s (record { common_is = stays_by o facts is.mid new is.same.common.config is.same.common.tables; place = is.commits.still.place });
        game = at_now facts (place_of old) (common old) stamp before life r.heard (game_at is.mid stamp) (game_at new stamp) (behind past (round_events to r)) (same_game o facts stamp is.mid new is.same.common.tables is.same.seats)
            (at_past facts (place_of old) (common old) stamp before life r.heard (game_at is.mid stamp) (behind c sends) (behind past (round_events to r)) joined at_sent);
      }

  deed_found : (to : List Recipient) (old new : Server G F) (life : Life) (deed : Deed) (past : List Event) → IsDeed o facts old deed new → AreToldAt facts stamp old → IsAt (game_at old stamp) life → IsDurableAfter (kept_at old) stamp past (deed_events to deed) → IsFoundIn (kept_at old) stamp past before life → DeedFound old life deed new (behind past (deed_events to deed))
  deed_found to old new life (Answers r) past is told isat durable found = round_found to old new life r past is told isat durable found
  deed_found to old new life HearsNone past is told isat durable found = record {
    stays = record { common_is = ap common is; place = ap (λ (s : Server G F). facts.place s.shared.games) is };
    game = nothing facts (place_of old) (common old) stamp before life (game_at new stamp) (behind past (Missed ∷ [])) (subst (λ (s : Server G F). IsAt (game_at s stamp) life) (sym is) isat)
        (found_stays (kept_at old) stamp past (Missed ∷ []) before life (aside_one (kept_at old) stamp past Missed tt) found);
  }

  turns_found : (form : LineForm) (texts : List (List ℕ)) (to : List Recipient) (old new : Server G F) (turns : List Turn) (life : Life) (past : List Event) → InTurns o facts form texts old turns new → AreToldAt facts stamp old → IsAt (game_at old stamp) life → IsDurableAfter (kept_at old) stamp past (run_events to turns) → IsFoundIn (kept_at old) stamp past before life → FoundOver old life (heard_in_turns turns) new (behind past (run_events to turns))
  unfolding InTurns
  turns_found form texts to old new [] life past p told isat durable found = nothing facts (place_of old) (common old) stamp before life (game_at new stamp) past (subst (λ (s : Server G F). IsAt (game_at s stamp) life) (sym p) isat) found
  turns_found form texts to old new (turn ∷ turns) life past p told isat durable found =
      let done = deed_events to turn.deed in
      let all = turn_events to turn in
      let rest = run_events to turns in
      let mine : IsDurableAfter (kept_at old) stamp past all = durable_first (kept_at old) stamp past all rest durable in
      let d = deed_found to old p.0 life turn.deed past p.1.deed told isat (durable_first (kept_at old) stamp past done turn.lines mine) found in
      let a = behind past done in
      let b = behind a turn.lines in
      let joined : behind past all ≡ b = behind_join past done turn.lines in
      let lined = on_events facts (place_of old) (common old) stamp before life (heard_by turn.deed) (game_at p.0 stamp) a turn.lines (asides (kept_at old) stamp a turn.lines (lines_aside form texts (deed_lines turn.deed) turn.is_out turn.lines p.1.lines)) d.game in
      let first = at_past facts (place_of old) (common old) stamp before life (heard_by turn.deed) (game_at p.0 stamp) b (behind past all) joined lined in
      let more = turns_found form (after_lines texts (deed_lines turn.deed)) to p.0 new turns first.played.life (behind past all) p.2 (told_deed o facts stamp old p.0 turn.deed p.1.deed told) first.played.at (durable_mid old p.0 (behind past all) rest d.stays (durable_rest (kept_at old) stamp past all rest durable)) (found_mid old p.0 (behind past all) first.played.life d.stays first.found) in
      at_past facts (place_of old) (common old) stamp before life (heard_by turn.deed ++ heard_in_turns turns) (game_at new stamp) (behind (behind past all) rest) (behind past (all ++ rest)) (behind_join past all rest)
      (on_heard facts (place_of old) (common old) stamp before life (heard_by turn.deed) (heard_in_turns turns) (game_at p.0 stamp) (game_at new stamp) (behind past all) (behind (behind past all) rest) first
      (from_before old p.0 first.played.life (heard_in_turns turns) (game_at new stamp) (behind (behind past all) rest) d.stays more))

-- ---- turns, and datagrams behind them

module _ {T P F K S L G : Type 0} (o : Outside T P F K S L) (facts : GamesFacts G) (at_once : KeepsAtOnce facts) (stamp : List ℕ) (before : PlaceKeeper) where
  pub work_found : (form : LineForm) (texts : List (List ℕ)) (to : List Recipient) (old mid new : Server G F) (turns : List Turn) (heard : List Heard) (life : Life) (past : List Event) → InTurns o facts form texts old turns mid → HearsAll o facts mid heard new → AreToldAt facts stamp old → IsAt (game_at old stamp) life
      → IsDurableAfter (facts.places (facts.place old.shared.games) stamp) stamp past (run_events to turns ++ flat_map heard_events heard) → IsFoundIn (facts.places (facts.place old.shared.games) stamp) stamp past before life
      → FoundGame facts (facts.place old.shared.games) (common old) stamp before life (heard_in_turns turns ++ heard) (game_at new stamp) (behind past (run_events to turns ++ flat_map heard_events heard))
  work_found form texts to old mid new turns heard life past p hears told isat durable found =
      let at = facts.places (facts.place old.shared.games) stamp in
      let all = run_events to turns in
      let rest = flat_map heard_events heard in
      let first = turns_found o facts at_once stamp before form texts to old mid turns life past p told isat (durable_first at stamp past all rest durable) found in
      let s = turns_stay o facts stamp form texts old mid turns p in
      let more = all_found o facts at_once stamp before mid new first.played.life heard (behind past all) hears (told_turns o facts stamp form texts old mid turns p told) first.played.at (durable_mid o facts at_once stamp before old mid (behind past all) rest s (durable_rest at stamp past all rest durable)) (found_mid o facts at_once stamp before old mid (behind past all) first.played.life s first.found) in
      at_past facts (facts.place old.shared.games) (common old) stamp before life (heard_in_turns turns ++ heard) (game_at new stamp) (behind (behind past all) rest) (behind past (all ++ rest)) (behind_join past all rest)
      (on_heard facts (facts.place old.shared.games) (common old) stamp before life (heard_in_turns turns) heard (game_at mid stamp) (game_at new stamp) (behind past all) (behind (behind past all) rest) first
      (from_before o facts at_once stamp before old mid first.played.life heard (game_at new stamp) (behind (behind past all) rest) s more))

  -- what was opened unasked first
  pub record OpenedFound (old begun new : Server G F) (unasked heard : List Heard) (past : List Event) : Type 0 where
    pub game : OpenedGame facts (facts.place old.shared.games) (common old) stamp unasked (game_at begun stamp) heard
    pub over : AreOverLeft (Shut before) (acts_in game)
    pub found : IsFoundIn (facts.places (facts.place old.shared.games) stamp) stamp past before game.life

  pub opened_found : (form : LineForm) (texts : List (List ℕ)) (to : List Recipient) (old begun mid new : Server G F) (unasked : List Heard) (asked : List Event) (turns : List Turn) (heard : List Heard) (past : List Event) → HearsAll o facts old unasked begun → InTurns o facts form texts begun turns mid → HearsAll o facts mid heard new → AreToldAt facts stamp old → IsAt (game_at old stamp) Fresh
      → StaysFound (facts.places (facts.place old.shared.games) stamp) stamp (behind past (flat_map made_of unasked)) asked
      → IsDurableAfter (facts.places (facts.place old.shared.games) stamp) stamp past (flat_map made_of unasked ++ (asked ++ (run_events to turns ++ flat_map heard_events heard))) → IsFoundIn (facts.places (facts.place old.shared.games) stamp) stamp past before Fresh
      → OpenedFound old begun new unasked (heard_in_turns turns ++ heard) (behind past (flat_map made_of unasked ++ (asked ++ (run_events to turns ++ flat_map heard_events heard))))
  opened_found form texts to old begun mid new unasked asked turns heard past opens p hears told isat asks durable found =
      let place = facts.place old.shared.games in
      let at = facts.places place stamp in
      let opened = flat_map made_of unasked in
      let rest = run_events to turns ++ flat_map heard_events heard in
      let a = behind past opened in
      let b = behind a asked in
      let f = unasked_found o facts at_once stamp before old begun Fresh unasked past opens told isat (durable_first at stamp past opened (asked ++ rest) durable) found in
      let first = on_events facts place (common old) stamp before Fresh unasked (game_at begun stamp) a asked asks f in
      let s = stays_all o facts stamp old begun unasked opens in
      let q = from_before o facts at_once stamp before old begun first.played.life (heard_in_turns turns ++ heard) (game_at new stamp) (behind b rest) s
      (work_found form texts to begun mid new turns heard first.played.life b p hears (told_all o facts stamp old begun unasked opens told) first.played.at
      (durable_mid o facts at_once stamp before old begun b rest s (durable_rest at stamp a asked rest (durable_rest at stamp past opened (asked ++ rest) durable))) (found_mid o facts at_once stamp before old begun b first.played.life s first.found)) in
      let p = first.played in
      let leads : life_through (left_before before Fresh) (all_acts p.each) ≡ left_before before p.life = left_acts before Fresh (all_acts p.each) ∙ ap (left_before before) (played_are_hosted facts place (common old) stamp Fresh p.life unasked p.each p.plays).on.leads in
      record {
        game = record { first = p.each; mid = p.life; opens = p.plays; at = p.at; each = q.played.each; life = q.played.life; plays = q.played.plays };
        over = over_join (left_before before Fresh) (all_acts p.each) (all_acts q.played.each) first.over (subst (λ (l : Life). AreOverLeft l (all_acts q.played.each)) (sym leads) q.over);
        found = subst (λ (l : List Event). IsFoundIn at stamp l before q.played.life) (sym (behind_join past opened (asked ++ rest) ∙ behind_join a asked rest)) q.found;
      }

pub games_are_found : {T P F K S L G : Type 0} (o : Outside T P F K S L) (facts : GamesFacts G) → KeepsAtOnce facts → GamesAreFound o facts
games_are_found o facts at_once form texts to old new turns stamp before was past p told isat durable found = turns_found o facts at_once stamp before form texts to old new turns was past p told isat durable found
