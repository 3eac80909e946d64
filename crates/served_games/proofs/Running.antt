-- One game in a run: datagram by datagram, round by round, turn by turn.
use Rattle.std.proofs.Common.{◌≡◌, inl, inr, ◌∙◌, ℕ, Bool, true, false, cond, List, [], ◌∷◌, ◌++◌, Option, option_map, refl, sym, ap, subst}
use Rattle.std.specs.Prelude.{Result, Ok, Err}
use Rattle.std.specs.Str.{bytes_eq}
use Rattle.arbiter_core.specs.Delivers.{Moment}
use Rattle.arbiter_server.proofs.Turning.{itself, same_stamp}
use Rattle.arbiter_server.specs.Acts.{DatagramReply, is_stamp, stamp_by}
use Rattle.arbiter_server.specs.Games.{CommonView}
use Rattle.judge_core.specs.Tables.{Holding}
use Rattle.move_msg.specs.Heard.{heard_in}
use Rattle.move_msg.specs.Messages.{stamp_in}
use Rattle.move_msg.specs.declared.message.Message.{Message}
use Rattle.move_msg.specs.declared.message.MessageFault.{MessageFault}
use Rattle.timeline.specs.Outsides.{Outside}
use Rattle.game_folder.specs.Drafts.{DraftView}
use Rattle.game_folder.specs.Holdings.{GamesFacts}
use Rattle.game_server.specs.Datagrams.{HearsDatagram, IsLeftOpen, IsNotOf, was_open}
use Rattle.game_server.specs.Fates.{GoesTo, fate_leaves, fate_line}
use Rattle.game_server.specs.Printing.{LineForm, after_lines}
use Rattle.game_server.specs.Rounds.{Heard, HearsAll}
use Rattle.game_server.specs.Runs.{Answers, Deed, HearsNone, InTurns, IsDeed, Turn, deed_lines}
use Rattle.game_server.specs.Seats.{common, open_at, seat_moment}
use Rattle.game_server.specs.declared.seat.Seat.{Seat}
use Rattle.game_server.specs.declared.server.Server.{Server}
use Rattle.served_games.specs.ServedGames.{GamesArePlayed, IsAt, PlayedGame, PlaysAll, game_at, heard_by, heard_in_turns, is_for, made_for, reply_for, reply_to}
use Rattle.served_games.proofs.Going.{Life, plays_join}
use Rattle.served_games.proofs.Playing.{Next, aside, fate_reply, fated, reply_with}

module _ {T P F K S L G : Type 0} (o : Outside T P F K S L) (facts : GamesFacts G) where
  -- ---- one datagram

  -- a game as its seat is
  abbrev seen : Holding → Option (Seat F) → Option (Moment DraftView)
  seen set seat = option_map (seat_moment set) seat

  module _ (old new : Server G F) (heard : Heard) (h : HearsDatagram o facts old new heard.datagram heard.reply heard.events) (life : Life) where
    abbrev Goal : List ℕ → Type 0
    Goal stamp = Next facts (common old) old.shared.games stamp life (reply_for stamp heard) (made_for stamp heard) (game_at new stamp) old.shared.games (cond (is_for stamp heard) new.shared.games old.shared.games)

    -- it is of another game, or of none
    left_seen : (was now : Option (Seat F)) → IsLeftOpen was now → IsLeftOpen (seen old.shared.tables was) (seen new.shared.tables now)
    left_seen was now (inl same) = inl (ap (λ (s : Option (Seat F)). seen new.shared.tables s) same ∙ ap (λ (set : Holding). seen set was) h.tables)
    left_seen was now (inr none) = inr (ap (λ (s : Option (Seat F)). seen new.shared.tables s) none)

    other : (stamp : List ℕ) → is_for stamp heard ≡ false → IsNotOf stamp (heard_in heard.datagram) → IsAt (game_at old stamp) life → Goal stamp
    other stamp is not at =
        subst (λ (b : Bool). Next facts (common old) old.shared.games stamp life (cond b (reply_to heard ∷ []) []) (cond b heard.events []) (game_at new stamp) old.shared.games (cond b new.shared.games old.shared.games)) (sym is)
        (aside facts (common old) old.shared.games stamp life (game_at old stamp) (game_at new stamp) old.shared.games at (left_seen (open_at old stamp) (open_at new stamp) (h.others stamp not)))

    -- it is of this game
    module _ (m : Message) (is : heard_in heard.datagram ≡ Ok m) where
      reply_is : fate_reply facts (common old) old.shared.games heard.datagram m is h.fate ≡ reply_to heard
      reply_is = ap (λ (x : List Message). reply_with heard.datagram x (fate_line h.fate)) (sym h.is.outputs) ∙ ap (λ (x : List ℕ). reply_with heard.datagram heard.reply.outputs.items x) (sym h.is.line)

      own : IsAt (game_at old (stamp_in m)) life → Goal (stamp_in m)
      own at =
          let stamp = stamp_in m in
          let goes : GoesTo facts (common old) old.shared.games heard.datagram (game_at old stamp) heard.events h.fate new.shared.games = subst (λ (r : Result Message MessageFault). GoesTo facts (common old) old.shared.games heard.datagram (was_open old r) heard.events h.fate new.shared.games) is h.goes in
          let left : game_at new stamp ≡ fate_leaves h.fate = subst (λ (r : Result Message MessageFault). was_open new r ≡ fate_leaves h.fate) is h.own in
          let its : is_for stamp heard ≡ true = ap (λ (r : Result Message MessageFault). is_stamp stamp (stamp_by r)) is ∙ itself stamp in
          let n = fated facts (common old) old.shared.games heard.datagram m is (game_at old stamp) (game_at new stamp) life heard.events at h.fate new.shared.games goes left in
          subst (λ (b : Bool). Next facts (common old) old.shared.games stamp life (cond b (reply_to heard ∷ []) []) (cond b heard.events []) (game_at new stamp) old.shared.games (cond b new.shared.games old.shared.games)) (sym its)
          (subst (λ (r : DatagramReply). Next facts (common old) old.shared.games stamp life (r ∷ []) heard.events (game_at new stamp) old.shared.games new.shared.games) reply_is n)

      by_stamp : (stamp : List ℕ) (b : Bool) → bytes_eq (stamp_in m) stamp ≡ b → IsAt (game_at old stamp) life → Goal stamp
      by_stamp stamp true same at = let s : stamp_in m ≡ stamp = same_stamp (stamp_in m) stamp same in subst (λ (x : List ℕ). IsAt (game_at old x) life → Goal x) s own at
      by_stamp stamp false apart at = other stamp (ap (λ (r : Result Message MessageFault). is_stamp stamp (stamp_by r)) is ∙ apart) (subst (IsNotOf stamp) (sym is) apart) at

    by_heard : (stamp : List ℕ) (r : Result Message MessageFault) → heard_in heard.datagram ≡ r → IsAt (game_at old stamp) life → Goal stamp
    by_heard stamp (Ok m) is at = by_stamp m is stamp (bytes_eq (stamp_in m) stamp) refl at
    by_heard stamp (Err fault) is at = other stamp (ap (λ (r : Result Message MessageFault). is_stamp stamp (stamp_by r)) is) (subst (IsNotOf stamp) (sym is) tt) at

    pub played_one : (stamp : List ℕ) → IsAt (game_at old stamp) life → Goal stamp
    played_one stamp at = by_heard stamp (heard_in heard.datagram) refl at

  -- ---- more of them

  -- what no datagram changes of a server
  pub record StaysServer (old new : Server G F) : Type 0 where
    pub common_is : common new ≡ common old
    pub place : facts.place new.shared.games ≡ facts.place old.shared.games

  pub stays_by : (old new : Server G F) → new.shared.config ≡ old.shared.config → new.shared.tables ≡ old.shared.tables → common new ≡ common old
  stays_by old new config tables = ap (λ (c : _). Rattle.arbiter_server.specs.Games.common_with c new.shared.tables) config ∙ ap (λ (s : Holding). Rattle.arbiter_server.specs.Games.common_with old.shared.config s) tables

  pub stays_on : (old mid new : Server G F) → StaysServer old mid → StaysServer mid new → StaysServer old new
  stays_on old mid new p q = record { common_is = q.common_is ∙ p.common_is; place = q.place ∙ p.place }

  abbrev Played : Server G F → List ℕ → Life → List Heard → Server G F → Type 0
  Played old stamp life hs new = PlayedGame facts (facts.place old.shared.games) (common old) stamp life hs (game_at new stamp)

  module _ (stamp : List ℕ) where
    -- what was played from a server that stayed the same
    pub before : (old mid : Server G F) (life : Life) (hs : List Heard) (now : Option (Moment DraftView)) → StaysServer old mid → PlayedGame facts (facts.place mid.shared.games) (common mid) stamp life hs now → PlayedGame facts (facts.place old.shared.games) (common old) stamp life hs now
    before old mid life hs now s p = subst (λ (c : CommonView). PlayedGame facts (facts.place old.shared.games) c stamp life hs now) s.common_is (subst (λ (x : facts.Place). PlayedGame facts x (common mid) stamp life hs now) s.place p)

    more : (old mid new : Server G F) (life : Life) (hs gs : List Heard) (p : Played old stamp life hs mid) → PlayedGame facts (facts.place old.shared.games) (common old) stamp p.life gs (game_at new stamp) → Played old stamp life (hs ++ gs) new
    more old mid new life hs gs p q = record {
      each = p.each ++ q.each;
      life = q.life;
      plays = plays_join facts (facts.place old.shared.games) (common old) stamp life p.life q.life hs gs p.each q.each p.plays q.plays;
      at = q.at;
    }

    one_played : (old new : Server G F) (life : Life) (h : Heard) → HearsDatagram o facts old new h.datagram h.reply h.events → IsAt (game_at old stamp) life → Played old stamp life (h ∷ []) new
    unfolding PlaysAll
    one_played old new life h d at =
        let n = played_one old new h d life stamp at in
        record { each = n.acts ∷ []; life = n.to; plays = (n.to, n.on, refl); at = n.at }

    none_played : (old new : Server G F) (life : Life) → game_at new stamp ≡ game_at old stamp → IsAt (game_at old stamp) life → Played old stamp life [] new
    unfolding PlaysAll
    none_played old new life same at = record { each = []; life = life; plays = refl; at = subst (λ (w : Option (Moment DraftView)). IsAt w life) (sym same) at }

    pub stays_one : (old new : Server G F) (h : Heard) → HearsDatagram o facts old new h.datagram h.reply h.events → StaysServer old new
    stays_one old new h d = record { common_is = stays_by old new d.config d.tables; place = d.still.place }

    pub stays_all : (old new : Server G F) (hs : List Heard) → HearsAll o facts old hs new → StaysServer old new
    unfolding HearsAll
    stays_all old new [] p = record { common_is = ap common p; place = ap (λ (s : Server G F). facts.place s.shared.games) p }
    stays_all old new (h ∷ hs) p = stays_on old p.0 new (stays_one old p.0 h p.1) (stays_all p.0 new hs p.2)

    pub all_played : (old new : Server G F) (life : Life) (hs : List Heard) → HearsAll o facts old hs new → IsAt (game_at old stamp) life → Played old stamp life hs new
    unfolding HearsAll
    all_played old new life [] p at = none_played old new life (ap (λ (s : Server G F). game_at s stamp) p) at
    all_played old new life (h ∷ hs) p at =
        let first = one_played old p.0 life h p.1 at in
        more old p.0 new life (h ∷ []) hs first (before old p.0 first.life hs (game_at new stamp) (stays_one old p.0 h p.1) (all_played p.0 new first.life hs p.2 first.at))

    -- ---- turns

    record DeedPlayed (old : Server G F) (life : Life) (deed : Deed) (new : Server G F) : Type 0 where
      stays : StaysServer old new
      played : Played old stamp life (heard_by deed) new

    pub same_game : (mid new : Server G F) → new.shared.tables ≡ mid.shared.tables → new.seats ≡ mid.seats → game_at new stamp ≡ game_at mid stamp
    same_game mid new tables seats = ap (λ (set : Holding). option_map (seat_moment set) (open_at new stamp)) tables ∙ ap (λ (l : _). option_map (seat_moment mid.shared.tables) (Rattle.arbiter_server.specs.Room.at_stamp (Rattle.lru.specs.LruCache.LruCache.entries l) stamp)) seats

    deed_played : (old new : Server G F) (life : Life) (deed : Deed) → IsDeed o facts old deed new → IsAt (game_at old stamp) life → DeedPlayed old life deed new
    deed_played old new life (Answers round) r at =
        let p = all_played old r.mid life round.heard r.heard at in
        record {
          stays = stays_on old r.mid new (stays_all old r.mid round.heard r.heard) (record { common_is = stays_by r.mid new r.same.common.config r.same.common.tables; place = r.commits.still.place });
          played = record { each = p.each; life = p.life; plays = p.plays; at = subst (λ (w : Option (Moment DraftView)). IsAt w p.life) (sym (same_game r.mid new r.same.common.tables r.same.seats)) p.at };
        }
    deed_played old new life HearsNone is at = record {
      stays = record { common_is = ap common is; place = ap (λ (s : Server G F). facts.place s.shared.games) is };
      played = none_played old new life (ap (λ (s : Server G F). game_at s stamp) is) at;
    }

    turns_played : (form : LineForm) (texts : List (List ℕ)) (old new : Server G F) (turns : List Turn) (life : Life) → InTurns o facts form texts old turns new → IsAt (game_at old stamp) life → Played old stamp life (heard_in_turns turns) new
    unfolding InTurns
    turns_played form texts old new [] life p at = none_played old new life (ap (λ (s : Server G F). game_at s stamp) p) at
    turns_played form texts old new (turn ∷ turns) life p at =
        let d = deed_played old p.0 life turn.deed p.1.deed at in
        more old p.0 new life (heard_by turn.deed) (heard_in_turns turns) d.played
        (before old p.0 d.played.life (heard_in_turns turns) (game_at new stamp) d.stays (turns_played form (after_lines texts (deed_lines turn.deed)) p.0 new turns d.played.life p.2 d.played.at))

    deed_stays : (old new : Server G F) (deed : Deed) → IsDeed o facts old deed new → StaysServer old new
    deed_stays old new (Answers r) is = stays_on old is.mid new (stays_all old is.mid r.heard is.heard) (record { common_is = stays_by is.mid new is.same.common.config is.same.common.tables; place = is.commits.still.place })
    deed_stays old new HearsNone is = record { common_is = ap common is; place = ap (λ (s : Server G F). facts.place s.shared.games) is }

    pub turns_stay : (form : LineForm) (texts : List (List ℕ)) (old new : Server G F) (turns : List Turn) → InTurns o facts form texts old turns new → StaysServer old new
    unfolding InTurns
    turns_stay form texts old new [] p = record { common_is = ap common p; place = ap (λ (s : Server G F). facts.place s.shared.games) p }
    turns_stay form texts old new (turn ∷ turns) p = stays_on old p.0 new (deed_stays old p.0 turn.deed p.1.deed) (turns_stay form (after_lines texts (deed_lines turn.deed)) p.0 new turns p.2)

  pub games_are_played : GamesArePlayed o facts
  games_are_played form texts old new turns stamp was p at = turns_played stamp form texts old new turns was p at
