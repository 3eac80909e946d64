-- What a start finds behind turns over a store is what some first ones of them leave, among them each whose answers went out.
use Rattle.std.proofs.Common.{◌≡◌, ◌⊎◌, inl, inr, ◌∙◌, ℕ, List, [], ◌∷◌, ◌++◌, Option, flat_map, refl, sym, ap, subst, append-nil}
use Rattle.std.specs.Prelude.{Result, Ok, Err}
use Rattle.std.proofs.lemmas.List.Concat.{flat_map-append}
use Rattle.arbiter_server.specs.Games.{CommonView, Fresh, Open, Shut}
use Rattle.arbiter_server.specs.declared.fault.Uncommitted.{Uncommitted}
use Rattle.system_io.specs.declared.recipient.Recipient.{Recipient}
use Rattle.timeline.specs.Events.{Event, Missed}
use Rattle.timeline.specs.Outsides.{Outside}
use Rattle.game_folder.specs.Holdings.{GamesFacts, without_value}
use Rattle.game_folder.specs.Places.{KeptAt}
use Rattle.game_server.specs.Printing.{LineForm, after_lines}
use Rattle.game_server.specs.Rounds.{Heard, HearsAll, IsRound, Round, end_events, heard_events, round_events, round_sent}
use Rattle.game_server.specs.Runs.{Answers as AnswersRound, Deed, HearsNone, InTurns, IsDeed, IsTurn, Turn, deed_events, deed_lines, run_events, turn_events}
use Rattle.game_server.specs.declared.server.Server.{Server}
use Rattle.served_games.specs.Durable.{IsDurableAfter, MayFind, StaysFound, behind, left_before, made_of}
use Rattle.served_games.specs.InOrder.{FindsItsOwn, KeepsInOrder}
use Rattle.served_games.specs.PlaceKeepers.{PlaceKeeper}
use Rattle.served_games.specs.ServedGames.{AreOverLeft, IsAt, PlaysAll, all_acts, game_at, heard_by, heard_in_turns, life_through}
use Rattle.served_games.specs.StoreRuns.{IsLeftSo, NoneSent, WasSent}
use Rattle.served_games.proofs.Asides.{aside_one, asides, end_aside, lines_aside, round_aside}
use Rattle.served_games.proofs.Finding.{behind_join, durable_first, durable_rest, left_acts, over_join}
use Rattle.served_games.proofs.Going.{Acts, Life, played_are_hosted, plays_join}
use Rattle.served_games.proofs.Running.{stays_all, stays_one}
use Rattle.served_games.proofs.Taking.{FoundAt, IsHere, TakenOver, at_past, deed_taken, found_less, here_on, nothing, on_aside, on_heard, one_taken, round_heard}

pub found_left : (may : Option (List ℕ) → Type 0) (before : PlaceKeeper) (life : Life) → FindsItsOwn may before life → (found : Option (List ℕ)) → may found → IsLeftSo before life found
found_left may before Fresh h found m = h found m
found_left may before (Shut left) h found m = h found m
found_left may before (Open now) h found m = h found m

ok_not_err : (why : Uncommitted) → ◌≡◌ {A = Result (Unit {0}) Uncommitted} (Err why) (Ok tt) → ⊥
ok_not_err why e = cc

module _ {T P F K S L G : Type 0} (o : Outside T P F K S L) (facts : GamesFacts G) (IsFit : G → Type 0) (May : G → List ℕ → List Event → Option (List ℕ) → Type 0) (order : KeepsInOrder facts IsFit May) (stamp : List ℕ) (place : facts.Place) (t : CommonView) (before : PlaceKeeper)
    (heard_stays : (old new : Server G F) (hs : List Heard) (past : List Event) → HearsAll o facts old hs new → IsDurableAfter (facts.places place stamp) stamp past (flat_map heard_events hs) → StaysFound (facts.places place stamp) stamp past (flat_map heard_events hs)) where
  abbrev at : KeptAt
  at = facts.places place stamp

  abbrev Here : Server G F → Type 0
  Here server = IsHere o facts IsFit May order stamp place t before server

  abbrev FoundBy : Server G F → Life → List Event → Type 0
  FoundBy server life past = FoundAt o facts IsFit May order stamp place t before server life past

  abbrev Taken : Life → List Heard → Server G F → List Event → Type 0
  Taken life hs new past = TakenOver o facts IsFit May order stamp place t before life hs new past

  -- events that change nothing of what a start finds
  pub found_on : (server : Server G F) (life : Life) (past events : List Event) → Here server → StaysFound at stamp past events → FoundBy server life past → FoundBy server life (behind past events)
  found_on server life past events here s f = λ fit.
      found_less (May server.shared.games stamp (behind past events)) (May server.shared.games stamp past) before life
      (order.stays server.shared.games stamp events past (subst (λ (x : facts.Place). StaysFound (facts.places x stamp) stamp past events) (sym here.there) s)) (f fit)

  -- ---- what was opened unasked

  pub unasked_taken : (old new : Server G F) (life : Life) (hs : List Heard) (past : List Event) → HearsAll o facts old hs new → Here old → IsAt (game_at old stamp) life → IsDurableAfter at stamp past (flat_map made_of hs) → FoundBy old life past → Taken life hs new (behind past (flat_map made_of hs))
  unfolding HearsAll
  unasked_taken old new life [] past p here isat durable found =
      nothing o facts IsFit May order stamp place t before life new past (subst (λ (s : Server G F). IsAt (game_at s stamp) life) (sym p) isat) (subst (λ (s : Server G F). FoundBy s life past) (sym p) found)
  unasked_taken old new life (h ∷ hs) past p here isat durable found =
      let events = made_of h in
      let rest = flat_map made_of hs in
      let first = one_taken o facts IsFit May order stamp place t before old p.0 h p.1 here life isat past (durable_first at stamp past events rest durable) found in
      let more = unasked_taken p.0 new first.played.life hs (behind past events) p.2 (here_on o facts IsFit May order stamp place t before old p.0 (stays_one o facts stamp old p.0 h p.1) here) first.played.at (durable_rest at stamp past events rest durable) first.found in
      at_past o facts IsFit May order stamp place t before life (h ∷ hs) new (behind (behind past events) rest) (behind past (events ++ rest)) (behind_join past events rest)
      (on_heard o facts IsFit May order stamp place t before life (h ∷ []) hs p.0 new (behind past events) (behind (behind past events) rest) first more)

  -- ---- a turn

  -- the acts at some datagrams leave this
  record Leaves (life : Life) (hs : List Heard) (found : Option (List ℕ)) : Type 0 where
    each : List Acts
    to : Life
    plays : PlaysAll facts place t stamp life hs each to
    over : AreOverLeft (left_before before life) (all_acts each)
    left : IsLeftSo before to found

  -- nothing counts, and no answers went out; or all does
  abbrev DeedCounts : Life → Deed → List Event → Option (List ℕ) → Type 0
  DeedCounts life deed past found = (MayFind at stamp past found × (WasSent deed → ⊥)) ⊎ Leaves life (heard_by deed) found

  taken_leaves : (life : Life) (hs : List Heard) (server : Server G F) (past : List Event) → Taken life hs server past → IsFit server.shared.games → (found : Option (List ℕ)) → May server.shared.games stamp past found → Leaves life hs found
  taken_leaves life hs server past f fit found m = record {
    each = f.played.each;
    to = f.played.life;
    plays = f.played.plays;
    over = f.over;
    left = found_left (May server.shared.games stamp past) before f.played.life (f.found fit) found m;
  }

  round_counts : (to : List Recipient) (old new : Server G F) (life : Life) (r : Round) (past : List Event) → IsRound o facts old r new → Here old → IsAt (game_at old stamp) life → IsDurableAfter at stamp past (round_events to r) → FoundBy old life past → (found : Option (List ℕ)) → MayFind at stamp (behind past (round_events to r)) found → DeedCounts life (AnswersRound r) past found
  round_counts to old new life r past is here isat durable found_so found m = by r.committed refl
    where
      heard : List Event
      heard = flat_map heard_events r.heard

      ends : List Event
      ends = end_events r.end

      sends : List Event
      sends = round_sent to r.heard r.committed

      a : List Event
      a = behind past (heard ++ ends)

      first : IsDurableAfter at stamp past (heard ++ ends)
      first = durable_first at stamp past (heard ++ ends) (r.commits ++ sends) durable

      taken : Taken life r.heard is.mid a
      taken = round_heard o facts IsFit May order stamp place t before old is.mid life r past is.heard here isat first found_so

      there : Here is.mid
      there = here_on o facts IsFit May order stamp place t before old is.mid (stays_all o facts stamp old is.mid r.heard is.heard) here

      joined : behind past ((heard ++ ends) ++ (r.commits ++ sends)) ≡ behind (behind a r.commits) sends
      joined = behind_join past (heard ++ ends) (r.commits ++ sends) ∙ behind_join a r.commits sends

      -- behind the commit
      committed : MayFind at stamp (behind a r.commits) found
      committed = asides at stamp (behind a r.commits) sends (round_aside to r.heard r.committed) found (subst (λ (l : List Event). MayFind at stamp l found) joined m)

      at_mid : MayFind (facts.places (facts.place is.mid.shared.games) stamp) stamp (behind a r.commits) found
      at_mid = subst (λ (x : facts.Place). MayFind (facts.places x stamp) stamp (behind a r.commits) found) (sym there.there) committed

      -- before what was heard
      earlier : MayFind at stamp a found → MayFind at stamp past found
      earlier x =
          heard_stays old is.mid r.heard past is.heard (durable_first at stamp past heard ends first) found
          (asides at stamp (behind past heard) ends (end_aside r.end) found (subst (λ (l : List Event). MayFind at stamp l found) (behind_join past heard ends) x))

      broken : (why : Uncommitted) → r.committed ≡ Err why → (IsFit is.mid.shared.games × May is.mid.shared.games stamp a found) ⊎ MayFind (facts.places (facts.place is.mid.shared.games) stamp) stamp a found → DeedCounts life (AnswersRound r) past found
      broken why e (inl x) = inr (taken_leaves life r.heard is.mid a taken x.0 found x.1)
      broken why e (inr x) = inl (earlier (subst (λ (y : facts.Place). MayFind (facts.places y stamp) stamp a found) there.there x), λ sent. ok_not_err why (sym e ∙ sent))

      by : (told : Result (Unit {0}) Uncommitted) → r.committed ≡ told → DeedCounts life (AnswersRound r) past found
      by (Ok x) e =
          let done : facts.commits is.mid.shared.games (Ok tt) r.commits new.shared.games = subst (λ (y : Result (Unit {0}) Uncommitted). facts.commits is.mid.shared.games (without_value y) r.commits new.shared.games) e is.commits.done in
          inr (taken_leaves life r.heard is.mid a taken (order.commits_ok is.mid.shared.games new.shared.games r.commits done) found (order.lasts is.mid.shared.games new.shared.games stamp r.commits a done found at_mid))
      by (Err why) e =
          let fails : facts.commits is.mid.shared.games (Err why) r.commits new.shared.games = subst (λ (y : Result (Unit {0}) Uncommitted). facts.commits is.mid.shared.games (without_value y) r.commits new.shared.games) e is.commits.done in
          broken why e (order.breaks_off is.mid.shared.games new.shared.games stamp why r.commits a fails found at_mid)

  deed_counts : (to : List Recipient) (old new : Server G F) (life : Life) (deed : Deed) (past : List Event) → IsDeed o facts old deed new → Here old → IsAt (game_at old stamp) life → IsDurableAfter at stamp past (deed_events to deed) → FoundBy old life past → (found : Option (List ℕ)) → MayFind at stamp (behind past (deed_events to deed)) found → DeedCounts life deed past found
  deed_counts to old new life (AnswersRound r) past is here isat durable found_so found m = round_counts to old new life r past is here isat durable found_so found m
  deed_counts to old new life HearsNone past is here isat durable found_so found m = inl (aside_one at stamp past Missed tt found m, λ x. x)

  -- ---- turns

  -- the acts at the first ones of some turns leave this, and no answers of another one went out
  pub record Counts (life : Life) (turns : List Turn) (found : Option (List ℕ)) : Type 0 where
    pub first : List Turn
    pub later : List Turn
    pub are : turns ≡ first ++ later
    pub none : NoneSent later
    pub each : List Acts
    pub to : Life
    pub plays : PlaysAll facts place t stamp life (heard_in_turns first) each to
    pub over : AreOverLeft (left_before before life) (all_acts each)
    pub left : IsLeftSo before to found

  abbrev pub TurnsCount : Life → List Turn → List Event → Option (List ℕ) → Type 0
  TurnsCount life turns past found = (MayFind at stamp past found × NoneSent turns) ⊎ Counts life turns found

  -- what was played goes on
  pub over_on : (old new : Life) (hs : List Heard) (xs ys : List Acts) → PlaysAll facts place t stamp old hs xs new → AreOverLeft (left_before before old) (all_acts xs) → AreOverLeft (left_before before new) (all_acts ys) → AreOverLeft (left_before before old) (all_acts xs ++ all_acts ys)
  over_on old new hs xs ys plays p q =
      let leads : life_through (left_before before old) (all_acts xs) ≡ left_before before new = left_acts before old (all_acts xs) ∙ ap (left_before before) (played_are_hosted facts place t stamp old new hs xs plays).on.leads in
      over_join (left_before before old) (all_acts xs) (all_acts ys) p (subst (λ (l : Life). AreOverLeft l (all_acts ys)) (sym leads) q)

  -- what was found behind a turn's lines was found before them
  lined : (form : LineForm) (texts : List (List ℕ)) (to : List Recipient) (old mid : Server G F) (turn : Turn) (past : List Event) → IsTurn o facts form texts old turn mid → (k : KeptAt) → StaysFound k stamp (behind past (deed_events to turn.deed)) turn.lines
  lined form texts to old mid turn past is k = asides k stamp (behind past (deed_events to turn.deed)) turn.lines (lines_aside form texts (deed_lines turn.deed) turn.is_out turn.lines is.lines)

  one_turn : (life new : Life) (turn : Turn) (each : List Acts) → PlaysAll facts place t stamp life (heard_by turn.deed) each new → PlaysAll facts place t stamp life (heard_in_turns (turn ∷ [])) each new
  one_turn life new turn each p = subst (λ (hs : List Heard). PlaysAll facts place t stamp life hs each new) (sym (append-nil (heard_by turn.deed))) p

  turn_counts : (form : LineForm) (texts : List (List ℕ)) (to : List Recipient) (old mid : Server G F) (turn : Turn) (turns : List Turn) (life : Life) (past : List Event) → IsTurn o facts form texts old turn mid → Here old → IsAt (game_at old stamp) life → IsDurableAfter at stamp past (deed_events to turn.deed) → FoundBy old life past
      → (first : Taken life (heard_by turn.deed) mid (behind past (turn_events to turn))) (found : Option (List ℕ)) → TurnsCount first.played.life turns (behind past (turn_events to turn)) found → TurnsCount life (turn ∷ turns) past found
  turn_counts form texts to old mid turn turns life past is here isat durable found_so first found (inl x) =
      by (deed_counts to old mid life turn.deed past is.deed here isat durable found_so found
      (lined form texts to old mid turn past is at found (subst (λ (l : List Event). MayFind at stamp l found) (behind_join past (deed_events to turn.deed) turn.lines) x.0)))
    where
      by : DeedCounts life turn.deed past found → TurnsCount life (turn ∷ turns) past found
      by (inl y) = inl (y.0, (y.1, x.1))
      by (inr y) = inr (record { first = turn ∷ []; later = turns; are = refl; none = x.1; each = y.each; to = y.to; plays = one_turn life y.to turn y.each y.plays; over = y.over; left = y.left })
  turn_counts form texts to old mid turn turns life past is here isat durable found_so first found (inr c) = inr (record {
    first = turn ∷ c.first;
    later = c.later;
    are = ap (λ (l : List Turn). turn ∷ l) c.are;
    none = c.none;
    each = first.played.each ++ c.each;
    to = c.to;
    plays = plays_join facts place t stamp life first.played.life c.to (heard_by turn.deed) (heard_in_turns c.first) first.played.each c.each first.played.plays c.plays;
    over = subst (AreOverLeft (left_before before life)) (sym (flat_map-append (λ (acts : Acts). acts) first.played.each c.each)) (over_on life first.played.life (heard_by turn.deed) first.played.each c.each first.played.plays first.over c.over);
    left = c.left;
  })

  pub turns_count : (form : LineForm) (texts : List (List ℕ)) (to : List Recipient) (old new : Server G F) (turns : List Turn) (life : Life) (past : List Event) → InTurns o facts form texts old turns new → Here old → IsAt (game_at old stamp) life → IsDurableAfter at stamp past (run_events to turns) → FoundBy old life past → (found : Option (List ℕ)) → MayFind at stamp (behind past (run_events to turns)) found → TurnsCount life turns past found
  unfolding InTurns
  turns_count form texts to old new [] life past p here isat durable found_so found m = inl (m, tt)
  turns_count form texts to old new (turn ∷ turns) life past p here isat durable found_so found m =
      let done = deed_events to turn.deed in
      let all = turn_events to turn in
      let rest = run_events to turns in
      let mine : IsDurableAfter at stamp past done = durable_first at stamp past done turn.lines (durable_first at stamp past all rest durable) in
      let d = deed_taken o facts IsFit May order stamp place t before to old p.0 life turn.deed past p.1.deed here isat mine found_so in
      let first =
      at_past o facts IsFit May order stamp place t before life (heard_by turn.deed) p.0 (behind (behind past done) turn.lines) (behind past all) (behind_join past done turn.lines)
      (on_aside o facts IsFit May order stamp place t before life (heard_by turn.deed) p.0 (behind past done) turn.lines (lined form texts to old p.0 turn past p.1) d.game) in
      let more = turns_count form (after_lines texts (deed_lines turn.deed)) to p.0 new turns first.played.life (behind past all) p.2 d.here first.played.at (durable_rest at stamp past all rest durable) first.found found (subst (λ (l : List Event). MayFind at stamp l found) (behind_join past all rest) m) in
      turn_counts form texts to old p.0 turn turns life past p.1 here isat mine found_so first found more
