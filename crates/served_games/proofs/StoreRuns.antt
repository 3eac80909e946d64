-- What was told over a store lasts, by the events of all runs.
use Rattle.std.proofs.Common.{◌≡◌, ◌⊎◌, inl, inr, ◌∙◌, ℕ, Bool, true, false, List, [], ◌∷◌, ◌++◌, map, Option, Some, None, flat_map, refl, sym, ap, subst, append_assoc}
use Rattle.std.specs.Prelude.{Ok}
use Rattle.std.specs.List.{AllByRecursion, Contains}
use Rattle.std.proofs.lemmas.List.Concat.{flat_map-append}
use Rattle.std.proofs.lemmas.List.Elements.{All-contains_itself, recursion_from_All}
use Rattle.arbiter_core.specs.Delivers.{Moment}
use Rattle.arbiter_core.specs.Setups.{SetupView}
use Rattle.arbiter_server.specs.Acts.{Action, Unread, Strange, Refuses, Opens, Answers, Closes}
use Rattle.arbiter_server.specs.Games.{CommonView, Fresh, Open, Shut, setup_of}
use Rattle.arbiter_server.specs.declared.games.GameConfig.{GameConfig}
use Rattle.system_io.specs.Records.{StoredRecord}
use Rattle.timeline.specs.Events.{Committed, Event, RecordSought, stamped}
use Rattle.timeline.specs.Outsides.{Outside}
use Rattle.game_folder.specs.Drafts.{DraftView}
use Rattle.game_folder.specs.Holdings.{GamesFacts, SendsNothing}
use Rattle.game_folder.specs.Places.{InStore}
use Rattle.game_folder.specs.StoreGames.{MayCommit, StoredGames, StoredPlace, store_games_facts}
use Rattle.game_server.specs.Rounds.{Heard, HearsAll, heard_events}
use Rattle.game_server.specs.Runs.{Turn, run_events, turn_events}
use Rattle.game_server.specs.Seats.{common, open_at}
use Rattle.game_server.specs.declared.server.Server.{Server}
use Rattle.served_games.specs.Durable.{HasBatch, IsDurableAfter, MayFind, ServedRun, StaysFound, behind, events_of, events_of_all, heard_in_run, last_of, left_before, made_of, turned_of, work_of}
use Rattle.served_games.specs.InOrder.{CanCommit, MayTakeStored}
use Rattle.served_games.specs.Lasting.{Between, IsOfOne, IsToldStill, PlaceRun, RanInTurn, left_by}
use Rattle.served_games.specs.PlaceKeepers.{Follows, PlaceKeeper, found_keeper}
use Rattle.served_games.specs.ServedGames.{AreOverLeft, OpenedGame, PlaysAll, acts_in, all_acts, game_at, heard_in_turns, made_for}
use Rattle.served_games.specs.StoreRuns.{AllHeard, AsFound, BeforeCommit, BeginsBy, BeginsOver, BehindCommit, ComesToCommit, FirstTurns, HasNothing, Imports, InCommit, IsBegun, IsKeptOf, IsLeftSo, IsRunOver, LeadFrom, LeadOn, LeadsTo, NoImport, NoTurns, NoneCommitted, NoneSent, NothingNoted, OverImport, StopsAt, StoreRunsAreLed, StoreRunsAreTold}
use Rattle.served_games.proofs.AtOnce.{if_same}
use Rattle.served_games.proofs.Choosing.{choose, none_stays, only}
use Rattle.served_games.proofs.Enduring.{all_first, all_both, all_one, all_rest, closed_at, for_made, for_run, for_turns, over_fresh}
use Rattle.served_games.proofs.Finding.{behind_join, durable_first, durable_rest}
use Rattle.served_games.proofs.Fronts.{Counts, TurnsCount, found_left, found_on, over_on, turns_count, unasked_taken}
use Rattle.served_games.proofs.Going.{Acts, Life, opened_goes, opening_on, over_first, over_rest, playing_on}
use Rattle.served_games.proofs.InOrder.{all_noted, done_may, none_noted, store_keeps_in_order, undone_may}
use Rattle.served_games.proofs.Lasting.{each_lasts}
use Rattle.served_games.proofs.Noting.{heard_none, made_none}
use Rattle.served_games.proofs.Running.{stays_all, turns_stay}
use Rattle.served_games.proofs.Taking.{FoundAt, IsHere, TakenOver, all_taken, here_on, on_heard, turns_taken}

same_place : (a b c d : List ℕ) → a ≡ c → b ≡ d → ◌≡◌ {A = StoredPlace} (record { folder = a; store_path = b }) (record { folder = c; store_path = d })
same_place a b c d e f = cc

-- ---- each opening is of one setup

module _ {G : Type 0} (facts : GamesFacts G) (place : facts.Place) (t : CommonView) (stamp : List ℕ) (setup : SetupView) (Q : Event → Type 0)
    (one : (game : GameConfig) (events : List Event) → facts.finds place stamp (Ok game) events → AllByRecursion Q events → setup_of t game.name.items game.start game.delay ≡ setup) where
  of_one : (unasked : List Heard) (begun : Option (Moment DraftView)) (heard : List Heard) (p : OpenedGame facts place t stamp unasked begun heard) → AreOverLeft Fresh (acts_in p)
      → AllByRecursion Q (flat_map (made_for stamp) unasked) → AllByRecursion Q (flat_map (made_for stamp) heard) → AllByRecursion (IsOfOne setup) (acts_in p)
  of_one unasked begun heard p over early late =
      let opens = opening_on facts place t stamp unasked begun heard p in
      let plays = playing_on facts place t stamp unasked begun heard p in
      all_both (IsOfOne setup) (all_acts p.first) (all_acts p.each)
      (all_one facts place t stamp setup Q one Fresh p.mid Fresh (all_acts p.first) (flat_map (made_for stamp) unasked) (opens.on.goes (over_first facts place t stamp unasked begun heard p over)) opens.on.makes early)
      (all_one facts place t stamp setup Q one p.mid p.life p.mid (all_acts p.each) (flat_map (made_for stamp) heard) (plays.on.goes (over_rest facts place t stamp unasked begun heard p over)) plays.on.makes late)

-- ---- one run

module _ {T P F K S L : Type 0} (o : Outside T P F K S L) (place : StoredPlace) (stamp : List ℕ) (setup : SetupView) where
  abbrev path : List ℕ
  path = place.store_path

  abbrev May : List Event → Option (List ℕ) → Type 0
  May past found = MayFind (InStore path) stamp past found

  abbrev Durable : List Event → List Event → Type 0
  Durable past events = IsDurableAfter (InStore path) stamp past events

  abbrev Run : Type 0
  Run = ServedRun (StoredGames S) F

  -- what is heard commits nothing
  heard_stays : (old new : Server (StoredGames S) F) (hs : List Heard) (past : List Event) → HearsAll o (store_games_facts o) old hs new → Durable past (flat_map heard_events hs) → StaysFound (InStore path) stamp past (flat_map heard_events hs)
  heard_stays old new hs past p durable = none_stays path stamp past (flat_map heard_events hs) (heard_none o path stamp old new hs p) durable

  -- ---- how a run begins

  module _ (past first : List Event) (durable : Durable past first) (begins : Option (List ℕ)) (m : May (behind past first) begins) where
    -- what was found before it
    abbrev Before : Type 0
    Before = (was : Option (List ℕ)) × May past was × BeginsOver path stamp first was begins

    module _ (early mid rest : List Event) (records : List (List ℕ × StoredRecord)) (is_done : Bool) (none_early : NoneCommitted path stamp early) (none_mid : NoneCommitted path stamp mid) (none_rest : NoneCommitted path stamp rest)
        (are : first ≡ early ++ RecordSought path stamp None ∷ (mid ++ Committed path records is_done ∷ rest)) where
      abbrev looked : Event
      looked = RecordSought path stamp None

      abbrev imported : Event
      imported = Committed path records is_done

      abbrev x : List Event
      x = behind past early

      abbrev z : List Event
      z = behind (looked ∷ x) mid

      durable_all : Durable past (early ++ looked ∷ (mid ++ imported ∷ rest))
      durable_all = subst (Durable past) are durable

      durable_look : Durable x (looked ∷ (mid ++ imported ∷ rest))
      durable_look = durable_rest (InStore path) stamp past early (looked ∷ (mid ++ imported ∷ rest)) durable_all

      none_before : May past None
      none_before = none_stays path stamp past early none_early (durable_first (InStore path) stamp past early (looked ∷ (mid ++ imported ∷ rest)) durable_all) None (durable_look.0 refl refl)

      none_then : (found : Option (List ℕ)) → May z found → found ≡ None
      none_then found may = only path stamp x None found (none_stays path stamp (looked ∷ x) mid none_mid (durable_first (InStore path) stamp (looked ∷ x) mid (imported ∷ rest) durable_look.1) found may)

      behind_import : May (imported ∷ z) begins
      behind_import =
          none_stays path stamp (imported ∷ z) rest none_rest (durable_rest (InStore path) stamp (looked ∷ x) mid (imported ∷ rest) durable_look.1).1 begins
          (subst (λ (l : List Event). May l begins) (ap (behind past) are ∙ behind_join past early (looked ∷ (mid ++ imported ∷ rest)) ∙ behind_join (looked ∷ x) mid (imported ∷ rest)) m)

      abbrev Either : Type 0
      Either = (begins ≡ last_of stamp records) ⊎ (begins ≡ None)

      of_batch : (last : Option (List ℕ)) → last_of stamp records ≡ last → HasBatch last begins (May z begins) → Either
      of_batch None is may = inr (none_then begins may)
      of_batch (Some bytes) is may = inl (may ∙ sym is)

      of_undone : HasBatch (last_of stamp records) begins (May z begins) ⊎ May z begins → Either
      of_undone (inl batch) = of_batch (last_of stamp records) refl batch
      of_undone (inr old) = inr (none_then begins old)

      of_import : (b : Bool) → May (Committed path records b ∷ z) begins → Either
      of_import true may = of_batch (last_of stamp records) refl (if_same path (HasBatch (last_of stamp records) begins (May z begins)) (May z begins) may)
      of_import false may = of_undone (if_same path (HasBatch (last_of stamp records) begins (May z begins) ⊎ May z begins) (May z begins) may)

      import_back : Before
      import_back = by (of_import is_done behind_import)
        where
          by : Either → Before
          by (inl e) = (None, none_before, OverImport (early ++ looked ∷ mid) rest records is_done (are ∙ sym (append_assoc early (looked ∷ mid) (imported ∷ rest))) refl e)
          by (inr e) = (None, none_before, AsFound e)

    begin_back : BeginsBy path stamp first → Before
    begin_back (NoImport none) = (begins, none_stays path stamp past first none durable begins m, AsFound refl)
    begin_back (Imports early mid rest records is_done none_early none_mid none_rest are) = import_back early mid rest records is_done none_early none_mid none_rest are

  -- ---- from where it begins

  module _ (past : List Event) (was begins : Option (List ℕ)) (r : Run) (from : BeginsOver path stamp r.first was begins) (h : IsRunOver o place stamp setup r) (durable : Durable (RecordSought path stamp begins ∷ behind past r.first) (work_of r ++ r.tail)) where
    abbrev t : CommonView
    t = common r.old

    abbrev at_first : PlaceKeeper
    at_first = found_keeper begins

    abbrev Here : Server (StoredGames S) F → Type 0
    Here server = IsHere o (store_games_facts o) CanCommit (MayTakeStored o) (store_keeps_in_order o) stamp place t at_first server

    abbrev Taken : Life → List Heard → Server (StoredGames S) F → List Event → Type 0
    Taken life hs new l = TakenOver o (store_games_facts o) CanCommit (MayTakeStored o) (store_keeps_in_order o) stamp place t at_first life hs new l

    abbrev FoundBy : Server (StoredGames S) F → Life → List Event → Type 0
    FoundBy server life l = FoundAt o (store_games_facts o) CanCommit (MayTakeStored o) (store_keeps_in_order o) stamp place t at_first server life l

    -- ---- what happened, part by part

    abbrev opened : List Event
    opened = flat_map made_of r.unasked

    abbrev turned : List Event
    turned = run_events r.to r.turns

    abbrev late : List Event
    late = flat_map heard_events r.heard

    abbrev a : List Event
    a = RecordSought path stamp begins ∷ behind past r.first

    abbrev b : List Event
    b = behind a opened

    abbrev c : List Event
    c = behind b r.asked

    abbrev d : List Event
    d = behind c turned

    abbrev e : List Event
    e = behind d late

    joined_work : behind a (work_of r) ≡ e
    joined_work = behind_join a opened (r.asked ++ (turned ++ late)) ∙ behind_join b r.asked (turned ++ late) ∙ behind_join c turned late

    joined : behind a (work_of r ++ r.tail) ≡ behind e r.tail
    joined = behind_join a (work_of r) r.tail ∙ ap (λ (l : List Event). behind l r.tail) joined_work

    durable_work : Durable a (work_of r)
    durable_work = durable_first (InStore path) stamp a (work_of r) r.tail durable

    durable_tail : Durable e r.tail
    durable_tail = subst (λ (l : List Event). Durable l r.tail) joined_work (durable_rest (InStore path) stamp a (work_of r) r.tail durable)

    durable_asked : Durable b (r.asked ++ (turned ++ late))
    durable_asked = durable_rest (InStore path) stamp a opened (r.asked ++ (turned ++ late)) durable_work

    durable_turns : Durable c (turned ++ late)
    durable_turns = durable_rest (InStore path) stamp b r.asked (turned ++ late) durable_asked

    opened_stays : StaysFound (InStore path) stamp a opened
    opened_stays = none_stays path stamp a opened (made_none o path stamp r.old r.begun r.unasked h.opens) (durable_first (InStore path) stamp a opened (r.asked ++ (turned ++ late)) durable_work)

    asked_stays : StaysFound (InStore path) stamp b r.asked
    asked_stays = none_stays path stamp b r.asked h.asked_none (durable_first (InStore path) stamp b r.asked (turned ++ late) durable_asked)

    late_stays : StaysFound (InStore path) stamp d late
    late_stays = heard_stays r.mid r.new r.heard d h.hears (durable_rest (InStore path) stamp c turned late durable_turns)

    -- before the turns what was found at first is found
    first_is : (found : Option (List ℕ)) → May c found → found ≡ begins
    first_is found m = only path stamp (behind past r.first) begins found (opened_stays found (asked_stays found m))

    -- ---- the servers are there

    here : Here r.old
    here = record { there = same_place r.old.shared.games.folder (o.store_path r.old.shared.games.store) place.folder place.store_path h.folder h.store; is = refl }

    here_begun : Here r.begun
    here_begun = here_on o (store_games_facts o) CanCommit (MayTakeStored o) (store_keeps_in_order o) stamp place t at_first r.old r.begun (stays_all o (store_games_facts o) stamp r.old r.begun r.unasked h.opens) here

    here_mid : Here r.mid
    here_mid = here_on o (store_games_facts o) CanCommit (MayTakeStored o) (store_keeps_in_order o) stamp place t at_first r.begun r.mid (turns_stay o (store_games_facts o) stamp h.form h.texts r.begun r.mid r.turns h.in_turns) here_begun

    here_new : Here r.new
    here_new = here_on o (store_games_facts o) CanCommit (MayTakeStored o) (store_keeps_in_order o) stamp place t at_first r.mid r.new (stays_all o (store_games_facts o) stamp r.mid r.new r.heard h.hears) here_mid

    -- ---- what was opened unasked, and the turns

    found_first : FoundBy r.old Fresh a
    found_first fit found m =
        inl (only path stamp (behind past r.first) begins found (subst (λ (x : List ℕ). MayFind (InStore x) stamp a found) h.store (none_noted o stamp r.old.shared.games a h.none_noted found m)))

    unasked : Taken Fresh r.unasked r.begun b
    unasked =
        unasked_taken o (store_games_facts o) CanCommit (MayTakeStored o) (store_keeps_in_order o) stamp place t at_first heard_stays r.old r.begun Fresh r.unasked a h.opens here
        (closed_at r.old (open_at r.old stamp) (h.closed stamp)) (durable_first (InStore path) stamp a opened (r.asked ++ (turned ++ late)) durable_work) found_first

    found_begun : FoundBy r.begun unasked.played.life c
    found_begun = found_on o (store_games_facts o) CanCommit (MayTakeStored o) (store_keeps_in_order o) stamp place t at_first heard_stays r.begun unasked.played.life b r.asked here_begun asked_stays unasked.found

    abbrev Turned : Option (List ℕ) → Type 0
    Turned found = TurnsCount o (store_games_facts o) CanCommit (MayTakeStored o) (store_keeps_in_order o) stamp place t at_first heard_stays unasked.played.life r.turns c found

    turns : (found : Option (List ℕ)) → May d found → Turned found
    turns found m =
        turns_count o (store_games_facts o) CanCommit (MayTakeStored o) (store_keeps_in_order o) stamp place t at_first heard_stays h.form h.texts r.to r.begun r.mid r.turns unasked.played.life c h.in_turns here_begun unasked.played.at
        (durable_first (InStore path) stamp c turned late durable_turns) found_begun found m

    -- ---- what counts

    -- the game's acts behind those by which it was opened unasked
    module _ (heard : List Heard) (each : List Acts) (to : Life) (plays : PlaysAll (store_games_facts o) place t stamp unasked.played.life heard each to) where
      abbrev its : OpenedGame (store_games_facts o) place t stamp r.unasked (game_at r.begun stamp) heard
      its = record { first = unasked.played.each; mid = unasked.played.life; opens = unasked.played.plays; at = unasked.played.at; each = each; life = to; plays = plays }

      its_over : AreOverLeft (left_before at_first unasked.played.life) (all_acts each) → AreOverLeft (Shut at_first) (all_acts unasked.played.each ++ all_acts each)
      its_over over = over_on o (store_games_facts o) CanCommit (MayTakeStored o) (store_keeps_in_order o) stamp place t at_first heard_stays Fresh unasked.played.life r.unasked unasked.played.each each unasked.played.plays unasked.over over

    abbrev Happened : Event → Type 0
    Happened = Contains (work_of r)

    all_happened : AllByRecursion Happened (work_of r)
    all_happened = recursion_from_All Happened (work_of r) (All-contains_itself (work_of r))

    late_happened : AllByRecursion Happened (turned_of r)
    late_happened = all_rest Happened r.asked (turned_of r) (all_rest Happened opened (r.asked ++ turned_of r) all_happened)

    early_made : AllByRecursion Happened (flat_map (made_for stamp) r.unasked)
    early_made = for_made Happened stamp r.unasked (all_first Happened opened (r.asked ++ turned_of r) all_happened)

    turns_made : (first later : List Turn) → r.turns ≡ first ++ later → AllByRecursion Happened (flat_map (made_for stamp) (heard_in_turns first))
    turns_made first later are =
        for_turns Happened stamp r.to first
        (all_first Happened (run_events r.to first) (run_events r.to later)
        (subst (AllByRecursion Happened) (ap (run_events r.to) are ∙ flat_map-append (turn_events r.to) first later) (all_first Happened turned late late_happened)))

    nothing_leads : SendsNothing r.tail → (found : Option (List ℕ)) → (none : NoneSent r.turns) → found ≡ begins → LeadsTo o place stamp setup was found r
    unfolding PlaysAll
    nothing_leads sends found none is = record {
      begins = begins;
      from = from;
      front = NoTurns none sends;
      game = record { first = []; mid = Fresh; opens = refl; at = tt; each = []; life = Fresh; plays = refl };
      over = tt;
      one = tt;
      left = inl is;
    }

    turns_lead : SendsNothing r.tail → (found : Option (List ℕ)) → Counts o (store_games_facts o) CanCommit (MayTakeStored o) (store_keeps_in_order o) stamp place t at_first heard_stays unasked.played.life r.turns found → LeadsTo o place stamp setup was found r
    turns_lead sends found k =
        let over = its_over (heard_in_turns k.first) k.each k.to k.plays k.over in
        record {
          begins = begins;
          from = from;
          front = FirstTurns k.first k.later k.are k.none sends;
          game = its (heard_in_turns k.first) k.each k.to k.plays;
          over = over;
          one = of_one (store_games_facts o) place t stamp setup Happened h.one r.unasked (game_at r.begun stamp) (heard_in_turns k.first) (its (heard_in_turns k.first) k.each k.to k.plays) (over_fresh at_first (all_acts unasked.played.each ++ all_acts k.each) over) early_made (turns_made k.first k.later k.are);
          left = k.left;
        }

    -- behind the datagrams that were heard last
    late_leads : SendsNothing r.tail → (found : Option (List ℕ)) → May e found → LeadsTo o place stamp setup was found r
    late_leads sends found m = by (turns found (late_stays found m))
      where
        by : Turned found → LeadsTo o place stamp setup was found r
        by (inl x) = nothing_leads sends found x.1 (first_is found x.0)
        by (inr k) = turns_lead sends found k

    -- ---- a stop in a commit

    turned_taken : Taken unasked.played.life (heard_in_turns r.turns) r.mid d
    turned_taken =
        turns_taken o (store_games_facts o) CanCommit (MayTakeStored o) (store_keeps_in_order o) stamp place t at_first h.form h.texts r.to r.begun r.mid r.turns unasked.played.life c h.in_turns here_begun unasked.played.at
        (durable_first (InStore path) stamp c turned late durable_turns) found_begun

    late_taken : Taken turned_taken.played.life r.heard r.new e
    late_taken =
        all_taken o (store_games_facts o) CanCommit (MayTakeStored o) (store_keeps_in_order o) stamp place t at_first r.mid r.new turned_taken.played.life r.heard d h.hears here_mid turned_taken.played.at
        (durable_rest (InStore path) stamp c turned late durable_turns) turned_taken.found

    all_heard : Taken unasked.played.life (heard_in_run r) r.new e
    all_heard = on_heard o (store_games_facts o) CanCommit (MayTakeStored o) (store_keeps_in_order o) stamp place t at_first unasked.played.life (heard_in_turns r.turns) r.heard r.mid r.new d e turned_taken late_taken

    its_path : o.store_path r.new.shared.games.store ≡ path
    its_path = ap (λ (x : StoredPlace). x.store_path) here_new.there

    -- what a taking may find then is what all that was heard leaves
    whole_leads : (l : List Event) → FoundBy r.new all_heard.played.life l → ComesToCommit path r.new.shared.games r.tail → r.new.shared.games.loss ≡ None → (found : Option (List ℕ)) → MayTakeStored o r.new.shared.games stamp l found → LeadsTo o place stamp setup was found r
    whole_leads l all comes fit found m =
        let k = all_heard.played in
        let over = its_over (heard_in_run r) k.each k.life k.plays all_heard.over in
        record {
          begins = begins;
          from = from;
          front = AllHeard comes;
          game = its (heard_in_run r) k.each k.life k.plays;
          over = over;
          one = of_one (store_games_facts o) place t stamp setup Happened h.one r.unasked (game_at r.begun stamp) (heard_in_run r) (its (heard_in_run r) k.each k.life k.plays) (over_fresh at_first (all_acts unasked.played.each ++ all_acts k.each) over) early_made (for_run Happened stamp r late_happened);
          left = found_left (MayTakeStored o r.new.shared.games stamp l) at_first k.life (all fit) found m;
        }

    module _ (is_done : Bool) (early rest : List Event) (may : MayCommit r.new.shared.games) (none_early : NoneCommitted path stamp early) (none_rest : NoneCommitted path stamp rest) (is : r.tail ≡ early ++ Committed path (map stamped r.new.shared.games.noted) is_done ∷ rest) where
      abbrev cut : Event
      cut = Committed path (map stamped r.new.shared.games.noted) is_done

      abbrev f : List Event
      f = behind e early

      durable_cut : Durable e (early ++ cut ∷ rest)
      durable_cut = subst (Durable e) is durable_tail

      early_stays : StaysFound (InStore path) stamp e early
      early_stays = none_stays path stamp e early none_early (durable_first (InStore path) stamp e early (cut ∷ rest) durable_cut)

      rest_stays : StaysFound (InStore path) stamp (cut ∷ f) rest
      rest_stays = none_stays path stamp (cut ∷ f) rest none_rest (durable_rest (InStore path) stamp e early (cut ∷ rest) durable_cut).1

      abbrev CutAt : List ℕ → Option (List ℕ) → Type 0
      CutAt x found = MayFind (InStore x) stamp (Committed x (map stamped r.new.shared.games.noted) is_done ∷ f) found

      cut_found : (found : Option (List ℕ)) → May (behind e r.tail) found → CutAt (o.store_path r.new.shared.games.store) found
      cut_found found m =
          subst (λ (x : List ℕ). CutAt x found) (sym its_path) (rest_stays found (subst (λ (l : List Event). May l found) (ap (behind e) is ∙ behind_join e early (cut ∷ rest)) m))

      all_found : FoundBy r.new all_heard.played.life f
      all_found = found_on o (store_games_facts o) CanCommit (MayTakeStored o) (store_keeps_in_order o) stamp place t at_first heard_stays r.new all_heard.played.life e early here_new early_stays all_heard.found

      cut_leads : (found : Option (List ℕ)) → MayTakeStored o r.new.shared.games stamp f found → LeadsTo o place stamp setup was found r
      cut_leads found m = whole_leads f all_found (IsBegun early rest (map stamped r.new.shared.games.noted) is_done is) may.0 found m

      -- the batch isn't there
      uncut_leads : SendsNothing r.tail → (found : Option (List ℕ)) → MayFind (InStore (o.store_path r.new.shared.games.store)) stamp f found → LeadsTo o place stamp setup was found r
      uncut_leads sends found m = late_leads sends found (early_stays found (subst (λ (x : List ℕ). MayFind (InStore x) stamp f found) its_path m))

    run_leads : (found : Option (List ℕ)) → May (behind a (work_of r ++ r.tail)) found → LeadsTo o place stamp setup was found r
    run_leads found m = by h.stops
      where
        behind_all : May (behind e r.tail) found
        behind_all = subst (λ (l : List Event). May l found) joined m

        by_batch : (early rest : List Event) (may : MayCommit r.new.shared.games) (none_early : NoneCommitted path stamp early) (none_rest : NoneCommitted path stamp rest) (is : r.tail ≡ early ++ Committed path (map stamped r.new.shared.games.noted) false ∷ rest) → SendsNothing r.tail
            → MayTakeStored o r.new.shared.games stamp (behind e early) found ⊎ MayFind (InStore (o.store_path r.new.shared.games.store)) stamp (behind e early) found → LeadsTo o place stamp setup was found r
        by_batch early rest may none_early none_rest is sends (inl whole) = cut_leads false early rest may none_early none_rest is found whole
        by_batch early rest may none_early none_rest is sends (inr old) = uncut_leads false early rest may none_early none_rest is sends found old

        by : StopsAt path stamp r.new.shared.games r.tail → LeadsTo o place stamp setup was found r
        by (BeforeCommit none sends) = late_leads sends found (none_stays path stamp e r.tail none durable_tail found behind_all)
        by (InCommit early rest may none_early none_rest is sends) =
            by_batch early rest may none_early none_rest is sends (undone_may o stamp r.new.shared.games (behind e early) found (cut_found false early rest may none_early none_rest is found behind_all))
        by (BehindCommit early rest may none_early none_rest is) =
            cut_leads true early rest may none_early none_rest is found (done_may o stamp r.new.shared.games (behind e early) found (cut_found true early rest may none_early none_rest is found behind_all))
        by (NothingNoted fit noted none) =
            whole_leads e all_heard.found (HasNothing noted) fit found
            (all_noted o stamp r.new.shared.games e noted found (subst (λ (x : List ℕ). MayFind (InStore x) stamp e found) (sym its_path) (none_stays path stamp e r.tail none durable_tail found behind_all)))

  -- ---- all runs

  runs_lead : (past : List Event) (runs : List Run) (found : Option (List ℕ)) → AllByRecursion (IsRunOver o place stamp setup) runs → Durable past (events_of_all runs) → May (behind past (events_of_all runs)) found → LeadFrom o place stamp setup past runs found
  runs_lead past [] found h durable m = (found, m, refl)
  runs_lead past (r ∷ rs) found h durable m =
      let events = events_of r in
      let rest = events_of_all rs in
      let later = runs_lead (behind past events) rs found h.1 (durable_rest (InStore path) stamp past events rest durable) (subst (λ (l : List Event). May l found) (behind_join past events rest) m) in
      let all = work_of r ++ r.tail in
      let mine : Durable past events = durable_first (InStore path) stamp past events rest durable in
      let k = choose path stamp (behind past r.first) all later.0 (durable_rest (InStore path) stamp past r.first all mine) (subst (λ (l : List Event). May l later.0) (behind_join past r.first all) later.1) in
      let b = begin_back past r.first (durable_first (InStore path) stamp past r.first all mine) k.first k.may h.0.imports in
      (b.0, b.1, (later.0, run_leads past b.0 k.first r b.2 h.0 k.durable later.0 k.leads, later.2))

  -- ---- what was told

  follow_on : (before : PlaceKeeper) (was : Option (List ℕ)) (next : PlaceKeeper) → Follows before (found_keeper was) → Follows (found_keeper was) next → Follows before next
  follow_on before was next (inl same) (inl it) = inl (it ∙ same)
  follow_on before was next (inr put) (inl it) = inr (put.0, put.1, it ∙ put.2)
  follow_on before was next f (inr put) = absurd (let g : ◌≡◌ {A = Option (List ℕ)} None (Some put.0) = put.1 in cc)

  pub over_follow : (before : PlaceKeeper) (was : Option (List ℕ)) → Follows before (found_keeper was) → (acts : Acts) → AreOverLeft (Shut (found_keeper was)) acts → AreOverLeft (Shut before) acts
  over_follow before was f [] h = tt
  over_follow before was f (Unread datagram fault ∷ acts) h = (tt, over_follow before was f acts h.1)
  over_follow before was f (Strange of datagram tried why ∷ acts) h = (tt, over_follow before was f acts h.1)
  over_follow before was f (Refuses of datagram over fault ∷ acts) h = (follow_on before was over.before f h.0, h.1)
  over_follow before was f (Opens of over arbiter ∷ acts) h = (follow_on before was over.before f h.0, h.1)
  over_follow before was f (Answers of exchange ∷ acts) h = (tt, h.1)
  over_follow before was f (Closes of left ∷ acts) h = (tt, h.1)

  pub left_follows : (before : PlaceKeeper) (was : Option (List ℕ)) → Follows before (found_keeper was) → (life : Life) (found : Option (List ℕ)) → IsLeftSo (found_keeper was) life found → Follows (left_by before life) (found_keeper found)
  left_follows before was f Fresh found h = follow_on before was (found_keeper found) f h
  left_follows before was f (Shut left) found h = h
  left_follows before was f (Open now) found h = inl h

  -- where nothing is found, nothing was told
  none_told : (next : PlaceKeeper) (act : Action PlaceKeeper) → IsToldStill (found_keeper None) act → IsToldStill next act
  none_told next (Unread datagram fault) h = tt
  none_told next (Strange of datagram tried why) h = tt
  none_told next (Refuses of datagram over fault) h = tt
  none_told next (Opens of over arbiter) h = tt
  none_told next (Answers of exchange) h = absurd (let g : ◌≡◌ {A = Option (List ℕ)} None (Some h.bytes) = h.there in cc)
  none_told next (Closes of left) h = tt

  all_told : (P Q : Action PlaceKeeper → Type 0) → ((act : Action PlaceKeeper) → P act → Q act) → (acts : Acts) → AllByRecursion P acts → AllByRecursion Q acts
  all_told P Q f [] h = tt
  all_told P Q f (act ∷ acts) h = (f act h.0, all_told P Q f acts h.1)

  -- Runs up to one that begins over an import, or all: what they told is in what is found behind them, and so in what is found at last.
  record Chained (before : PlaceKeeper) (runs : List Run) (found : Option (List ℕ)) : Type 0 where
    places : List PlaceRun
    last : PlaceKeeper
    ran : RanInTurn (store_games_facts o) place stamp setup before places last
    end : Option (List ℕ)
    next : Follows last (found_keeper end)
    carries : (act : Action PlaceKeeper) → IsToldStill (found_keeper end) act → IsToldStill (found_keeper found) act
    tells : AllByRecursion (λ (r : PlaceRun). AllByRecursion (IsToldStill (found_keeper end)) r.acts) places → AllByRecursion (IsKeptOf o place stamp setup found) runs

  told_in : (before : PlaceKeeper) (runs : List Run) (found : Option (List ℕ)) → Chained before runs found → AllByRecursion (IsKeptOf o place stamp setup found) runs
  told_in before runs found k = k.tells (each_lasts (store_games_facts o) place stamp setup before k.last (found_keeper k.end) k.places k.ran k.next)

  -- a run that begins over what was found before it
  step : (before : PlaceKeeper) (was mid found : Option (List ℕ)) (r : Run) (rs : List Run) (l : LeadsTo o place stamp setup was mid r) → Follows before (found_keeper l.begins) → ((b : PlaceKeeper) → Follows b (found_keeper mid) → Chained b rs found) → Chained before (r ∷ rs) found
  step before was mid found r rs l f later =
      let acts = acts_in l.game in
      let over = over_follow before l.begins f acts l.over in
      let more = later (left_by before l.game.life) (left_follows before l.begins f l.game.life mid l.left) in
      let fresh = over_fresh before acts over in
      record {
        places = record { acts = acts; left = left_by before l.game.life } ∷ more.places;
        last = more.last;
        ran = (record { common = common r.old; life = l.game.life; goes = opened_goes (store_games_facts o) place (common r.old) stamp _ _ _ l.game fresh; one = l.one; over = over; stops = Between refl }, more.ran);
        end = more.end;
        next = more.next;
        carries = more.carries;
        tells = λ h. (record { front = l.front; game = l.game; over = fresh; told = all_told (IsToldStill (found_keeper more.end)) (IsToldStill (found_keeper found)) more.carries acts h.0 }, more.tells h.1);
      }

  chain_by : (before : PlaceKeeper) (was mid found : Option (List ℕ)) → Follows before (found_keeper was) → (r : Run) (rs : List Run) (l : LeadsTo o place stamp setup was mid r) → ((b : PlaceKeeper) → Follows b (found_keeper mid) → Chained b rs found) → BeginsOver path stamp r.first was l.begins → Chained before (r ∷ rs) found
  chain_by before was mid found f r rs l later (AsFound is) = step before was mid found r rs l (subst (λ (x : Option (List ℕ)). Follows before (found_keeper x)) (sym is) f) later
  chain_by before was mid found f r rs l later (OverImport early rest records is_done are none is) =
      let told = told_in (found_keeper l.begins) (r ∷ rs) found (step (found_keeper l.begins) was mid found r rs l (inl refl) later) in
      record {
        places = [];
        last = before;
        ran = refl;
        end = was;
        next = f;
        carries = λ act h. none_told (found_keeper found) act (subst (λ (x : Option (List ℕ)). IsToldStill (found_keeper x) act) none h);
        tells = λ h. told;
      }

  chain : (before : PlaceKeeper) (was : Option (List ℕ)) → Follows before (found_keeper was) → (runs : List Run) (found : Option (List ℕ)) → LeadOn o place stamp setup was runs found → Chained before runs found
  chain before was f [] found led = record {
    places = [];
    last = before;
    ran = refl;
    end = found;
    next = subst (λ (x : Option (List ℕ)). Follows before (found_keeper x)) (sym led) f;
    carries = λ act h. h;
    tells = λ h. tt;
  }
  chain before was f (r ∷ rs) found led = chain_by before was led.0 found f r rs led.1 (λ b g. chain b led.0 g rs found led.2) led.1.from

  told_by : (runs : List Run) (was found : Option (List ℕ)) → LeadOn o place stamp setup was runs found → AllByRecursion (IsKeptOf o place stamp setup found) runs
  told_by runs was found led = told_in (found_keeper was) runs found (chain (found_keeper was) was (inl refl) runs found led)

pub runs_are_led : {T P F K S L : Type 0} (o : Outside T P F K S L) → StoreRunsAreLed o
runs_are_led o place stamp setup past runs found are durable m = runs_lead o place stamp setup past runs found are durable m

pub runs_are_told : {T P F K S L : Type 0} (o : Outside T P F K S L) → StoreRunsAreTold o
runs_are_told o place stamp setup past runs found are durable m =
    let led = runs_lead o place stamp setup past runs found are durable m in told_by o place stamp setup runs led.0 found led.2
