-- Records that are taken from files and put in them.
use Rattle.std.proofs.Common.{◌≡◌, ◌∙◌, inl, inr, ℕ, true, List, [], ◌∷◌, Option, Some, None, refl, sym, ap, subst, arith, IsOk, false}
use Rattle.std.specs.List.{Contains}
use Rattle.std.specs.Prelude.{Result, Ok, Err, IfOk, IsSome, OnOk, option_map}
use Rattle.arbiter_server.specs.declared.fault.OpenGameError.{OpenGameError}
use Rattle.arbiter_server.specs.declared.fault.OpenGameError.TheVariants as unopened
use Rattle.system_io.specs.declared.reading.ReadFault.{ReadFault}
use Rattle.system_io.specs.declared.reading.ReadFault.TheVariants as read
use Rattle.timeline.specs.Events.{Event, FileOpened, Found, Put, is_done}
use Rattle.timeline.specs.Outsides.{Outside}
use Rattle.game_folder.specs.Holdings.{GamesFacts, IsKeptIn, IsTaken, KeepsGame, SendsNothing, StaysNoted, TakesGame, kept_of, known}
use Rattle.game_folder.specs.Places.{InFile, InStore, KeptAt, WasKept, WasPut}
use Rattle.game_folder.specs.RecordFiles.{IsKnownOfFile, StartGives, HadNoRoom, IsFiledAt, NotOpened, PutsFile, Started, StartsFile, TakesFile, TakesFromFile, puts_in_file, started}
use Rattle.game_folder.specs.declared.games.KeptGame.{KeptGame}

-- nothing happened, of which nothing is known
pub known_nothing : {T P F K S L : Type 0} (o : Outside T P F K S L) (path : List ℕ) → IsKnownOfFile o path []
known_nothing o path = record { opened = λ is. absurd (let wrong : [] ≡ FileOpened path false ∷ [] = is in cc); started = λ got is. absurd (let wrong : [] ≡ FileOpened path true ∷ Found path got ∷ [] = is in cc) }

-- the file wasn't opened
pub known_closed : {T P F K S L : Type 0} (o : Outside T P F K S L) (path : List ℕ) → o.takes_memory path → IsKnownOfFile o path (FileOpened path false ∷ [])
known_closed o path memory = record { opened = λ is. memory; started = λ got is. absurd (let wrong : FileOpened path false ∷ [] ≡ FileOpened path true ∷ Found path got ∷ [] = is in cc) }

known_start : {T P F K S L : Type 0} (o : Outside T P F K S L) (path : List ℕ) (got : Result (Option (List ℕ)) ReadFault) (rest : List Event) → rest ≡ Found path got ∷ [] → StartGives o path got → IsKnownOfFile o path (FileOpened path true ∷ rest)
known_start o path got rest is gives = record {
  opened = λ same. absurd (let wrong : FileOpened path true ∷ rest ≡ FileOpened path false ∷ [] = same in cc);
  started = λ found same. subst (StartGives o path) (let e : FileOpened path true ∷ rest ≡ FileOpened path true ∷ Found path found ∷ [] = same in let mine : rest ≡ Found path got ∷ [] = is in cc) gives;
}

-- the file was opened, and then a start read it
pub opened_then : {T P F K S L : Type 0} (o : Outside T P F K S L) (path at stamp : List ℕ) (result : Result (KeptGame F) OpenGameError) → at ≡ path
    → (rest : List Event) → StartsFile o at stamp result rest → TakesFile o path stamp result (FileOpened path true ∷ rest)
opened_then o path at stamp result is rest s =
    subst (λ (p : List ℕ). TakesFile o p stamp result (FileOpened p true ∷ rest)) is
    (record { taken = Started s.got s.taken (ap (λ (es : List Event). FileOpened at true ∷ es) s.found); known = known_start o at s.got rest s.found s.gives; ok = s.ok })

-- nothing is sent where a record is taken from a file
pub taking_sends_nothing : (path : List ℕ) (result : Result (Option (List ℕ)) OpenGameError) (events : List Event) → TakesFromFile path result events → SendsNothing events
taking_sends_nothing path result events (HadNoRoom why none) = subst SendsNothing (sym none) tt
taking_sends_nothing path result events (NotOpened why one) = subst SendsNothing (sym one) ((λ to bytes e. cc), tt)
taking_sends_nothing path result events (Started got why two) = subst SendsNothing (sym two) ((λ to bytes e. cc), ((λ to bytes e. cc), tt))

kept_value : Result (Option (List ℕ)) OpenGameError → Option (List ℕ)
kept_value (Ok got) = got
kept_value (Err why) = None

was_found : (got : Result (Option (List ℕ)) ReadFault) (bytes : List ℕ) → Ok (Some bytes) ≡ started got → got ≡ Ok (Some bytes)
unfolding kept_value
was_found (Ok got) bytes is = ap Ok (sym (ap kept_value is))
was_found (Err read.Unreadable) bytes is = let e : Ok (Some bytes) ≡ Err unopened.Keeper = is in cc
was_found (Err read.OutOfMemory) bytes is = let e : Ok (Some bytes) ≡ Err unopened.OutOfMemory = is in cc

-- what is taken was found there
pub taken_found : (path bytes : List ℕ) (events : List Event) → TakesFromFile path (Ok (Some bytes)) events → WasPut path events bytes
taken_found path bytes events (HadNoRoom why none) = let e : Ok (Some bytes) ≡ Err unopened.OutOfMemory = why in cc
taken_found path bytes events (NotOpened why one) = let e : Ok (Some bytes) ≡ Err unopened.OutOfMemory = why in cc
taken_found path bytes events (Started got why two) =
    inr (subst (λ (es : List Event). Contains es (Found path (Ok (Some bytes)))) (sym two) (subst (λ (r : Result (Option (List ℕ)) ReadFault). Contains (FileOpened path true ∷ Found path r ∷ []) (Found path (Ok (Some bytes)))) (sym (was_found got bytes why)) (1, omega arith, refl)))

-- ---- where it is kept

module _ {T P F K S L : Type 0} (o : Outside T P F K S L) where
  pub kept_in_file : (at : KeptAt) (path : List ℕ) (file : Option F) → at ≡ InFile path → option_map o.path file ≡ Some path → IsKeptIn o at file
  kept_in_file at path (Some file) is one = is ∙ ap InFile (sym (let e : Some (o.path file) ≡ Some path = one in cc))
  kept_in_file at path None is one = let e : None ≡ Some path = one in cc

  pub path_of_kept : (path : List ℕ) (file : Option F) → IsKeptIn o (InFile path) file → option_map o.path file ≡ Some path
  path_of_kept path (Some file) is = ap Some (sym (let e : InFile path ≡ InFile (o.path file) = is in cc))
  path_of_kept path None is = absurd (let e : InFile path ≡ InStore is.0 = is.1 in cc)

  pub has_file : (path : List ℕ) (file : Option F) → IsKeptIn o (InFile path) file → IsSome file
  has_file path (Some file) is = refl
  has_file path None is = absurd (let e : InFile path ≡ InStore is.0 = is.1 in cc)

  module _ {G : Type 0} (facts : GamesFacts G) where
    -- a game's record is taken from a file
    pub takes_by_file : (g : G) (path stamp : List ℕ) (result : Result (KeptGame F) OpenGameError) (events : List Event) → facts.places (facts.place g) stamp ≡ InFile path
        → ((got : Result (Option (List ℕ)) OpenGameError) → TakesFromFile path got events → IsKnownOfFile o path events → facts.takes g stamp got events g)
        → (p : List ℕ) → p ≡ path → TakesFile o p stamp result events → TakesGame facts o g g stamp result events
    takes_by_file g path stamp result events at takes p same taken =
        let t = subst (λ (q : List ℕ). TakesFile o q stamp result events) same taken in
        record {
          still = record { quiet = taking_sends_nothing path (kept_of result) events t.taken; place = refl };
          noted = λ s b n. n;
          taken = takes (kept_of result) t.taken t.known;
          ok = by_result result t.taken t.ok;
        }
      where
        by_result : (r : Result (KeptGame F) OpenGameError) → TakesFromFile path (kept_of r) events → IfOk r (IsFiledAt o path stamp) → IfOk r (IsTaken facts o g stamp events)
        by_result (Err why) took ok = tt
        by_result (Ok game) took ok = record {
          of = ok.of;
          within = kept_in_file (facts.places (facts.place g) stamp) path game.file at ok.at;
          clean = ok.clean;
          known = λ bytes is.
              let found = taken_found path bytes events (subst (λ (got : Option (List ℕ)). TakesFromFile path (Ok got) events) is took) in
              inr (subst (λ (a : KeptAt). WasKept a events stamp bytes) (sym at) found);
        }

    -- what a game has to put is put in its file
    pub keeps_by_file : {A E : Type 0} (old new : G) (path : List ℕ) (before after : KeptGame F) (result : Result A E) (events : List Event) → facts.places (facts.place old) before.stamp ≡ InFile path
        → facts.place new ≡ facts.place old → StaysNoted facts old new → option_map o.path before.file ≡ Some path
        → (IsOk result → new ≡ old)
        → ((bytes : List ℕ) → events ≡ puts_in_file path bytes (is_done result) → facts.keeps old before.stamp bytes (is_done result) events new)
        → PutsFile o before after result events → KeepsGame facts o old new before after result events
    keeps_by_file {A = A} {E = E} old new path before after result events at place noted file stays keeps p = record {
      still = record { quiet = quiet before.draft.to_put refl; place = place };
      noted = noted;
      of = p.of;
      within = subst (λ (a : facts.Place). IsKeptIn o (facts.places a after.stamp) after.file) (sym place) (kept_in_file (facts.places (facts.place old) after.stamp) path after.file (ap (facts.places (facts.place old)) p.of ∙ at) (p.at ∙ file));
      draft = p.draft;
      none = λ is. let n = p.none is in (n.0, stays n.1, n.1);
      some = λ bytes is. keeps bytes (p.some path bytes file is);
      known = λ bytes is. put_known bytes result (p.some path bytes file is);
    }
      where
        quiet : (to_put : Option (List ℕ)) → before.draft.to_put ≡ to_put → SendsNothing events
        quiet None is = subst SendsNothing (sym ((p.none is).0)) tt
        quiet (Some bytes) is = subst SendsNothing (sym (p.some path bytes file is)) ((λ to sent e. cc), tt)

        put_known : (bytes : List ℕ) (r : Result A E) → events ≡ puts_in_file path bytes (is_done r) → OnOk r (known facts new events before.stamp bytes)
        put_known bytes (Err why) one = tt
        put_known bytes (Ok x) one =
            inr (subst (λ (a : KeptAt). WasKept a events before.stamp bytes) (sym (ap (λ (a : facts.Place). facts.places a before.stamp) place ∙ at))
            (inl (subst (λ (es : List Event). Contains es (Put path bytes true)) (sym one) (0, omega arith, refl))))
