-- What comes while requests are answered.
use Rattle.std.proofs.Common.{◌≡◌, ◌++◌, ◌∷◌, [], ℕ, Bool, true, List, Option, Some, None, ap, refl, subst, sym}
use Rattle.std.specs.Borrow.{Bor}
use Rattle.std.specs.Prelude.{option_map}
use Rattle.http.specs.declared.request.Request.{Request}
use Rattle.http_answer.specs.Games.{GamesOn, unread_games}
use Rattle.http_answer.specs.Reads.{GamePaths, ReadsForRequest, paths_of}
use Rattle.http_server.specs.Exchange.{Call, Chain}
use Rattle.http_server.specs.declared.response.Response.{Response}
use Rattle.command_line.specs.declared.commands.serve.Serve.{Serve}
use Rattle.table_folder.specs.Folders.{Folder}
use Rattle.timeline.proofs.EventLaws.{adds_both, adds_none, adds_so}
use Rattle.timeline.specs.Events.{Event, Noted}
use Rattle.timeline.specs.Outsides.{Adds, AddsSome, Outside}
use Rattle.serve_core.specs.Answering.{AnsweringView, AnswersOne, Ground}
use Rattle.serve_core.specs.GamesNamed.{games_for}
use Rattle.serve_core.specs.Logging.{NotesRequest, RequestNoted, RequestNotNoted, request_line}
use Rattle.serve_core.specs.Serve.{AnswersCall, AnswersCalls, AnswersRequests, paths_named}
use Rattle.serve_core.specs.declared.task.Serving.{Serving}

abbrev paths_at : {G : Type 0} → Option (GamesOn G) → Option GamePaths
paths_at games = option_map (λ on. record { games = on.games; other = on.other }) games

-- ---- a note

module _ {T P F K S L : Type 0} (o : Outside T P F K S L) where
  pub request_noted : (a b : T) (is_logged : Bool) (line other : List ℕ) → is_logged ≡ true → other ≡ line → Adds o a b (Noted other ∷ []) → AddsSome o a b (NotesRequest is_logged line)
  request_noted a b is_logged line other logged is p = (Noted other ∷ [], p, RequestNoted logged (ap (λ (l : List ℕ). Noted l ∷ []) is))

  pub nothing_noted : (a : T) (is_logged : Bool) (line : List ℕ) → AddsSome o a a (NotesRequest is_logged line)
  nothing_noted a is_logged line = ([], adds_none o a, RequestNotNoted refl)

module _ {G C T P F K S L : Type 0} (outside : G → Outside T P F K S L) (says : C → Option ℕ → Type 0) where
  -- ---- one request: it is read for on the system of the tables, and noted on that of the service
  pub call_added : (system there : G) (a b c : T) (is_logged : Bool) (folder : Folder) (games : Option GamePaths) (request : Request (List ℕ)) (r : Response) → system ≡ there
      → AddsSome (outside there) a b (ReadsForRequest (outside there) folder games request) → AddsSome (outside system) b c (NotesRequest is_logged (request_line request r))
      → AddsSome (outside system) a c (AnswersCall (outside system) is_logged folder games request r)
  call_added system there a b c is_logged folder games request r same reads notes =
      let o = outside system in
      adds_both o a b c (ReadsForRequest o folder games request) (NotesRequest is_logged (request_line request r)) (AnswersCall o is_logged folder games request r) (λ x y p q. (x, y, p, q, refl))
      (subst (λ (s : G). AddsSome (outside s) a b (ReadsForRequest (outside s) folder games request)) (sym same) reads) notes

  -- ---- requests in turn

  abbrev CallsAdd : Ground G → Folder → Option GamePaths → T → T → List Call → Type 0
  CallsAdd ground folder games a b calls = AddsSome (outside ground.system) a b (AnswersCalls (outside ground.system) ground.is_logged folder games calls)

  calls_by : (ground was : Ground G) (folder folder₁ : Folder) (games games₁ : Option GamePaths) (a b : T) (calls : List Call) → ground ≡ was → folder ≡ folder₁ → games ≡ games₁
      → CallsAdd ground folder games a b calls → CallsAdd was folder₁ games₁ a b calls
  calls_by ground was folder folder₁ games games₁ a b calls same tables paths p =
      subst (λ (x : Ground G). CallsAdd x folder₁ games₁ a b calls) same
      (subst (λ (f : Folder). CallsAdd ground f games₁ a b calls) tables (subst (λ (g : Option GamePaths). CallsAdd ground folder g a b calls) paths p))

  calls_added : (calls : List Call) (old new : AnsweringView G C T) → Chain (AnswersOne outside says) old calls new
      → CallsAdd old.ground old.tables.folder (paths_of old.games) old.now new.now calls
  calls_added [] old new x =
      subst (λ (v : AnsweringView G C T). CallsAdd old.ground old.tables.folder (paths_of old.games) old.now v.now []) (sym x) ([], adds_none (outside old.ground.system) old.now, refl)
  calls_added (c ∷ calls) old new (next, one, more) =
      let o = outside old.ground.system in
      let By = AnswersCalls o old.ground.is_logged old.tables.folder (paths_of old.games) in
      adds_both o old.now next.now new.now (AnswersCall o old.ground.is_logged old.tables.folder (paths_of old.games) c.0 c.1) (By calls) (By (c ∷ calls)) (λ x y p q. (x, y, p, q, refl)) one.adds
      (calls_by next.ground old.ground next.tables.folder old.tables.folder (paths_of next.games) (paths_of old.games) next.now new.now calls one.ground (ap (λ t. t.folder) one.responds.tables_stay)
      (ap paths_at one.responds.games_stay) (calls_added calls next new more))

  -- up to the end of a borrow
  pub requests_added : (calls : List Call) (old new : AnsweringView G C T) (end : T) → Chain (AnswersOne outside says) old calls new → end ≡ new.now
      → AddsSome (outside old.ground.system) old.now end (AnswersRequests (outside old.ground.system) old.ground.is_logged old.tables.folder (paths_of old.games))
  requests_added calls old new end chain is =
      let o = outside old.ground.system in
      let By = AnswersCalls o old.ground.is_logged old.tables.folder (paths_of old.games) in
      adds_so o old.now end (By calls) (AnswersRequests o old.ground.is_logged old.tables.folder (paths_of old.games)) (λ events h. (calls, h))
      (subst (λ (t : T). AddsSome o old.now t (By calls)) (sym is) (calls_added calls old new chain))

-- ---- the folders that the words name

pub paths_for : {C G : Type 0} (by : Serving C G) (t : Serve) → paths_of (games_for by t) ≡ paths_named t
paths_for {C} {G} by t = of_named t.games
  where
    of_named : (named : Option (Bor (List ℕ)))
        → paths_of (option_map (λ g. unread_games {C = C} (record { system = by.system.now; games = g.now; other = option_map (λ s. s.now) t.other }) by.times.now) named)
        ≡ option_map (λ g. record { games = g.now; other = option_map (λ s. s.now) t.other }) named
    of_named None = refl
    of_named (Some g) = refl
