-- A service over a timeline, as contracts see it.
use Rattle.std.proofs.Common.{◌≡◌, ◌∙◌, ℕ, List, [], ◌∷◌, Option, Some, None, ap, refl, subst, sym}
use Rattle.http.specs.declared.request.Request.{Request}
use Rattle.http_answer.specs.Games.{AreOfOne, GamesByClock, GamesOn, Responds, places_of}
use Rattle.http_answer.specs.Reads.{paths_of}
use Rattle.http_server.specs.Exchange.{Call, Chain}
use Rattle.http_server.specs.declared.response.Response.{Response}
use Rattle.table_folder.specs.Folders.{FolderOn}
use Rattle.table_folder.specs.declared.files.SystemFiles.{SystemFiles}
use Rattle.timeline.specs.Outsides.{AddsSome, Outside}
use Rattle.serve_core.specs.Answering.{AnsweringView, AnswersOne, IsGrounded}
use Rattle.serve_core.specs.Serve.{AnswersCall}

module _ {G C T P F K S L : Type 0} (outside : G → Outside T P F K S L) (says : C → Option ℕ → Type 0) where
  -- what holds of a service inside holds of it as contracts see it
  pub answers_seen : (inside now new : AnsweringView G C T) (request : Request (List ℕ)) (r : Response) → inside ≡ now → Responds outside says inside.tables inside.games request r new.tables new.games → new.ground ≡ inside.ground
      → AddsSome (outside inside.ground.system) inside.now new.now (AnswersCall (outside inside.ground.system) inside.ground.is_logged inside.tables.folder (paths_of inside.games) request r) → AnswersOne outside says now request r new
  answers_seen inside now new request r same responds ground adds =
      subst (λ (v : AnsweringView G C T). AnswersOne outside says v request r new) same (record { responds = responds; ground = ground; adds = adds })

  -- the ground stays over a chain of calls
  pub ground_stays : (calls : List Call) (old new : AnsweringView G C T) → Chain (AnswersOne outside says) old calls new → new.ground ≡ old.ground
  ground_stays [] old new x = ap (λ (v : AnsweringView G C T). v.ground) x
  ground_stays (c ∷ calls) old new (next, one, more) = ground_stays calls next new more ∙ one.ground

  -- the calls of a service are those of its folders
  pub chain_responds : (calls : List Call) (old new : AnsweringView G C T) → Chain (AnswersOne outside says) old calls new
      → Chain (λ (was : AnsweringView G C T) request response (now : AnsweringView G C T). Responds outside says was.tables was.games request response now.tables now.games) old calls new
  chain_responds [] old new x = x
  chain_responds (c ∷ calls) old new (next, one, more) = (next, one.responds, chain_responds calls next new more)

-- ---- the folders stay on one system

abbrev OneAt : {G : Type 0} → FolderOn (SystemFiles G) → Option (GamesOn G) → Type 0
OneAt tables None = Unit {0}
OneAt tables (Some on) = on.system ≡ tables.disk.system.now

to_places : {G C : Type 0} (tables : FolderOn (SystemFiles G)) (was : Option (GamesByClock G C)) → AreOfOne tables was → OneAt tables (places_of was)
to_places tables None one = tt
to_places tables (Some g) one = one

of_places : {G C : Type 0} (tables : FolderOn (SystemFiles G)) (now : Option (GamesByClock G C)) → OneAt tables (places_of now) → AreOfOne tables now
of_places tables None one = tt
of_places tables (Some g) one = one

module _ {G C T P F K S L : Type 0} (outside : G → Outside T P F K S L) (says : C → Option ℕ → Type 0) where
  one_stays : (old new : FolderOn (SystemFiles G)) (was now : Option (GamesByClock G C)) (request : Request (List ℕ)) (r : Response) → AreOfOne old was → Responds outside says old was request r new now → AreOfOne new now
  one_stays old new was now request r one responds =
      subst (λ (x : FolderOn (SystemFiles G)). AreOfOne x now) (sym responds.tables_stay) (of_places old now (subst (OneAt old) (sym responds.games_stay) (to_places old was one)))

  -- a request was answered
  pub grounded_on : (system : G) (old new : FolderOn (SystemFiles G)) (was now : Option (GamesByClock G C)) (request : Request (List ℕ)) (r : Response) → IsGrounded system old was → Responds outside says old was request r new now
      → IsGrounded system new now
  grounded_on system old new was now request r ground responds = record {
    one = one_stays old new was now request r ground.one responds;
    same = ground.same ∙ ap (λ (x : FolderOn (SystemFiles G)). x.disk.system.now) (sym responds.tables_stay);
  }
