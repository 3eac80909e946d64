-- A service over a timeline (this project's own).
use Rattle.std.specs.Prelude.{◌≡◌, ℕ, Bool, List, Option}
use Rattle.std.specs.Borrow.{GName}
use Rattle.http.specs.declared.request.Request.{Request}
use Rattle.http_answer.specs.Games.{AreOfOne, GamesByClock, Responds}
use Rattle.http_answer.specs.Reads.{paths_of}
use Rattle.http_server.specs.declared.response.Response.{Response}
use Rattle.table_folder.specs.Folders.{FolderOn}
use Rattle.table_folder.specs.declared.files.SystemFiles.{SystemFiles}
use Rattle.timeline.specs.Outsides.{AddsSome, Outside}
use Rattle.serve_core.specs.Serve.{AnswersCall, AnswersRequests}

-- what stays: which timeline it has, over which system, and whether requests are logged
pub record Ground (G : Type 0) : Type 0 where
  pub timeline : GName
  pub system : G
  pub is_logged : Bool

-- the timeline at this moment, and the folders that requests are answered by
pub record AnsweringView (G C T : Type 0) : Type 0 where
  pub ground : Ground G
  pub now : T
  pub tables : FolderOn (SystemFiles G)
  pub games : Option (GamesByClock G C)

-- a request is answered by these folders; what is read for it and its note come, and nothing else
pub record AnswersOne {G C T P F K S L : Type 0} (outside : G → Outside T P F K S L) (says : C → Option ℕ → Type 0) (old : AnsweringView G C T) (request : Request (List ℕ)) (r : Response) (new : AnsweringView G C T) : Type 0 where
  pub responds : Responds outside says old.tables old.games request r new.tables new.games
  pub ground : new.ground ≡ old.ground
  pub adds : AddsSome (outside old.ground.system) old.now new.now (AnswersCall (outside old.ground.system) old.ground.is_logged old.tables.folder (paths_of old.games) request r)

-- all is on one system
pub record IsGrounded {G C : Type 0} (system : G) (tables : FolderOn (SystemFiles G)) (games : Option (GamesByClock G C)) : Type 0 where
  pub one : AreOfOne tables games
  pub same : system ≡ tables.disk.system.now

-- from one moment to a later one some requests are answered by these folders, and nothing else comes
abbrev pub AddsRequests : {G C T P F K S L : Type 0} → Outside T P F K S L → T → T → Bool → FolderOn (SystemFiles G) → Option (GamesByClock G C) → Type 0
AddsRequests o before after is_logged tables games = AddsSome o before after (AnswersRequests o is_logged tables.folder (paths_of games))
