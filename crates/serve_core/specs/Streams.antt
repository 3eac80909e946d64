-- What passes over the streams of a listener whose requests are answered by the tables of a folder, and by folders of games.
use Rattle.std.specs.Prelude.{◌≡◌, ℕ, List, [], ◌++◌, Option, Some, None, All}
use Rattle.std.specs.Io.KnownBytes.{Appends, Consumes}
use Rattle.http_server.specs.History.{History, IsServed}
use Rattle.http_server.specs.declared.state.Config.{Config}
use Rattle.http_answer.specs.Games.{GamesByClock, GamesOn, IsServedCall, places_of}
use Rattle.http_loop.specs.declared.server.Server.{Server}
use Rattle.http_loop.specs.Servers.{HasServed, config_of, listener_of}
use Rattle.http_loop.specs.Streams.{Closed, HasNoOpen, Stream, Streams}
use Rattle.table_folder.specs.Folders.{FolderOn}
use Rattle.table_folder.specs.declared.files.SystemFiles.{SystemFiles}
use Rattle.timeline.specs.Outsides.{Outside}

-- What the stream gave is what one connection received, and what it got is what that one sent: the answers to the requests in it, in
-- their order, and then nothing or a refusal with its cause (`IsServed`). Each answer is the reply to its request by these folders.
pub record IsRepliedOver {G C T P F K S L : Type 0} (outside : G → Outside T P F K S L) (says : C → Option ℕ → Type 0) (tables : FolderOn (SystemFiles G)) (games : Option (GamesOn G)) (config : Config) (came left : Stream) : Type 0 where
  pub history : History
  pub served : ∥ IsServed config history ∥₁
  pub received : Consumes came.gives left.gives history.received
  pub sent : Appends came.got left.got history.sent
  pub replied : All (IsServedCall outside says tables games) history.calls

-- All streams that came are closed, and so it is of each that was closed since these, where the streams are known.
abbrev pub HasReplied : {G C T P F K S L : Type 0} → (G → Outside T P F K S L) → (C → Option ℕ → Type 0) → FolderOn (SystemFiles G) → Option (GamesOn G) → Config → List Closed → Option Streams → Type 0
HasReplied outside says tables games config before None = Unit {0}
HasReplied outside says tables games config before (Some known) =
    HasNoOpen (Some known) × (since : List Closed) × (known.closed ≡ before ++ since) × All (λ c. IsRepliedOver outside says tables games config c.came c.left) since

-- Over the streams of a server that has served none but these.
abbrev pub RepliesBy : {G C T P F K S L D J R W : Type 0} → (G → Outside T P F K S L) → (C → Option ℕ → Type 0) → FolderOn (SystemFiles G) → Option (GamesOn G)
    → (J → Option Streams) → (R → Option (List ℕ)) → (W → Option (List ℕ)) → Server D J R W → Server D J R W → Type 0
RepliesBy outside says tables games streams remaining contents old new =
    (before : List Closed) → HasServed streams remaining contents [] before old
    → HasReplied outside says tables games (config_of new) before (streams (listener_of new))

-- the same, by the folders of a service
abbrev pub RoutesOver : {G C T P F K S L D J R W : Type 0} → (G → Outside T P F K S L) → (C → Option ℕ → Type 0) → FolderOn (SystemFiles G) → Option (GamesByClock G C)
    → (J → Option Streams) → (R → Option (List ℕ)) → (W → Option (List ℕ)) → Server D J R W → Server D J R W → Type 0
RoutesOver outside says tables games streams remaining contents old new = RepliesBy outside says tables (places_of games) streams remaining contents old new
