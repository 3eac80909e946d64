-- What passes over the streams of a listener whose requests are answered as the words of `serve` say (this project's own).
use Rattle.std.specs.Prelude.{◌≡◌, ◌≢◌, ◌⊎◌, ℕ, List, Option, Result, Ok, Err}
use Rattle.command_line.specs.declared.commands.serve.Serve.{Serve}
use Rattle.http_answer.specs.Games.{GamesByClock, GamesOn, places_of}
use Rattle.http_loop.specs.declared.server.Server.{Server}
use Rattle.http_loop.specs.Streams.{Streams}
use Rattle.system_io.specs.declared.output.WriteFault.{WriteFault}
use Rattle.table_folder.specs.Folders.{Folder, FolderOn}
use Rattle.table_folder.specs.declared.files.SystemFiles.{SystemFiles}
use Rattle.timeline.specs.Outsides.{Outside}
use Rattle.serve_core.specs.GamesNamed.{games_for}
use Rattle.serve_core.specs.declared.pages.Bound.{Bound}
use Rattle.serve_core.specs.declared.refusals.Unbound.{Unbound}
use Rattle.serve_core.specs.declared.task.Serving.{Serving}
use Rattle.serve_core.specs.Refusals.{IsTaskFolder}
use Rattle.serve_core.specs.Streams.{RepliesBy}

module _ {G C T P F K S L D J R W : Type 0} (outside : G → Outside T P F K S L) (says : C → Option ℕ → Type 0) (streams : J → Option Streams) (remaining : R → Option (List ℕ)) (contents : W → Option (List ℕ)) where
  -- Each stream got the replies to its requests by these folders, in their order; or no request was read, and the status isn't 0.
  abbrev pub MayReply : FolderOn (SystemFiles G) → Option (GamesOn G) → Server D J R W → Server D J R W → Result ℕ WriteFault → Type 0
  MayReply tables games old new r = RepliesBy outside says tables games streams remaining contents old new ⊎ ((new ≡ old) × (r ≢ Ok 0))

  -- so it is by the folders of a service
  abbrev pub MayRoute : FolderOn (SystemFiles G) → Option (GamesByClock G C) → Bound D J R W → Bound D J R W → Result ℕ WriteFault → Type 0
  MayRoute tables games old new r = MayReply tables (places_of games) old.server new.server r

  -- so it is by the folders of games that the words name
  abbrev pub MayServe : Serving C G → Serve → FolderOn (SystemFiles G) → Bound D J R W → Bound D J R W → Result ℕ WriteFault → Type 0
  MayServe by t tables old new r = MayReply tables (places_of (games_for by t)) old.server new.server r

  -- and where an address was bound; else the status isn't 0
  abbrev pub IfBound : Serving C G → Serve → FolderOn (SystemFiles G) → Result (Bound D J R W) Unbound → Result (Bound D J R W) Unbound → Result ℕ WriteFault → Type 0
  IfBound by t tables (Ok old) (Ok new) r = MayServe by t tables old new r
  IfBound by t tables (Ok old) (Err why) r = ⊥
  IfBound by t tables (Err why) new r = r ≢ Ok 0

  -- So it is by the folder of tables that the words name, on this system; or no request was read, and the status isn't 0.
  abbrev pub RepliesToTask : Serving C G → Serve → Result (Bound D J R W) Unbound → Result (Bound D J R W) Unbound → Result ℕ WriteFault → Type 0
  RepliesToTask by t old new r =
      ((tables : FolderOn (SystemFiles G)) × (tables.disk.system.now ≡ by.system.now) × IsTaskFolder (outside by.system.now).disk t tables.folder × IfBound by t tables old new r)
      ⊎ ((new ≡ old) × (r ≢ Ok 0))
