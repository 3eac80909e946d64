-- `host`: arbiters of the games of a folder, at one port (this project's own).
use Rattle.std.specs.Prelude.{◌≡◌, ◌++◌, ℕ, true, List, [], ◌∷◌, Option, Some, None, Result, Ok, Err, codes, length}
use Rattle.std.specs.Fmt.{decimal}
use Rattle.std.specs.NonZero.{non_zero_usize_get}
use Rattle.arbiter_server.specs.Games.{CommonView}
use Rattle.arbiter_server.specs.declared.line_log.LogForm.{LogForm}
use Rattle.arbiter_server.specs.declared.line_log.LogForm.TheVariants.{Nothing}
use Rattle.command_line.specs.Commands.Host.{named}
use Rattle.command_line.specs.declared.commands.host.HostGames.{HostGames}
use Rattle.command_line.specs.declared.words.numbers.StoreForm.{StoreForm}
use Rattle.command_line.specs.declared.words.numbers.StoreForm.TheVariants as form
use Rattle.game_folder.specs.Holdings.{GamesFacts}
use Rattle.game_folder.specs.FolderGames.{folder_games_facts}
use Rattle.game_folder.specs.StoreGames.{StoredGames, store_games_facts}
use Rattle.game_folder.specs.declared.folder_games.FolderGames.{FolderGames}
use Rattle.game_server.specs.Printing.{OfGames}
use Rattle.game_server.specs.declared.server.Server.{Server}
use Rattle.game_status.specs.StoreReadings.{store_path}
use Rattle.judge_core.specs.Tables.{Holding}
use Rattle.move_msg.specs.Senders.{who_number}
use Rattle.system_io.specs.declared.recipient.Recipient.{Recipient}
use Rattle.task_files.specs.Given.{Given}
use Rattle.timeline.specs.Events.{Event, Noted}
use Rattle.timeline.specs.Outsides.{Outside}
use Rattle.host_commands.specs.Binds.{BindsPort}
use Rattle.host_commands.specs.Imports.{ImportsRecords, Imported, NotesAllLeft, OpensStore}
use Rattle.host_commands.specs.Listings.{ListsGames}
use Rattle.host_commands.specs.Locks.{LocksFile, games_lock}
use Rattle.host_commands.specs.Notes.{MayNote}
use Rattle.host_commands.specs.Ready.{IsReadyLine}
use Rattle.host_commands.specs.ServerRuns.{AnswersAll, IsServer, LosesLine}
use Rattle.host_commands.specs.Steps.{AfterText, AndThen, Doing, AllOpen, Step, ThenOrRefused}
use Rattle.host_commands.specs.Tables.{GathersTables, MakesManifest, ReadsNamed}

-- how many datagrams are answered together: with a store those that have come, since what their games keep is committed at once
abbrev pub together_of : StoreForm → ℕ
together_of form.Sqlite = 256
together_of form.Files = 1

-- what the games have in common
abbrev pub common_for : HostGames → Holding → List ℕ → CommonView
common_for h set manifest = record {
  manifest = manifest;
  number = who_number h.me;
  set = set;
  at_once = non_zero_usize_get h.at_once;
  together = together_of h.store;
}

abbrev pub log_lost : List ℕ
log_lost = codes "the log can't be written: the games go on without it"

abbrev pub tables_line : ℕ → List ℕ
tables_line read = codes "tables " ++ decimal read

-- ---- a run

module _ {T P F K S L G : Type 0} (o : Outside T P F K S L) (facts : GamesFacts G) (h : HostGames) where
  module _ (most : ℕ) (to : List Recipient) where
    -- datagrams are answered, with the lines of a log of this form
    abbrev pub AnswersWith : LogForm → Server G F → Doing
    AnswersWith form server = AnswersAll o facts most h.datagrams to (OfGames form) server

    -- a line can't be written, which is noted, and so many more datagrams are answered without lines
    pub record OutlivesLog (server : Server G F) (events : List Event) (status : Option ℕ) : Type 0 where
      pub mid : Server G F
      pub first : List Event
      pub rest : List Event
      pub loses : LosesLine o facts most h.datagrams to (OfGames h.log) server mid first
      pub answers : AnswersWith Nothing mid rest status
      pub all : events ≡ first ++ Noted log_lost ∷ rest

    -- with the lines of the log that the words tell; where they say so, its loss is outlived
    pub data AnswersLogged (server : Server G F) (events : List Event) (status : Option ℕ) : Type 0 where
      Logged : AnswersWith h.log server events status → AnswersLogged server events status
      Unlogged : h.outlives_log ≡ true → OutlivesLog server events status → AnswersLogged server events status

  -- there is a server of these games, and it answers the datagrams of this port
  abbrev pub RunsGames : CommonView → G → P → Doing
  RunsGames common games port = ThenOrRefused (IsServer common games) (AnswersLogged common.together (o.port port).to)

-- ---- how records are kept

-- the games of a folder with this store, of which some are left: no record of theirs is given; nothing waits to be committed yet
abbrev pub stored_games : {S : Type 0} → List ℕ → S → List (List ℕ) → StoredGames S
stored_games folder store left = record { folder = folder; store = store; noted = []; left = left; loss = None }

module _ {T P F K S L : Type 0} (o : Outside T P F K S L) (folder : List ℕ) where
  -- it is noted which files hold none of their games' records, and what games keep is put into the store from then on
  abbrev pub NotesAndKeeps : Imported S → Step (StoredGames S)
  NotesAndKeeps now result events = (result ≡ Ok (stored_games folder now.store now.left)) × NotesAllLeft folder now.left events

  -- before that the records of files go over into a store that hasn't them
  abbrev pub KeepsInStore : S → Step (StoredGames S)
  KeepsInStore store = AndThen (ImportsRecords o folder store) NotesAndKeeps

  -- the store of the folder is opened before
  abbrev pub OpensGames : Step (StoredGames S)
  OpensGames = AndThen (OpensStore o (store_path folder)) KeepsInStore

  -- so it is where records are kept in a store, and not each in its file
  abbrev pub OpensStoreIf : StoreForm → Step (Option (StoredGames S))
  OpensStoreIf form.Files = AllOpen None
  OpensStoreIf form.Sqlite = AndThen OpensGames (λ games. AllOpen (Some games))

-- ---- all of it

-- what a start opens: what the games have in common, at this port; the line that tells its address; and the games that keep their records in
-- a store, if they do
pub record OpenedHost (P S : Type 0) : Type 0 where
  pub common : CommonView
  pub port : P
  pub line : List ℕ
  pub store : Option (StoredGames S)

abbrev pub opened_host : {P S : Type 0} → CommonView → P → List ℕ → Option (StoredGames S) → OpenedHost P S
opened_host common port line store = record { common = common; port = port; line = line; store = store }

module _ {T P F K S L : Type 0} (o : Outside T P F K S L) (h : HostGames) where
  -- what is opened by what was read, one after the other
  abbrev pub StartsHost : Given → Step (OpenedHost P S)
  StartsHost given =
      AndThen (GathersTables given h.cache)
      (λ set.
      AndThen (ListsGames o.disk h.games.now h.store)
      (λ listed.
      AndThen (MakesManifest given)
      (λ manifest.
      AndThen (BindsPort o h.bind.now h.to.now)
      (λ port.
      AndThen (IsReadyLine (o.port port).own)
      (λ line.
      AndThen (LocksFile o (games_lock h.games.now))
      (λ held. AndThen (OpensStoreIf o h.games.now h.store) (λ store. AllOpen (opened_host (common_for h set manifest) port line store))))))))

  -- the games of the folder run, with a file for each record
  pub record RunsFiles (common : CommonView) (port : P) (events : List Event) (status : Option ℕ) : Type 0 where
    pub games : FolderGames
    pub folder : games.folder.now ≡ h.games.now
    pub runs : RunsGames o (folder_games_facts o) h common games port events status

  -- or with a store
  abbrev pub RunsKept : CommonView → P → Option (StoredGames S) → Doing
  RunsKept common port None = RunsFiles common port
  RunsKept common port (Some games) = RunsGames o (store_games_facts o) h common games port

  -- of how many files the tables were read is noted first
  pub record NotesAndRuns (read : ℕ) (at : OpenedHost P S) (events : List Event) (status : Option ℕ) : Type 0 where
    pub noting : List Event
    pub rest : List Event
    pub notes : MayNote (tables_line read) noting
    pub runs : RunsKept at.common at.port at.store rest status
    pub all : events ≡ noting ++ rest

  -- the line goes out before that
  abbrev pub HostsBy : Given → Doing
  HostsBy given = ThenOrRefused (StartsHost given) (λ at. AfterText at.line (NotesAndRuns (length given.files) at))

  -- what the words name is read before all else
  abbrev pub Hosts : Doing
  Hosts = ThenOrRefused (ReadsNamed o (named h)) HostsBy
