-- Parts of `host`; cited by private clauses alone.
use Rattle.std.specs.Prelude.{◌≡◌, ℕ, List, ◌∷◌, Option, Result, Ok, Err, string_bytes}
use Rattle.answer_parts.specs.Lines.{refusal_words}
use Rattle.answer_parts.specs.Printing.{Performs}
use Rattle.answer_parts.specs.declared.answers.refusals.Refusal.{Refusal}
use Rattle.arbiter_server.specs.Games.{common_with}
use Rattle.arbiter_server.specs.declared.line_log.LogForm.TheVariants.{Nothing}
use Rattle.command_line.specs.declared.commands.host.HostGames.{HostGames}
use Rattle.game_folder.specs.Holdings.{GamesFacts}
use Rattle.game_folder.specs.StoreGames.{StoredGames}
use Rattle.game_server.specs.Printing.{OfGames}
use Rattle.game_server.specs.declared.running.PortServer.{PortServer}
use Rattle.game_server.specs.declared.server.Server.{Server}
use Rattle.system_io.specs.declared.output.WriteFault.{WriteFault}
use Rattle.system_io.specs.declared.recipient.Recipient.{Recipient}
use Rattle.timeline.specs.Events.{Event, Noted}
use Rattle.timeline.specs.Outsides.{AddsSome, Outside}
use Rattle.host_commands.specs.Hosts.{AnswersLogged, OpenedHost, RunsGames, RunsKept, common_for, log_lost, opened_host}
use Rattle.host_commands.specs.Outliving.{PerformsOutliving}
use Rattle.host_commands.specs.ServerRuns.{AnswersAll}
use Rattle.host_commands.specs.Steps.{Doing}
use Rattle.host_commands.specs.declared.hosting.GamesServed.{GamesServed}
use Rattle.host_commands.specs.declared.hosting.Opened.{Opened}

-- what was opened for the games that these words tell, or the words of the refusal
abbrev pub host_view : {P K S : Type 0} → HostGames → Opened P K (StoredGames S) → OpenedHost P S
host_view h at = opened_host (common_for h at.tables at.manifest.items) at.port (string_bytes at.line) at.store

abbrev pub all_opened : {P K S : Type 0} → HostGames → Result (Opened P K (StoredGames S)) Refusal → Result (OpenedHost P S) (List ℕ)
all_opened h (Ok at) = Ok (host_view h at)
all_opened h (Err refusal) = Err (refusal_words refusal)

module _ {T P F K S L G : Type 0} (o : Outside T P F K S L) (facts : GamesFacts G) (most n : ℕ) (to : List Recipient) (server : Server G F) where
  -- that the log is lost is noted, and datagrams are answered without it
  pub record GoesOnUnlogged (events : List Event) (status : Option ℕ) : Type 0 where
    pub rest : List Event
    pub answers : AnswersAll o facts most n to (OfGames Nothing) server rest status
    pub all : events ≡ Noted log_lost ∷ rest

-- ---- from one moment to another

-- a host does this
abbrev pub HostDoes : {T P F K S L : Type 0} → Outside T P F K S L → HostGames → Doing → T → T → Result ℕ WriteFault → Type 0
HostDoes o h Does t t' result = AddsSome o t t' (PerformsOutliving h Does result)

module _ {T P F K S L G : Type 0} (o : Outside T P F K S L) (facts : GamesFacts G) where
  -- so many datagrams are answered without the log
  abbrev pub GoesOnIn : ℕ → PortServer G F → P → T → T → Result ℕ WriteFault → Type 0
  GoesOnIn n at port t t' result = AddsSome o t t' (Performs (GoesOnUnlogged o facts at.replies.most n (o.port port).to at.server) result)

  abbrev pub AnswersIn : HostGames → PortServer G F → P → T → T → Result ℕ WriteFault → Type 0
  AnswersIn h at port = HostDoes o h (AnswersLogged o facts h at.replies.most (o.port port).to at.server)

  abbrev pub RunsIn : HostGames → GamesServed G → P → T → T → Result ℕ WriteFault → Type 0
  RunsIn h s port = HostDoes o h (RunsGames o facts h (common_with s.config s.tables) s.games port)

-- with a file for each record, or with a store
abbrev pub KeptIn : {T P F K S L : Type 0} → Outside T P F K S L → HostGames → GamesServed (Option (StoredGames S)) → P → T → T → Result ℕ WriteFault → Type 0
KeptIn o h s port = HostDoes o h (RunsKept o h (common_with s.config s.tables) port s.games)
