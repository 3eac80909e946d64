-- Arbiters of the games of a folder, one step after another.
use Rattle.std.proofs.Common.{◌≡◌, ◌++◌, ◌∷◌, [], ℕ, true, List, Option, ap, refl, subst}
use Rattle.std.specs.Prelude.{Result, IsOk}
use Rattle.answer_parts.proofs.PrintLaws.{does_so, then_does}
use Rattle.answer_parts.specs.Printing.{Performs}
use Rattle.arbiter_server.specs.Games.{CommonView}
use Rattle.arbiter_server.specs.declared.line_log.LogForm.TheVariants.{Nothing}
use Rattle.command_line.specs.declared.commands.host.HostGames.{HostGames}
use Rattle.game_folder.specs.FolderGames.{folder_games_facts}
use Rattle.game_folder.specs.Holdings.{GamesFacts}
use Rattle.game_folder.specs.declared.folder_games.FolderGames.{FolderGames}
use Rattle.game_server.specs.Printing.{OfGames}
use Rattle.game_server.specs.declared.server.Server.{Server}
use Rattle.system_io.specs.declared.output.WriteFault.{WriteFault}
use Rattle.system_io.specs.declared.recipient.Recipient.{Recipient}
use Rattle.timeline.specs.Events.{Event, Noted}
use Rattle.timeline.specs.Outsides.{Adds, AddsSome, Outside}
use Rattle.host_commands.proofs.OutlivingLaws.{done_outlives, outlives_so, then_outlives}
use Rattle.host_commands.proofs.QuietLaws.{note_quiet}
use Rattle.host_commands.specs.Hosts.{AnswersLogged, Logged, NotesAndRuns, OpenedHost, RunsFiles, RunsGames, RunsKept, Unlogged, log_lost, tables_line}
use Rattle.host_commands.specs.Inside.HostParts.{GoesOnUnlogged, HostDoes}
use Rattle.host_commands.specs.Notes.{MayNote}
use Rattle.host_commands.specs.ServerRuns.{AnswersAll, LosesLine}

module _ {T P F K S L G : Type 0} (o : Outside T P F K S L) (facts : GamesFacts G) where
  -- the loss is noted, and it goes on
  pub unlogged_so : (most n : ℕ) (to : List Recipient) (server : Server G F) (a b c : T) (r : Result ℕ WriteFault) → Adds o a b (Noted log_lost ∷ []) → AddsSome o b c (Performs (AnswersAll o facts most n to (OfGames Nothing) server) r)
      → AddsSome o a c (Performs (GoesOnUnlogged o facts most n to server) r)
  unlogged_so most n to server a b c r p q =
      then_does o a b c (Noted log_lost ∷ []) (AnswersAll o facts most n to (OfGames Nothing) server) (GoesOnUnlogged o facts most n to server) r (λ events status h. record { rest = events; answers = h; all = refl }) p q

  module _ (h : HostGames) (most : ℕ) (to : List Recipient) (server : Server G F) where
    pub logged_so : (a b : T) (r : Result ℕ WriteFault) → AddsSome o a b (Performs (AnswersAll o facts most h.datagrams to (OfGames h.log) server) r) → AddsSome o a b (Performs (AnswersLogged o facts h most to server) r)
    logged_so a b r p = does_so o a b (AnswersAll o facts most h.datagrams to (OfGames h.log) server) (AnswersLogged o facts h most to server) r (λ events status is. Logged is) p

    -- a line was lost, and the words say that the games go on
    pub outlived_so : (a b c : T) (mid : Server G F) (r : Result ℕ WriteFault) → h.outlives_log ≡ true → IsOk r → AddsSome o a b (LosesLine o facts most h.datagrams to (OfGames h.log) server mid)
        → AddsSome o b c (Performs (GoesOnUnlogged o facts most h.datagrams to mid) r) → HostDoes o h (AnswersLogged o facts h most to server) a c r
    outlived_so a b c mid r outlives done p q =
        done_outlives o h a c (AnswersLogged o facts h most to server) r done (then_does o a b c p.0 (GoesOnUnlogged o facts most h.datagrams to mid) (AnswersLogged o facts h most to server) r so p.1 q)
      where
        so : (events : List Event) (status : Option ℕ) → GoesOnUnlogged o facts most h.datagrams to mid events status → AnswersLogged o facts h most to server (p.0 ++ events) status
        so events status u = Unlogged outlives (record { mid = mid; first = p.0; rest = u.rest; loses = p.2; answers = u.answers; all = ap (λ (e : List Event). p.0 ++ e) u.all })

module _ {T P F K S L : Type 0} (o : Outside T P F K S L) (h : HostGames) (common : CommonView) where
  -- the games run, with a file for each record
  pub files_so : (port : P) (games : FolderGames) (a b : T) (r : Result ℕ WriteFault) → games.folder.now ≡ h.games.now → HostDoes o h (RunsGames o (folder_games_facts o) h common games port) a b r → HostDoes o h (RunsFiles o h common port) a b r
  files_so port games a b r folder p =
      outlives_so o h a b (RunsGames o (folder_games_facts o) h common games port) (RunsFiles o h common port) r (λ events status runs. record { games = games; folder = folder; runs = runs }) p

  -- after the note on the tables
  pub noted_so : (at : OpenedHost P S) (read files : ℕ) (a b c : T) (r : Result ℕ WriteFault) → common ≡ at.common → read ≡ files → AddsSome o a b (MayNote (tables_line read)) → HostDoes o h (RunsKept o h common at.port at.store) b c r → HostDoes o h (NotesAndRuns o h files at) a c r
  noted_so at read files a b c r is count p q = then_outlives o h a b c p.0 (RunsKept o h common at.port at.store) (NotesAndRuns o h files at) r so (note_quiet (tables_line read) p.0 p.2) p.1 q
    where
      so : (events : List Event) (status : Option ℕ) → RunsKept o h common at.port at.store events status → NotesAndRuns o h files at (p.0 ++ events) status
      so events status runs = record {
        noting = p.0;
        rest = events;
        notes = subst (λ (n : ℕ). MayNote (tables_line n) p.0) count p.2;
        runs = subst (λ (x : CommonView). RunsKept o h x at.port at.store events status) is runs;
        all = refl;
      }
