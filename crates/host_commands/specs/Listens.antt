-- `listen`: an arbiter of one game, at a port (this project's own).
use Rattle.std.specs.Prelude.{◌≡◌, ◌++◌, ℕ, Bool, true, false, List, [], Option, Result, Ok, Err}
use Rattle.answer_parts.specs.Lines.{refused_fen}
use Rattle.arbiter_server.specs.GameFiles.{game_as_told}
use Rattle.arbiter_server.specs.Games.{CommonView}
use Rattle.arbiter_server.specs.ServedLines.{refused_keeper}
use Rattle.arbiter_server.specs.declared.fault.OpenGameError.{OpenGameError}
use Rattle.arbiter_server.specs.declared.fault.OpenGameError.TheVariants as unopened
use Rattle.board_core.specs.Position.{IsPosition}
use Rattle.board_core.specs.declared.parts.Parts.{Parts}
use Rattle.command_line.specs.Commands.Listen.{named}
use Rattle.command_line.specs.declared.commands.listen.Listen.{Listen}
use Rattle.fen_text.specs.Fen.{IsFirstFenFault, SpellsPosition}
use Rattle.fen_text.specs.Written.{fen_of}
use Rattle.fen_text.specs.declared.fault.FenFault.{FenFault}
use Rattle.game_folder.specs.Holdings.{GamesFacts}
use Rattle.game_folder.specs.OneGame.{OneGameView, one_game_facts}
use Rattle.game_server.specs.Printing.{OfOne}
use Rattle.game_server.specs.Sending.{Address, IsRequestSpelled, address_of, request_sent}
use Rattle.game_server.specs.Starting.{OpensUnasked, request_at}
use Rattle.game_server.specs.declared.server.Server.{Server}
use Rattle.judge_core.specs.Tables.{Holding}
use Rattle.line_teller.specs.ToldLines.{refused_memory}
use Rattle.move_msg.specs.Senders.{who_number}
use Rattle.move_msg.specs.Stamps.{stamp_of}
use Rattle.task_files.specs.Given.{Given}
use Rattle.timeline.specs.Events.{Event}
use Rattle.timeline.specs.Outsides.{Outside}
use Rattle.host_commands.specs.Binds.{BindsPort}
use Rattle.host_commands.specs.Locks.{LocksFile, kept_lock}
use Rattle.host_commands.specs.Ready.{MakesLineIf}
use Rattle.host_commands.specs.ServerRuns.{AnswersAll, IsServer}
use Rattle.host_commands.specs.Steps.{AfterLine, AndThen, Doing, AllOpen, Step, ThenOrRefused}
use Rattle.host_commands.specs.Tables.{GathersTables, MakesManifest, ReadsNamed}

-- ---- what is served

-- what the games of a server have in common, where they are, and the stamp of the one that is opened first
pub record OneServed (G : Type 0) : Type 0 where
  pub common : CommonView
  pub games : G
  pub stamp : List ℕ

abbrev pub common_for : Listen → Holding → List ℕ → CommonView
common_for l set manifest = record { manifest = manifest; number = who_number l.me; set = set; at_once = 1; together = 1 }

-- the stamp of the game that the words tell
abbrev pub stamp_told : Listen → Parts → List ℕ → List ℕ
stamp_told l start manifest = stamp_of l.name (fen_of start) manifest l.delay

-- this game, whose record is in the file that they name
abbrev pub game_of : Listen → Parts → List ℕ → OneGameView
game_of l start manifest = record {
  at = record { stamp = stamp_told l start manifest; game = game_as_told l.name start l.delay; path = l.kept.now };
  is_lost = false;
}

-- it is what is served, under its stamp by the manifest of its tables
abbrev pub served_of : Listen → Parts → Holding → List ℕ → OneServed OneGameView
served_of l start set manifest = record { common = common_for l set manifest; games = game_of l start manifest; stamp = stamp_told l start manifest }

-- the words of the start spell this position; or why they spell none; nothing happens for this
pub data IsStart (text : List ℕ) (result : Result Parts (List ℕ)) (events : List Event) : Type 0 where
  StartIs : (start : Parts) → SpellsPosition text start → IsPosition start → result ≡ Ok start → events ≡ [] → IsStart text result events
  StartIsNone : (fault : FenFault) → IsFirstFenFault text fault → result ≡ Err (refused_fen fault) → events ≡ [] → IsStart text result events

-- why the game isn't opened, as it is refused
abbrev pub unopened_refusal : OpenGameError → List ℕ
unopened_refusal unopened.NotOpen = refused_keeper
unopened_refusal unopened.NoGame = refused_keeper
unopened_refusal unopened.OtherGame = refused_keeper
unopened_refusal (unopened.BadGame line) = refused_keeper
unopened_refusal unopened.Keeper = refused_keeper
unopened_refusal unopened.OutOfMemory = refused_memory

-- ---- at a port

-- the request for moves of a game goes out, where that is wanted and it has one
abbrev pub AsksIf : {G F : Type 0} → Bool → Address → Server G F → List ℕ → List Event → Type 0
AsksIf false to server stamp events = events ≡ []
AsksIf true to server stamp events = IsRequestSpelled (request_at server stamp) × (events ≡ request_sent to (request_at server stamp))

-- of a game with this stamp, where so many datagrams are answered together at most
module _ {T P F K S L G : Type 0} (o : Outside T P F K S L) (facts : GamesFacts G) (l : Listen) (most : ℕ) (stamp : List ℕ) where
  module _ (server : Server G F) where
    -- it leaves this server, and tells this
    abbrev pub OpensLeaving : Server G F → Result (Unit {0}) OpenGameError → List Event → Type 0
    OpensLeaving left told events = OpensUnasked o facts server left stamp told events

    -- it is opened over its record by these events, and no other one is; or it isn't
    pub data OpensGame (result : Result (Server G F) (List ℕ)) (events : List Event) : Type 0 where
      GameIsOpen : (opened : Server G F) → OpensLeaving opened (Ok tt) events → result ≡ Ok opened → OpensGame result events
      GameIsNotOpen : (why : OpenGameError) (left : Server G F) → OpensLeaving left (Err why) events → result ≡ Err (unopened_refusal why) → OpensGame result events

  -- its request for moves goes out, where that is wanted, and then datagrams are answered
  pub record AsksAndAnswers (port : P) (server : Server G F) (events : List Event) (status : Option ℕ) : Type 0 where
    pub asking : List Event
    pub rest : List Event
    pub asks : AsksIf l.fetch (address_of (o.port port)) server stamp asking
    pub answers : AnswersAll o facts most l.datagrams (o.port port).to (OfOne stamp) server rest status
    pub all : events ≡ asking ++ rest

  -- the game is opened before the first datagram is awaited
  abbrev pub OpensAndAnswers : P → Server G F → Doing
  OpensAndAnswers port server = ThenOrRefused (OpensGame server) (AsksAndAnswers port)

module _ {T P F K S L G : Type 0} (o : Outside T P F K S L) (facts : GamesFacts G) (l : Listen) (s : OneServed G) where
  abbrev pub RunsOne : P → Doing
  RunsOne port = ThenOrRefused (IsServer s.common s.games) (OpensAndAnswers o facts l s.common.together s.stamp port)

-- ---- all of it

-- a set of tables keeps so many decoded blocks unless words say another number
abbrev pub usual_cache : ℕ
usual_cache = 64

-- what a start opens: what is served, at this port, and the line that tells its address, where that is wanted
pub record OpenedOne (P : Type 0) : Type 0 where
  pub served : OneServed OneGameView
  pub port : P
  pub line : Option (List ℕ)

abbrev pub opened_one : {P : Type 0} → OneServed OneGameView → P → Option (List ℕ) → OpenedOne P
opened_one served port line = record { served = served; port = port; line = line }

module _ {T P F K S L : Type 0} (o : Outside T P F K S L) (l : Listen) where
  -- what is opened by what was read, one after the other
  abbrev pub StartsOne : Given → Step (OpenedOne P)
  StartsOne given =
      AndThen (IsStart l.start.now)
      (λ start.
      AndThen (GathersTables given usual_cache)
      (λ set.
      AndThen (MakesManifest given)
      (λ manifest.
      AndThen (BindsPort o l.bind.now l.to.now)
      (λ port. AndThen (MakesLineIf l.ready (o.port port).own) (λ line. AllOpen (opened_one (served_of l start set manifest) port line))))))

  -- under the lock of its file the arbiter of the game runs
  abbrev pub LocksAndRuns : OneServed OneGameView → P → Doing
  LocksAndRuns s port = ThenOrRefused (LocksFile o (kept_lock l.kept.now)) (λ held. RunsOne o (one_game_facts o) l s port)

  -- the line goes out before that
  abbrev pub ListensBy : Given → Doing
  ListensBy given = ThenOrRefused (StartsOne given) (λ at. AfterLine at.line (LocksAndRuns at.served at.port))

  -- what the words name is read before all else
  abbrev pub Listens : Doing
  Listens = ThenOrRefused (ReadsNamed o (named l)) ListensBy
