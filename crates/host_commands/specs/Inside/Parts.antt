-- Parts of `listen` and `host`; cited by private clauses alone.
use Rattle.std.specs.Prelude.{◌≡◌, ◌<◌, ◌⊎◌, ℕ, Bool, List, [], ◌∷◌, length, Option, Some, None, Result, Ok, Err, String, Vec, string_bytes}
use Rattle.std.specs.Global.{Global}
use Rattle.std.specs.declared.net.socket_addr.SocketAddr.{SocketAddr}
use Rattle.answer_parts.specs.Lines.{refusal_words}
use Rattle.answer_parts.specs.Printing.{Performs}
use Rattle.answer_parts.specs.declared.answers.refusals.Refusal.{Refusal}
use Rattle.arbiter_server.specs.Games.{common_with}
use Rattle.command_line.specs.Addresses.{addresses_of}
use Rattle.command_line.specs.declared.commands.listen.Listen.{Listen}
use Rattle.game_folder.specs.Holdings.{GamesFacts}
use Rattle.game_folder.specs.OneGame.{OneGameView}
use Rattle.game_server.specs.Printing.{form_in}
use Rattle.game_server.specs.Sending.{address_of}
use Rattle.game_server.specs.declared.running.PortServer.{PortServer}
use Rattle.system_io.specs.declared.host.BindFault.{BindFault}
use Rattle.system_io.specs.declared.host.BindFault.TheVariants as bind
use Rattle.system_io.specs.declared.output.WriteFault.{WriteFault}
use Rattle.timeline.specs.Events.{Event}
use Rattle.timeline.specs.Outsides.{AddsSome, Outside}
use Rattle.host_commands.specs.Binds.{IsPortOf, port_asked}
use Rattle.host_commands.specs.Listens.{AsksIf, LocksAndRuns, OneServed, OpenedOne, OpensAndAnswers, RunsOne, opened_one, served_of}
use Rattle.host_commands.specs.Ready.{IsReadyLine}
use Rattle.host_commands.specs.ServerRuns.{AnswersAll}
use Rattle.host_commands.specs.Steps.{Doing, gone_out}
use Rattle.host_commands.specs.declared.listening.OneServed.{OneServed as OneToServe}
use Rattle.host_commands.specs.declared.listening.Opened.{Opened}

-- a text is written and goes out
abbrev pub GoesOut : List ℕ → List Event → Option (Unit {0}) → Type 0
GoesOut text events is = (events ≡ gone_out text) × (is ≡ Some tt)

-- where there is one
abbrev pub GoesOutIf : Option (List ℕ) → List Event → Option (Unit {0}) → Type 0
GoesOutIf None events is = (events ≡ []) × (is ≡ Some tt)
GoesOutIf (Some text) events is = GoesOut text events is

abbrev pub line_in : Option (String Global) → Option (List ℕ)
line_in None = None
line_in (Some line) = Some (string_bytes line)

-- the bytes of a line or of a manifest, or the words of its refusal
abbrev pub line_taken : Result (String Global) Refusal → Result (List ℕ) (List ℕ)
line_taken (Ok line) = Ok (string_bytes line)
line_taken (Err refusal) = Err (refusal_words refusal)

abbrev pub line_if_taken : Result (Option (String Global)) Refusal → Result (Option (List ℕ)) (List ℕ)
line_if_taken (Ok line) = Ok (line_in line)
line_if_taken (Err refusal) = Err (refusal_words refusal)

abbrev pub manifest_taken : Result (Vec ℕ Global) Refusal → Result (List ℕ) (List ℕ)
manifest_taken (Ok manifest) = Ok manifest.items
manifest_taken (Err refusal) = Err (refusal_words refusal)

-- for it nothing happens
abbrev pub GivesReadyLine : Option SocketAddr → Result (String Global) Refusal → Type 0
GivesReadyLine own result = IsReadyLine own (line_taken result) []

module _ {T P F K S L : Type 0} (o : Outside T P F K S L) (address to : List ℕ) where
  -- memory for several addresses was refused
  abbrev pub LacksAddressRoom : BindFault → List Event → Type 0
  LacksAddressRoom why events = (why ≡ bind.OutOfMemory) × (1 < length (addresses_of to)) × (events ≡ [])

  -- the system refused a port, or there was no room
  abbrev pub LacksPort : BindFault → List Event → Type 0
  LacksPort why events = (o.refuses_port address why × (events ≡ port_asked o address to (Err why) ∷ [])) ⊎ LacksAddressRoom why events

  -- a port is asked for
  abbrev pub AsksForPort : Result P BindFault → List Event → Type 0
  AsksForPort (Ok port) events = IsPortOf o address to port × (events ≡ port_asked o address to (Ok tt) ∷ [])
  AsksForPort (Err why) events = LacksPort why events

-- ---- of `listen`

abbrev pub served_one : {G : Type 0} → OneToServe G → OneServed G
served_one s = record { common = common_with s.config s.tables; games = s.games; stamp = s.stamp }

-- what was opened for the game that these words tell, or the words of the refusal
abbrev pub one_view : {P : Type 0} → Listen → Opened P → OpenedOne P
one_view l at = opened_one (served_of l at.start at.tables at.manifest.items) at.port (line_in at.line)

abbrev pub one_opened : {P : Type 0} → Listen → Result (Opened P) Refusal → Result (OpenedOne P) (List ℕ)
one_opened l (Ok at) = Ok (one_view l at)
one_opened l (Err refusal) = Err (refusal_words refusal)

-- ---- from one moment to another

-- this is done, or a front of it
abbrev pub DoesIn : {T P F K S L : Type 0} → Outside T P F K S L → Doing → T → T → Result ℕ WriteFault → Type 0
DoesIn o Does t t' result = AddsSome o t t' (Performs Does result)

module _ {T P F K S L G : Type 0} (o : Outside T P F K S L) where
  abbrev pub AsksIfIn : Bool → PortServer G F → P → List ℕ → T → T → Type 0
  AsksIfIn is_wanted at port stamp t t' = AddsSome o t t' (AsksIf is_wanted (address_of (o.port port)) at.server stamp)

module _ {T P F K S L G : Type 0} (o : Outside T P F K S L) (facts : GamesFacts G) where
  -- so many datagrams of a port are answered
  abbrev pub AnswersIn : ℕ → PortServer G F → P → T → T → Result ℕ WriteFault → Type 0
  AnswersIn n at port = DoesIn o (AnswersAll o facts at.replies.most n (o.port port).to (form_in at.lines) at.server)

  -- after the game with this stamp was opened
  abbrev pub OpensAndAnswersIn : Listen → List ℕ → PortServer G F → P → T → T → Result ℕ WriteFault → Type 0
  OpensAndAnswersIn l stamp at port = DoesIn o (OpensAndAnswers o facts l at.replies.most stamp port at.server)

  abbrev pub RunsIn : Listen → OneToServe G → P → T → T → Result ℕ WriteFault → Type 0
  RunsIn l served port = DoesIn o (RunsOne o facts l (served_one served) port)

-- under the lock
abbrev pub LocksIn : {T P F K S L : Type 0} → Outside T P F K S L → Listen → OneToServe OneGameView → P → T → T → Result ℕ WriteFault → Type 0
LocksIn o l served port = DoesIn o (LocksAndRuns o l (served_one served) port)
