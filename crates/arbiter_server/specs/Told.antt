-- What a host tells of a datagram (this project's own).
use Rattle.std.specs.Prelude.{ℕ, List, ◌++◌, codes}
use Rattle.std.specs.Fmt.{decimal}
use Rattle.hex.specs.Hex.{encode_lower}
use Rattle.arbiter_core.specs.declared.fault.OpenFault.{OpenFault}
use Rattle.arbiter_core.specs.declared.fault.OpenFault.TheVariants as open_fault
use Rattle.arbiter_core.specs.declared.fault.DeliverFault.TheVariants.{NotAMessage}
use Rattle.arbiter_server.specs.ServedLines.{heard_line, refused_datagram, refused_memory, refused_port, refused_store}
use Rattle.arbiter_server.specs.declared.fault.OpenGameError.{OpenGameError}
use Rattle.arbiter_server.specs.declared.fault.OpenGameError.TheVariants as unopened
use Rattle.arbiter_server.specs.declared.line.Line.{Line}
use Rattle.arbiter_server.specs.declared.line.Line.TheVariants as line

-- why a game isn't open whose arbiter can't be opened
abbrev pub unopened_by : OpenFault → OpenGameError
unopened_by open_fault.BadSetup = unopened.Keeper
unopened_by open_fault.KeeperFailed = unopened.Keeper
unopened_by open_fault.BadRecord = unopened.Keeper
unopened_by open_fault.OtherStamp = unopened.OtherGame
unopened_by open_fault.OutOfMemory = unopened.OutOfMemory

abbrev pub unopened_words : OpenGameError → List ℕ
unopened_words unopened.NotOpen = codes "refused NotOpen"
unopened_words unopened.NoGame = codes "refused NoGame"
unopened_words unopened.OtherGame = codes "refused OtherGame"
unopened_words (unopened.BadGame number) = codes "refused game " ++ decimal number
unopened_words unopened.Keeper = codes "refused keeper"
unopened_words unopened.OutOfMemory = codes "refused memory"

-- the stamp in lower-case hexadecimal digits comes first
abbrev pub stamped : List ℕ → List ℕ → List ℕ
stamped stamp words = encode_lower stamp ++ codes " " ++ words

abbrev pub line_words : Line → List ℕ
line_words (line.Answered stamp heard) = stamped stamp (heard_line heard)
line_words (line.Unopened stamp why) = stamped stamp (unopened_words why)
line_words (line.Unread fault) = codes "- " ++ refused_datagram (NotAMessage fault)
line_words line.PortLost = refused_port
line_words line.StoreLost = refused_store
line_words line.MemoryLost = refused_memory
