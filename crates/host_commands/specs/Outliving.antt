-- A host that outlives its log (this project's own).
use Rattle.std.specs.Prelude.{◌≡◌, ℕ, Bool, true, false, List, Result, OnErr}
use Rattle.std.specs.List.{AllByRecursion}
use Rattle.answer_parts.specs.Printing.{Performs}
use Rattle.command_line.specs.declared.commands.host.HostGames.{HostGames}
use Rattle.system_io.specs.declared.output.WriteFault.{WriteFault}
use Rattle.timeline.specs.Events.{Came, Event, Missed, Quiet}
use Rattle.host_commands.specs.Steps.{Doing}

-- a datagram was awaited: one came, or none did in time, or none could be received
abbrev pub is_receive : Event → Bool
is_receive (Came from bytes) = true
is_receive (Quiet nanos) = true
is_receive Missed = true
is_receive _ = false

-- none was
abbrev pub ReceivesNothing : List Event → Type 0
ReceivesNothing events = AllByRecursion (λ e. is_receive e ≡ false) events

-- It is done, or a front of it, as `Performs` has it. Where the words say that the games outlive their log, an output that fails ends it only
-- before a datagram is awaited.
abbrev pub PerformsOutliving : HostGames → Doing → Result ℕ WriteFault → List Event → Type 0
PerformsOutliving h Does result events = Performs Does result events × (h.outlives_log ≡ true → OnErr result (ReceivesNothing events))
