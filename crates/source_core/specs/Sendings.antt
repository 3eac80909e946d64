-- How a run of a source ends, by all that was heard (this project's own).
use Rattle.std.specs.Prelude.{◌≡◌, ◌<◌, ◌+◌, ◌-◌, ℕ, List, length, slice_get, Option}
use Rattle.std.specs.List.{Contains}
use Rattle.board_core.specs.declared.moves.Move.{Move as Moves}
use Rattle.board_core.specs.declared.parts.Parts.{Parts}
use Rattle.board_core.specs.Moves.{IsLegal}
use Rattle.move_msg.specs.declared.stamp.Stamp.{Stamp}
use Rattle.move_msg.specs.Numbers.{most_moves}
use Rattle.move_notation.specs.declared.notation.Notation.{Notation}
use Rattle.move_notation.specs.Notations.{Spells}
use Rattle.system_io.specs.declared.reading.ReadFault.{ReadFault}
use Rattle.system_io.specs.declared.reading.ReadFault.TheVariants as fault
use Rattle.system_io.specs.Ports.{Passing, Missed}
use Rattle.source_core.specs.declared.report.Ruling.{Ruling}
use Rattle.source_core.specs.declared.lines.End.{End}
use Rattle.source_core.specs.declared.lines.End.TheVariants as at_end
use Rattle.source_core.specs.Reports.{IsAgreed, IsRuled, IsClash, IsUnsettled}
use Rattle.source_core.specs.declared.origin.Origin.{Origin}
use Rattle.source_core.specs.Origins.{EndsStarted, IsOwn}
use Rattle.source_core.specs.Boards.{IsBelied, IsBelievedRuling}

-- how the last move stands, by all that has passed, with this position after it
abbrev pub IsSentLast : Origin → Stamp → ℕ → Parts → List Passing → End → Type 0
IsSentLast origin stamp number after all (at_end.Open count) = ⊥
IsSentLast origin stamp number after all (at_end.Ruled r) = IsBelievedRuling stamp (number + 1) after r all × IsOwn origin stamp (number + 1) all
IsSentLast origin stamp number after all (at_end.Clashed c) = IsClash stamp c all
IsSentLast origin stamp number after all (at_end.Started s) = EndsStarted origin stamp (number + 1) s all
IsSentLast origin stamp number after all (at_end.Belied r) = IsBelied stamp (number + 1) after r all × IsOwn origin stamp (number + 1) all
IsSentLast origin stamp number after all (at_end.NotAMove place) = ⊥
IsSentLast origin stamp number after all (at_end.Illegal place) = ⊥
IsSentLast origin stamp number after all at_end.TooLong = ⊥
IsSentLast origin stamp number after all at_end.Lost = IsUnsettled stamp number all × IsOwn origin stamp (number + 1) all
IsSentLast origin stamp number after all at_end.PortLost = Contains all Missed
IsSentLast origin stamp number after all at_end.Unread = ⊥
IsSentLast origin stamp number after all at_end.OutOfMemory = ⊥

-- why the move of a line isn't sent: the line is none, or no legal one, or there are as many as a game may have
abbrev pub IsRefusedLine : Notation → Parts → ℕ → List ℕ → End → Type 0
IsRefusedLine notation position number line (at_end.Open count) = ⊥
IsRefusedLine notation position number line (at_end.Ruled r) = ⊥
IsRefusedLine notation position number line (at_end.Clashed c) = ⊥
IsRefusedLine notation position number line (at_end.Started s) = ⊥
IsRefusedLine notation position number line (at_end.Belied r) = ⊥
IsRefusedLine notation position number line (at_end.NotAMove place) = (place ≡ number) × (number < most_moves) × ((m : Moves) → Spells notation position line m → ⊥)
IsRefusedLine notation position number line (at_end.Illegal place) = (place ≡ number) × (number < most_moves) × ((m : Moves) × Spells notation position line m × (IsLegal position m → ⊥))
IsRefusedLine notation position number line at_end.TooLong = number ≡ most_moves
IsRefusedLine notation position number line at_end.Lost = ⊥
IsRefusedLine notation position number line at_end.PortLost = ⊥
IsRefusedLine notation position number line at_end.Unread = ⊥
IsRefusedLine notation position number line at_end.OutOfMemory = ⊥

-- what an input tells of why a read fails: it can't be read to its end; or reading on takes memory, which may be refused
abbrev pub causes : Type 0 → Type 0 → ReadFault → Type 0
causes fails takes_memory fault.Unreadable = fails
causes fails takes_memory fault.OutOfMemory = takes_memory

-- how a game stands at the input's end, by all that has passed and by the position after so many moves: open where no verdict was
-- reported by both
abbrev pub ClosesSo : Origin → Stamp → ℕ → Parts → List Passing → End → Type 0
ClosesSo origin stamp number position all (at_end.Open count) = (count ≡ number) × ((r : Ruling) → IsRuled stamp r all → ⊥) × IsAgreed stamp all × IsOwn origin stamp number all
ClosesSo origin stamp number position all (at_end.Ruled r) = IsBelievedRuling stamp number position r all × IsOwn origin stamp number all
ClosesSo origin stamp number position all (at_end.Clashed c) = IsClash stamp c all
ClosesSo origin stamp number position all (at_end.Started s) = EndsStarted origin stamp number s all
ClosesSo origin stamp number position all (at_end.Belied r) = IsBelied stamp number position r all × IsOwn origin stamp number all
ClosesSo origin stamp number position all (at_end.NotAMove place) = ⊥
ClosesSo origin stamp number position all (at_end.Illegal place) = ⊥
ClosesSo origin stamp number position all at_end.TooLong = ⊥
ClosesSo origin stamp number position all at_end.Lost = ⊥
ClosesSo origin stamp number position all at_end.PortLost = Contains all Missed
ClosesSo origin stamp number position all at_end.Unread = ⊥
ClosesSo origin stamp number position all at_end.OutOfMemory = ⊥

-- the last of the moves
abbrev pub last_of : List Moves → Option Moves
last_of moves = slice_get moves (length moves - 1)
