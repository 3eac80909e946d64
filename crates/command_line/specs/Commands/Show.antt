-- The words of `show` (this project's own).
use Rattle.std.specs.Prelude.{List, []}
use Rattle.clap.specs.Words.{Rule}
use Rattle.command_line.specs.Misuses.{Fault}

abbrev pub rules : List Rule
rules = []

-- what may be wrong with its values, in the order in which it is told
abbrev pub faults : List Fault
faults = []
