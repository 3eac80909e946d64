-- The words of `version` (this project's own).
use Rattle.std.specs.Prelude.{List, []}
use Rattle.clap.specs.Words.{Rule}
use Rattle.command_line.specs.Misuses.{Fault}

abbrev pub rules : List Rule
rules = []

-- nothing can be wrong with its values
abbrev pub faults : List Fault
faults = []
