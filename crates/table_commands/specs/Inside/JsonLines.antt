-- Objects of positions; cited by private functions alone.
use Rattle.json_lines.specs.declared.told.JsonLine.{JsonLine}
use Rattle.json_lines.specs.declared.told.JsonLine.TheVariants as line

-- it is the line of a position, and not of a text's fault
abbrev pub IsPositionLine : JsonLine → Type 0
IsPositionLine (line.Fault fault) = ⊥
IsPositionLine (line.Refused words) = Unit {0}
IsPositionLine (line.Position told) = Unit {0}
IsPositionLine (line.Root told moves) = Unit {0}
