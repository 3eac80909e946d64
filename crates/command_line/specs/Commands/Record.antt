-- The words of `record FILE` (this project's own).
use Rattle.std.specs.Prelude.{◌≡◌, false, List, [], ◌∷◌, Option, Some, None, codes}
use Rattle.clap.specs.Words.{Rule, Text}
use Rattle.command_line.specs.Rules.{rule_of_form}
use Rattle.command_line.specs.declared.commands.Form.TheVariants as form
use Rattle.command_line.specs.Misuses.{Fault, NoWord}
use Rattle.task_files.specs.Sources.{Named}
use Rattle.command_line.specs.declared.commands.record.ShowRecord.{ShowRecord}

abbrev pub rules : List Rule
rules =
    rule_of_form form.Word (codes "FILE")
    ∷ rule_of_form form.Option (codes "games") ∷ []

-- the values of its arguments
abbrev pub HasValues : (Text → Option Text) → ShowRecord → Type 0
HasValues value t = Some t.file.now ≡ value (codes "FILE")

-- what may be wrong with its values, in the order in which it is told
abbrev pub faults : List Fault
faults = NoWord (codes "FILE") ∷ []

-- what is read for it
abbrev pub named : ShowRecord → Named
named t = record { folder = None; manifest = None; input = false; kept = Some t.file.now; other_kept = None }
