-- The words of `check --manifest FILE [--progress] DIR` (this project's own).
use Rattle.std.specs.Prelude.{◌≡◌, List, [], ◌∷◌, Option, Some, codes}
use Rattle.clap.specs.Words.{Rule, Text}
use Rattle.command_line.specs.Rules.{rule_of_form}
use Rattle.command_line.specs.declared.commands.Form.TheVariants as form
use Rattle.command_line.specs.Misuses.{Fault, NoOption, NoWord}
use Rattle.command_line.specs.Numbers.{is_set}
use Rattle.command_line.specs.declared.commands.check.Check.{Check}

abbrev pub rules : List Rule
rules =
    rule_of_form form.Option (codes "manifest")
    ∷ rule_of_form form.Flag (codes "progress")
    ∷ rule_of_form form.Word (codes "DIR") ∷ []

-- the values of its arguments
abbrev pub HasValues : (Text → Option Text) → Check → Type 0
HasValues value t = (Some t.manifest.now ≡ value (codes "manifest")) × (t.progress ≡ is_set (value (codes "progress"))) × (Some t.folder.now ≡ value (codes "DIR"))

-- what may be wrong with its values, in the order in which it is told
abbrev pub faults : List Fault
faults = NoOption (codes "manifest") ∷ NoWord (codes "DIR") ∷ []
