-- The words of `run [--tables DIR] [--cache N] [--delay N]` (this project's own).
use Rattle.std.specs.Prelude.{◌≡◌, List, [], ◌∷◌, Option, codes, option_map}
use Rattle.clap.specs.Words.{Rule, Text}
use Rattle.command_line.specs.Rules.{rule_of_form}
use Rattle.command_line.specs.declared.commands.Form.TheVariants as form
use Rattle.command_line.specs.Misuses.{Fault, Unfit}
use Rattle.command_line.specs.declared.words.usage.Wanted.TheVariants as wanted
use Rattle.command_line.specs.Numbers.{IsCache, IsDelay}
use Rattle.command_line.specs.declared.commands.run.RunSchedule.{RunSchedule}

abbrev pub rules : List Rule
rules =
    rule_of_form form.Option (codes "tables")
    ∷ rule_of_form form.Option (codes "cache")
    ∷ rule_of_form form.Option (codes "delay") ∷ []

-- the values of its arguments
abbrev pub HasValues : (Text → Option Text) → RunSchedule → Type 0
HasValues value t = (option_map (λ s. s.now) t.tables ≡ value (codes "tables")) × IsCache (value (codes "cache")) t.cache × IsDelay (value (codes "delay")) t.delay

-- what may be wrong with its values, in the order in which it is told
abbrev pub faults : List Fault
faults = Unfit wanted.Cache ∷ Unfit wanted.Delay ∷ []
