-- The words of `probes --tables DIR [--manifest FILE] [--all-tables] [--memory MB] [--json] [--determined] [--soon] [--progress]` (this project's own).
use Rattle.std.specs.Prelude.{◌≡◌, ◌||◌, ◌&&◌, not, Bool, false, List, [], ◌∷◌, Option, Some, None, codes, option_map}
use Rattle.command_line.specs.LazyFolders.{read_at_once}
use Rattle.clap.specs.Words.{Rule, Text}
use Rattle.command_line.specs.Rules.{rule_of_form}
use Rattle.command_line.specs.declared.commands.Form.TheVariants as form
use Rattle.command_line.specs.Misuses.{Fault, FlagNotWith, NoOption, Unfit}
use Rattle.command_line.specs.declared.words.usage.Instead.TheVariants as instead
use Rattle.command_line.specs.declared.words.usage.Wanted.TheVariants as wanted
use Rattle.task_files.specs.Sources.{Named}
use Rattle.command_line.specs.Numbers.{IsMemory, is_set}
use Rattle.command_line.specs.declared.commands.probes.Probes.{Probes}

abbrev pub rules : List Rule
rules =
    rule_of_form form.Option (codes "tables")
    ∷ rule_of_form form.Option (codes "manifest")
    ∷ rule_of_form form.Flag (codes "all-tables")
    ∷ rule_of_form form.Option (codes "memory")
    ∷ rule_of_form form.Flag (codes "json")
    ∷ rule_of_form form.Flag (codes "determined")
    ∷ rule_of_form form.Flag (codes "soon")
    ∷ rule_of_form form.Flag (codes "progress") ∷ []

-- a value that is told as soon as it is known is told alone, and by no other rule
abbrev pub IsOneForm : Probes → Type 0
IsOneForm t = (t.soon && (t.json || t.determined)) ≡ false

-- the values of its arguments
abbrev pub HasValues : (Text → Option Text) → Probes → Type 0
HasValues value t =
    (Some t.tables.now ≡ value (codes "tables")) × (option_map (λ s. s.now) t.manifest ≡ value (codes "manifest"))
    × (t.all_tables ≡ is_set (value (codes "all-tables"))) × IsMemory (value (codes "memory")) t.memory × (t.json ≡ is_set (value (codes "json"))) × (t.determined ≡ is_set (value (codes "determined")))
    × (t.soon ≡ is_set (value (codes "soon"))) × IsOneForm t × (t.progress ≡ is_set (value (codes "progress")))

-- what may be wrong with its values, in the order in which it is told
abbrev pub faults : List Fault
faults = NoOption (codes "tables") ∷ Unfit wanted.Memory ∷ FlagNotWith instead.Soon (codes "json") ∷ FlagNotWith instead.Soon (codes "determined") ∷ []

-- a table is read when a position asks for it, unless all are wanted at once, or values by other rules
abbrev pub is_lazy : Probes → Bool
is_lazy t = not (t.all_tables || t.determined || t.soon)

-- what is read for it before it answers
abbrev pub named : Probes → Named
named t = record { folder = option_map (λ s. s.now) (read_at_once (is_lazy t) (Some t.tables)); manifest = option_map (λ s. s.now) t.manifest; input = false; kept = None; other_kept = None }
